-- A part of the words is filled with 2. Assumes nothing.
use Prim.Native.Nat.{ℕ, ◌+◌, ◌-◌, ◌<◌, ◌≤◌}
use mathlib.Core.Path.{◌≡◌, sym, ap, ◌∙◌}
use mathlib.Core.List.{List, ◌++◌}
use native.Mathlib.Omega.{arith}
use borrow.Rule.Slice.PartMut.{mid_of, post_of, put_mid, mid_len, same_len_mid, take_put, drop_put}
use lib.ListN.{length, get_or, take, replicate, length-replicate, get_or-replicate, get_or-append}
use lib.Seq.{length-take-le, get_or-append-add, get_or-drop}
use Rattle.probes.specs.Standing.{Noned}

module _ (at n : ℕ) (u : List ℕ) {w : List ℕ} (room : at + n ≤ length u) (twos : w ≡ replicate (length (mid_of at (at + n - at) u)) 2) where
  whole : at + n - at ≡ n
  whole = omega arith

  mid_long : length (mid_of at (at + n - at) u) ≡ n
  mid_long = mid_len at (at + n) u room ∙ whole

  twos_long : length w ≡ n
  twos_long = ap length twos ∙ length-replicate _ 2 ∙ mid_long

  abbrev left : List ℕ
  left = put_mid at (at + n - at) u w

  inside : (t : ℕ) → t < n → get_or left (at + t) 0 ≡ 2
  inside t l =
      let front : length (take at u) ≡ at = length-take-le at u (omega arith) in
      ap (λ (k : ℕ). get_or left (k + t) 0) (sym front)
      ∙ get_or-append-add (take at u) (w ++ post_of at (at + n - at) u) t 0
      ∙ get_or-append w (post_of at (at + n - at) u) 0 t (omega (arith, twos_long))
      ∙ ap (λ (z : List ℕ). get_or z t 0) twos
      ∙ get_or-replicate (length (mid_of at (at + n - at) u)) t 2 0 (omega (arith, mid_long))

  after_it : (t : ℕ) → at + n ≤ t → get_or left t 0 ≡ get_or u t 0
  after_it t l =
      let e : at + n + (t - (at + n)) ≡ t = omega arith in
      rw e at (sym (get_or-drop (at + n) left (t - (at + n)) 0)
      ∙ ap (λ (z : List ℕ). get_or z (t - (at + n)) 0) (drop_put at (at + n) u w (omega arith) room (twos_long ∙ sym whole))
      ∙ get_or-drop (at + n) u (t - (at + n)) 0)

  pub noned_fill : Noned at n u left
  noned_fill = record {
    long = same_len_mid at (at + n - at) u w (twos_long ∙ sym mid_long);
    front = take_put at (at + n - at) u w (omega arith);
    none = inside;
    behind = after_it;
  }
