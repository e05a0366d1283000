-- The words before a copy, in it and behind it, and fronts that are the same. Assumes nothing.
use Prim.Native.Nat.{ℕ, ◌+◌, ◌-◌, ◌<◌, ◌≤◌}
use mathlib.Core.Path.{◌≡◌, sym, ap, ◌∙◌}
use mathlib.Core.List.{List, ◌++◌}
use native.Mathlib.Omega.{arith}
use lib.ListN.{length, get_or, take}
use lib.Seq.{paste, take-paste, drop-paste, take-append-le, take-take, get_or-append-add, get_or-take, get_or-drop, length-take-le, ext_get_or}

module _ (u l : List ℕ) (at n : ℕ) (room : at + n ≤ length u) (long : n ≤ length l) where
  pub paste_front : (d : ℕ) → d ≤ at → take d (paste u at l n) ≡ take d u
  paste_front d h =
      let k : length (take at u) ≡ at = length-take-le at u (omega arith) in
      sym (take-take d (at + n) (paste u at l n) (omega arith))
      ∙ ap (take d) (take-paste u at l n (omega arith) long)
      ∙ take-append-le d (take at u) (take n l) (omega arith)
      ∙ take-take d at u h

  pub paste_inside : (j : ℕ) → j < n → get_or (paste u at l n) (at + j) 0 ≡ get_or l j 0
  paste_inside j h =
      let k : length (take at u) ≡ at = length-take-le at u (omega arith) in
      sym (get_or-take (at + n) (paste u at l n) (at + j) 0 (omega arith))
      ∙ ap (λ (z : List ℕ). get_or z (at + j) 0) (take-paste u at l n (omega arith) long)
      ∙ ap (λ (z : ℕ). get_or (take at u ++ take n l) (z + j) 0) (sym k)
      ∙ get_or-append-add (take at u) (take n l) j 0
      ∙ get_or-take n l j 0 h

  pub paste_behind : (t : ℕ) → at + n ≤ t → get_or (paste u at l n) t 0 ≡ get_or u t 0
  paste_behind t h =
      let e : at + n + (t - (at + n)) ≡ t = omega arith in
      rw e at (sym (get_or-drop (at + n) (paste u at l n) (t - (at + n)) 0)
      ∙ ap (λ (z : List ℕ). get_or z (t - (at + n)) 0) (drop-paste u at l n (omega arith) long)
      ∙ get_or-drop (at + n) u (t - (at + n)) 0)

-- what is the same up to d has one front
pub front_by : (d : ℕ) (u u' : List ℕ) → d ≤ length u → length u' ≡ length u → ((p : ℕ) → p < d → get_or u' p 0 ≡ get_or u p 0) → take d u' ≡ take d u
front_by d u u' h long same =
    let a = length-take-le d u' (omega arith) in
    ext_get_or 0 (take d u') (take d u) (a ∙ sym (length-take-le d u h))
    (λ p l. let k : p < d = omega (arith, l, a) in get_or-take d u' p 0 k ∙ same p k ∙ sym (get_or-take d u p 0 k))
