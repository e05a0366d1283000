-- Parts of a list after a store, and what lists share that share a front or a rest. Assumes nothing.
use mathlib.Core.Path.{◌≡◌, sym, ap, ◌∙◌}
use mathlib.Core.List.{List, ◌∷◌}
use Prim.Native.Nat.{ℕ, suc, ◌+◌, ◌-◌, ◌<◌, ◌≤◌}
use native.Mathlib.Decide.{dec_lt}
use native.Mathlib.Omega.{arith}
use lib.ListN.{length, get_or, set, drop, take, length-set}
use lib.Seq.{slice, slice-cons, take-set-le, take-set-lt, drop-set-lt, drop-drop, get_or-set_same, get_or-take, take-take}

pub slice_set_after : (f t : ℕ) (l : List ℕ) (p a : ℕ) → t ≤ p → slice f t (set l p a) ≡ slice f t l
slice_set_after f t l p a h = rw (take-set-le t l p a h)

pub slice_set_before : (f t : ℕ) (l : List ℕ) (p a : ℕ) → p < f → slice f t (set l p a) ≡ slice f t l
slice_set_before f t l p a h =
    elim (dec_lt p t) [
      | yes q ↦ rw (take-set-lt t l p a q, drop-set-lt f (take t l) p a h)
      | no q ↦ slice_set_after f t l p a (omega arith)
    ]

pub slice_set_here : (f t : ℕ) (l : List ℕ) (a : ℕ) → f < t → t ≤ length l → slice f t (set l f a) ≡ a ∷ slice (suc f) t l
slice_set_here f t l a h k =
    slice-cons f t (set l f a) 0 h (simp length-set k)
    ∙ rw (get_or-set_same l f a 0 (omega arith), slice_set_before (suc f) t l f a (omega arith))

-- what two lists share from a on they share from b on
pub drop_more : (a b : ℕ) (l m : List ℕ) → a ≤ b → drop a l ≡ drop a m → drop b l ≡ drop b m
drop_more a b l m h e =
    let q : a + (b - a) ≡ b = omega arith in
    rw q at (sym (drop-drop (b - a) a l) ∙ ap (λ (t : List ℕ). drop (b - a) t) e ∙ drop-drop (b - a) a m)

module _ (b : ℕ) (u v : List ℕ) (e : take b u ≡ take b v) where
  pub front_get_d : (q : ℕ) → q < b → get_or u q 0 ≡ get_or v q 0
  front_get_d q h = sym (get_or-take b u q 0 h) ∙ ap (λ (t : List ℕ). get_or t q 0) e ∙ get_or-take b v q 0 h

  pub front_slice : (f t : ℕ) → t ≤ b → slice f t u ≡ slice f t v
  front_slice f t h = ap (drop f) (sym (take-take t b u h) ∙ ap (take t) e ∙ take-take t b v h)
