-- A store in a region is a store in the view of it, a store right behind it makes it one longer, and any other leaves the view as it was. Assumes nothing.
use Prim.Native.Nat.{ℕ, ◌+◌, ◌-◌, ◌<◌, ◌≤◌}
use mathlib.Core.Path.{◌≡◌, ap, ◌∙◌}
use mathlib.Core.List.{List, [], ◌∷◌, ◌++◌}
use native.Mathlib.Numerals.{add-one}
use native.Mathlib.Omega.{arith}
use lib.ListN.{length, get_or, set, take, drop, length-drop}
use lib.Seq.{length-take-le, get_or-take, get_or-drop, drop-set-add, take-set-lt, take-suc-set, drop-set-lt, take-set-le}
use Rattle.scratch.specs.Region.{region}

module _ {A : Type 0} (a n : ℕ) (s : List A) where
  pub length_region : a + n ≤ length s → length (region a n s) ≡ n
  unfolding region
  length_region h = length-take-le n (drop a s) (omega (arith, length-drop a s))

  pub region_at : (e : ℕ) (d : A) → e < n → get_or (region a n s) e d ≡ get_or s (a + e) d
  unfolding region
  region_at e d h = get_or-take n (drop a s) e d h ∙ get_or-drop a s e d

  pub region_set : (e : ℕ) (x : A) → e < n → region a n (set s (a + e) x) ≡ set (region a n s) e x
  unfolding region
  region_set e x h = ap (take n) (drop-set-add a s e x) ∙ take-set-lt n (drop a s) e x h

  -- a store right behind it makes it one longer
  pub region_push : (x : A) → a + n < length s → region a (n + 1) (set s (a + n) x) ≡ region a n s ++ (x ∷ [])
  unfolding region
  region_push x h = rw (add-one, drop-set-add a s n x) (take-suc-set (drop a s) n x (omega (arith, length-drop a s)))

  pub region_below : (i : ℕ) (x : A) → i < a → region a n (set s i x) ≡ region a n s
  unfolding region
  region_below i x h = ap (take n) (drop-set-lt a s i x h)

  pub region_above : (i : ℕ) (x : A) → a + n ≤ i → region a n (set s i x) ≡ region a n s
  unfolding region
  region_above i x h =
      let k : i ≡ a + (i - a) = omega arith in
      ap (λ (j : ℕ). take n (drop a (set s j x))) k ∙ ap (take n) (drop-set-add a s (i - a) x) ∙ take-set-le n (drop a s) (i - a) x (omega arith)
