-- Further laws of sums by index: over the members of a list, and over the ends of entries. Assumes nothing.
use Prim.Native.Nat.{ℕ, zero, suc, ◌<◌}
use mathlib.Core.Path.{◌≡◌, refl, sym, ap, ◌∙◌}
use mathlib.Core.Bool.{Bool, true, false, ◌||◌}
use mathlib.Core.List.{List, [], ◌∷◌}
use native.Mathlib.Nat.{add-mul}
use native.Mathlib.Omega.{arith}
use lib.Dec.{eqb}
use lib.ListN.{length, get_or}
use borrow.Author.Tests.{eqb-true}
use Rattle.whole.specs.Whole.{Whole, nothing, ◌⊕◌, ◌⊙◌, only, sum, ◌≈◌}
use Rattle.whole.proofs.Sums.{sum_add, sum_same, sum_zero, sum_at, sum_swap}
use Rattle.parts.specs.Part.{has, Apart}

pub sum_front : (n : ℕ) (g : ℕ → Whole) → sum (suc n) g ≈ g 0 ⊕ sum n (λ k. g (suc k))
unfolding sum
sum_front zero g = omega arith
sum_front (suc n) g = omega (arith, sum_front n g)

pub sum_times : (n v : ℕ) (g : ℕ → Whole) → sum n g ⊙ v ≈ sum n (λ k. g k ⊙ v)
unfolding sum
sum_times zero v g = omega arith
sum_times (suc n) v g = omega (arith, sum_times n v g, add-mul (sum n g).plus (g n).plus v, add-mul (sum n g).less (g n).less v)

pub only_times : (b : Bool) (a : Whole) (v : ℕ) → only b a ⊙ v ≈ only b (a ⊙ v)
only_times true a v = refl
only_times false a v = omega arith

-- over a list without repeats: over all variables, where the list has them
pub sum_members : (n : ℕ) (l : List ℕ) → Apart l → ((b : ℕ) → b < length l → get_or l b 0 < n) → (g : ℕ → Whole)
    → sum (length l) (λ b. g (get_or l b 0)) ≈ sum n (λ i. only (has l i) (g i))
unfolding has Apart sum
sum_members n [] A below g = omega (arith, sum_zero n (λ i. nothing) (λ i h. refl))
sum_members n (j ∷ l) A below g =
    omega (
      arith,
      sum_front (length l) (λ b. g (get_or (j ∷ l) b 0)),
      sum_members n l A.1 (λ b h. below (suc b) (omega arith)) g,
      sum_add n (λ i. only (eqb j i || has l i) (g i)) (λ i. only (eqb j i) (g i)) (λ i. only (has l i) (g i)) (λ i h. apart (eqb j i) i refl),
      sum_at n g j (below 0 (omega arith)),
    )
  where
    apart : (b : Bool) (i : ℕ) → eqb j i ≡ b → only (b || has l i) (g i) ≈ only b (g i) ⊕ only (has l i) (g i)
    apart true i e = let none : has l i ≡ false = ap (has l) (sym (eqb-true j i e)) ∙ A.0 in rw none (omega arith)
    apart false i e = omega arith

-- over all variables and entries, where an entry has its end: over the entries
pub collect : (n m : ℕ) (r : ℕ → ℕ) → ((k : ℕ) → k < m → r k < n) → (g : ℕ → ℕ → Whole)
    → sum n (λ i. sum m (λ k. only (eqb (r k) i) (g i k))) ≈ sum m (λ k. g (r k) k)
collect n m r below g =
    omega (
      arith,
      sum_swap n m (λ i k. only (eqb (r k) i) (g i k)),
      sum_same m (λ k. sum n (λ i. only (eqb (r k) i) (g i k))) (λ k. g (r k) k) (λ k h. sum_at n (λ i. g i k) (r k) (below k h)),
    )
