-- How far the sums over a pair's neighbours can reach: all merged weights of a variable together are no more than its entries. Assumes nothing.
use mathlib.Core.Path.{◌≡◌, refl}
use mathlib.Core.Logic.{◌⊎◌, inl, inr}
use mathlib.Core.Bool.{Bool, true, false}
use Prim.Native.Nat.{ℕ, zero, suc, ◌+◌, ◌*◌, ◌^◌, ◌≤◌, ◌<◌}
use native.Mathlib.Nat.{eq-or-lt_of_le}
use native.Mathlib.Omega.{arith}
use lib.Dec.{eqb}
use Rattle.whole.specs.Whole.{Whole, ◌⊕◌, only, sum, ◌⊑◌, ◌≈◌, Under}
use Rattle.whole.proofs.Sums.{sum_add, sum_same, sum_swap, sum_at}
use Rattle.meaning.specs.Field.{Field, Within}
use Rattle.meaning.specs.Pair.{joins, merged}

-- both sides of the ledger together
abbrev both_sides : Whole → Whole
both_sides a = record { plus = a.plus + a.less; less = 0 }

sides_sum : (n : ℕ) (g : ℕ → Whole) → both_sides (sum n g) ≈ sum n (λ k. both_sides (g k))
unfolding sum
sides_sum zero g = refl
sides_sum (suc n) g = omega (arith, sides_sum n g)

-- a sum of both sides has nothing on the other side
no_less : (n : ℕ) (g : ℕ → Whole) → ((k : ℕ) → (g k).less ≡ 0) → (sum n g).less ≡ 0
unfolding sum
no_less zero g h = refl
no_less (suc n) g h = omega (arith, no_less n g h, h n)

-- a sum each of whose terms is at most b
sum_most : (n b : ℕ) (g : ℕ → Whole) → ((k : ℕ) → k < n → g k ⊑ record { plus = b; less = 0 }) → b ≡ 2 ^ 33 → sum n g ⊑ record { plus = 2 ^ 33 * n; less = 0 }
unfolding sum
sum_most zero b g h e = omega arith
sum_most (suc n) b g h e = omega (arith, sum_most n b g (λ k l. h k (omega arith)) e, h n (omega arith))

-- a part of a sum is below the whole, where no term is on the other side
sum_grows : (k n : ℕ) (g : ℕ → Whole) → k ≤ n → (sum k g).plus ≤ (sum n g).plus
unfolding sum
sum_grows k zero g h = go k h
  where
    go : (k : ℕ) → k ≤ 0 → (sum k g).plus ≤ 0
    go zero h = omega arith
    go (suc k) h = absurd (omega arith)
sum_grows k (suc n) g h = go (eq-or-lt_of_le h) (sum_grows k n g)
  where
    go : (k ≡ suc n) ⊎ (k < suc n) → (k ≤ n → (sum k g).plus ≤ (sum n g).plus) → (sum k g).plus ≤ (sum n g).plus + (g n).plus
    go (inl e) ih = rw e (omega arith)
    go (inr l) ih = omega (arith, ih (omega arith))

sum_inside : (k : ℕ) (g h : ℕ → Whole) → ((k : ℕ) → ((g k).plus ≤ (h k).plus) × ((g k).less ≤ (h k).plus)) → Under (sum k h).plus (sum k g)
unfolding sum
sum_inside zero g h e = omega arith
sum_inside (suc k) g h e = omega (arith, sum_inside k g h e, e k)

only_sides : (p q : Bool) (w : Whole) → both_sides (only p (only q w)) ≡ only q (only p (both_sides w))
only_sides true true w = refl
only_sides true false w = refl
only_sides false true w = refl
only_sides false false w = refl

only_most : (p : Bool) (w : Whole) → Under (2 ^ 31) w → only p (both_sides w) ⊑ record { plus = 2 ^ 32; less = 0 }
only_most true w h = omega arith
only_most false w h = omega arith

module _ (F : Field) (fits : Within F) (few : F.m ≤ 32768) (small : (e : ℕ) → e < F.m → Under (2 ^ 31) (F.weight e)) where
  entry_spread : (i e : ℕ) → e < F.m → sum F.n (λ k. both_sides (joins F i k e)) ⊑ record { plus = 2 ^ 33; less = 0 }
  entry_spread i e h =
      omega (
        arith,
        sum_add F.n (λ k. both_sides (joins F i k e))
            (λ k. only (eqb (F.column e) k) (only (eqb (F.row e) i) (both_sides (F.weight e)))) (λ k. only (eqb (F.row e) k) (only (eqb (F.column e) i) (both_sides (F.weight e))))
            (λ k l. rw (← only_sides (eqb (F.row e) i) (eqb (F.column e) k) (F.weight e), ← only_sides (eqb (F.column e) i) (eqb (F.row e) k) (F.weight e)) (omega arith)),
        sum_at F.n (λ k. only (eqb (F.row e) i) (both_sides (F.weight e))) (F.column e) (fits e h).1,
        sum_at F.n (λ k. only (eqb (F.column e) i) (both_sides (F.weight e))) (F.row e) (fits e h).0,
        only_most (eqb (F.row e) i) (F.weight e) (small e h),
        only_most (eqb (F.column e) i) (F.weight e) (small e h),
      )

  pub spread : (i : ℕ) → (sum F.n (λ k. both_sides (merged F i k))).plus ≤ 2 ^ 48
  spread i =
      omega (
        arith,
        few,
        sum_same F.n (λ k. both_sides (merged F i k)) (λ k. sum F.m (λ e. both_sides (joins F i k e))) (λ k h. sides_sum F.m (joins F i k)),
        sum_swap F.n F.m (λ k e. both_sides (joins F i k e)),
        sum_most F.m (2 ^ 33) (λ e. sum F.n (λ k. both_sides (joins F i k e))) (entry_spread i) refl,
        no_less F.n (λ k. both_sides (merged F i k)) (λ k. refl),
      )

  -- what is below both variables' weights at each neighbour adds up to little
  pub pair_reach : (i j : ℕ) (g : ℕ → Whole) → ((k : ℕ) → Under ((merged F i k).plus + (merged F i k).less + ((merged F j k).plus + (merged F j k).less)) (g k)) → (k : ℕ) → k ≤ F.n → Under (2 ^ 49) (sum k g)
  pair_reach i j g h k l =
      omega (
        arith,
        sum_inside k g (λ k. both_sides (merged F i k) ⊕ both_sides (merged F j k)) h,
        sum_grows k F.n (λ k. both_sides (merged F i k) ⊕ both_sides (merged F j k)) l,
        sum_add F.n (λ k. both_sides (merged F i k) ⊕ both_sides (merged F j k)) (λ k. both_sides (merged F i k)) (λ k. both_sides (merged F j k)) (λ k l. refl),
        no_less F.n (λ k. both_sides (merged F i k) ⊕ both_sides (merged F j k)) (λ k. refl),
        no_less F.n (λ k. both_sides (merged F i k)) (λ k. refl),
        no_less F.n (λ k. both_sides (merged F j k)) (λ k. refl),
        spread i,
        spread j,
      )
