-- The laws of sums by index. Assumes nothing.
use mathlib.Core.Path.{◌≡◌, refl, sym, ap}
use mathlib.Core.Logic.{◌≢◌}
use mathlib.Core.Bool.{Bool, true, false}
use Prim.Native.Nat.{ℕ, zero, suc, ◌*◌, ◌<◌}
use native.Mathlib.Decide.{ℕ_discrete}
use native.Mathlib.Omega.{arith}
use lib.Dec.{eqb}
use borrow.Author.Tests.{eqb-true, eq-eqb, ne_eqb}
use Rattle.whole.specs.Whole.{Whole, nothing, ◌⊕◌, ◌⊖◌, only, sum, ◌⊑◌, ◌≈◌, Zero, Under}

-- ---- a term that a test picks

pub only_le : (b : Bool) (a c : Whole) → a ⊑ c → only b a ⊑ only b c
only_le true a c h = h
only_le false a c h = omega arith

pub only_same : (b : Bool) (a c : Whole) → (b ≡ true → a ≈ c) → only b a ≈ only b c
only_same true a c h = h refl
only_same false a c h = refl

pub only_zero : (b : Bool) (a : Whole) → (b ≡ true → Zero a) → Zero (only b a)
only_zero true a h = h refl
only_zero false a h = refl

pub only_under : (l : ℕ) (b : Bool) (a : Whole) → Under l a → Under l (only b a)
only_under l true a h = h
only_under l false a h = omega arith

-- ---- term by term

-- THE ONE INDUCTION: what holds of each term holds of the sums
pub sum_weigh : (n : ℕ) (f g h l : ℕ → Whole) → ((k : ℕ) → k < n → f k ⊕ g k ⊑ h k ⊕ l k) → sum n f ⊕ sum n g ⊑ sum n h ⊕ sum n l
unfolding sum
sum_weigh zero f g h l e = omega arith
sum_weigh (suc n) f g h l e = omega (arith, sum_weigh n f g h l (λ k b. e k (omega arith)), e n (omega arith))

pub sum_nothing : (n : ℕ) → Zero (sum n (λ k. nothing))
unfolding sum
sum_nothing zero = refl
sum_nothing (suc n) = omega (arith, sum_nothing n)

pub sum_le : (n : ℕ) (f g : ℕ → Whole) → ((k : ℕ) → k < n → f k ⊑ g k) → sum n f ⊑ sum n g
sum_le n f g h =
    omega (arith, sum_weigh n f (λ k. nothing) g (λ k. nothing) (λ k b. omega (arith, h k b)))

pub sum_four : (n : ℕ) (f g h l : ℕ → Whole) → ((k : ℕ) → k < n → f k ⊕ g k ≈ h k ⊕ l k) → sum n f ⊕ sum n g ≈ sum n h ⊕ sum n l
sum_four n f g h l e =
    omega (arith, sum_weigh n f g h l (λ k b. omega (arith, e k b)), sum_weigh n h l f g (λ k b. omega (arith, e k b)))

pub sum_add : (n : ℕ) (f g h : ℕ → Whole) → ((k : ℕ) → k < n → f k ≈ g k ⊕ h k) → sum n f ≈ sum n g ⊕ sum n h
sum_add n f g h e = omega (arith, sum_nothing n, sum_four n f (λ k. nothing) g h (λ k b. omega (arith, e k b)))

pub sum_same : (n : ℕ) (f g : ℕ → Whole) → ((k : ℕ) → k < n → f k ≈ g k) → sum n f ≈ sum n g
sum_same n f g e = omega (arith, sum_nothing n, sum_add n f g (λ k. nothing) (λ k b. omega (arith, e k b)))

pub sum_zero : (n : ℕ) (g : ℕ → Whole) → ((k : ℕ) → k < n → Zero (g k)) → Zero (sum n g)
sum_zero n g h = omega (arith, sum_nothing n, sum_same n g (λ k. nothing) (λ k b. omega (arith, h k b)))

-- each term turned is the sum turned
pub sum_turned : (n : ℕ) (f g : ℕ → Whole) → ((k : ℕ) → k < n → f k ≈ nothing ⊖ g k) → sum n f ≈ nothing ⊖ sum n g
sum_turned n f g h =
    omega (arith, sum_nothing n, sum_four n f g (λ k. nothing) (λ k. nothing) (λ k b. omega (arith, h k b)))

-- ---- one term

-- a sum of terms that a test picks at one place is the term there
pub sum_at : (n : ℕ) (g : ℕ → Whole) (i : ℕ) → i < n → sum n (λ k. only (eqb i k) (g k)) ≈ g i
unfolding sum
sum_at zero g i h = omega arith
sum_at (suc n) g i h = go (ℕ_discrete i n) (sum_at n g i)
  where
    go : Dec (i ≡ n) → (i < n → sum n (λ k. only (eqb i k) (g k)) ≈ g i) → sum n (λ k. only (eqb i k) (g k)) ⊕ only (eqb i n) (g n) ≈ g i
    go (yes e) ih =
        let last : only (eqb i n) (g n) ≡ g i = rw (eq-eqb i n e) (ap g (sym e)) in
        omega (
          arith,
          sum_zero n (λ k. only (eqb i k) (g k)) (λ k b. only_zero (eqb i k) (g k) (λ u. omega (arith, eqb-true i k u))),
          ap (λ (z : Whole). z.plus) last,
          ap (λ (z : Whole). z.less) last,
        )
    go (no k) ih = rw (ne_eqb i n k) (omega (arith, ih (omega arith)))

-- where one term is replaced, the sum changes by it
pub sum_update : (n : ℕ) (f g : ℕ → Whole) (j : ℕ) → j < n → ((k : ℕ) → k ≢ j → f k ≡ g k) → sum n f ⊕ g j ≈ sum n g ⊕ f j
unfolding sum
sum_update zero f g j h same = omega arith
sum_update (suc n) f g j h same = go (ℕ_discrete j n) (sum_update n f g j)
  where
    go : Dec (j ≡ n) → (j < n → ((k : ℕ) → k ≢ j → f k ≡ g k) → sum n f ⊕ g j ≈ sum n g ⊕ f j) → sum n f ⊕ f n ⊕ g j ≈ sum n g ⊕ g n ⊕ f j
    go (yes e) ih = rw e (omega (arith, sum_same n f g (λ k b. rw (same k (omega arith)) refl)))
    go (no d) ih = rw (same n (λ z. d (sym z))) (omega (arith, ih (omega arith) same))

-- ---- sums of sums, and bounds

-- either way round
pub sum_swap : (n m : ℕ) (a : ℕ → ℕ → Whole) → sum n (λ i. sum m (λ k. a i k)) ≈ sum m (λ k. sum n (λ i. a i k))
unfolding sum
sum_swap n zero a = omega (arith, sum_nothing n)
sum_swap n (suc m) a =
    omega (arith, sum_swap n m a, sum_add n (λ i. sum m (λ k. a i k) ⊕ a i m) (λ i. sum m (λ k. a i k)) (λ i. a i m) (λ k b. omega arith))

pub sum_under : (l n : ℕ) (g : ℕ → Whole) → ((k : ℕ) → k < n → Under l (g k)) → Under (l * n) (sum n g)
unfolding sum
sum_under l zero g h = omega arith
sum_under l (suc n) g h = omega (arith, sum_under l n g (λ k b. h k (omega arith)), h n (omega arith))
