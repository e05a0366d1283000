-- The laws of what a binary64 is worth, each one application for a caller: sums, differences, halves, products with a whole number, magnitudes and tests are exact,
-- in whatever unit the floats are counted. Assumes nothing.
use mathlib.Core.Path.{◌≡◌, refl, sym, ap, ap₂, ◌∙◌}
use mathlib.Core.Logic.{◌⊎◌, inl, inr}
use mathlib.Core.Bool.{true, false, not}
use Prim.Native.Nat.{ℕ, suc, ◌+◌, ◌^◌, ◌≤◌}
use native.Mathlib.Nat.{zero-add, add-zero}
use native.Mathlib.Omega.{arith}
use lib.IntN.{pos, negsuc}
use lib.Dec.{T, leb, ltb, eqb}
use borrow.Author.Tests.{leb-true, le-leb}
use lib.Ieee.{Float, nan, inf, fin, binary64, neg, add, sub, mul, lt, le, eq, ne, of_int, of_bits, fits}
use lib.Ieee.Exact.{HasValue}
use Rattle.whole.specs.Whole.{Whole, nothing, ◌⊕◌, ◌⊖◌, ◌⊙◌, size, ◌≈◌, Zero, Under}
use Rattle.weights.specs.Counts.{whole_in, plus, minus}
use Rattle.weights.specs.Worth.{Worth, Small, read, magnitude, zero64, half64, two64, four64}
use Rattle.weights.proofs.Counting as C
use Rattle.weights.proofs.Compare as O
use Rattle.weights.proofs.Same as S

-- ---- two floats

module _ {u : ℕ} {x y : Float} {a b : Whole} where
  -- Theorem. A sum in f64 is exact where both parts are whole in the unit and the sum is small.
  pub add_worth : Worth u x a → Worth u y b → Small (a ⊕ b) → Worth u (add binary64 x y) (a ⊕ b)
  add_worth h k w = record { unit = h.unit; is = C.add_counts binary64 u (omega (arith, h.unit)) x y _ _ _ _ h.is k.is w }

  -- Theorem. A difference in f64 is exact where both parts are whole in the unit and the difference is small.
  pub sub_worth : Worth u x a → Worth u y b → Small (a ⊖ b) → Worth u (sub binary64 x y) (a ⊖ b)
  sub_worth h k w = record { unit = h.unit; is = C.sub_counts binary64 u (omega (arith, h.unit)) x y _ _ _ _ h.is k.is w }

  -- Theorem. A float below another is a ledger below the other: the test in f64 is that of whole numbers.
  pub lt_worth : Worth u x a → Worth u y b → lt x y ≡ ltb (a.plus + b.less) (b.plus + a.less)
  lt_worth h k = O.lt_counts binary64 u _ _ _ _ x y h.is k.is

  -- Theorem. A float at most another is a ledger at most the other, as tests.
  pub le_worth : Worth u x a → Worth u y b → le x y ≡ leb (a.plus + b.less) (b.plus + a.less)
  le_worth h k = O.le_counts binary64 u _ _ _ _ x y h.is k.is

  -- Theorem. Two floats are equal exactly if their ledgers are the same number, as tests.
  pub eq_worth : Worth u x a → Worth u y b → eq x y ≡ eqb (a.plus + b.less) (b.plus + a.less)
  eq_worth h k = O.eq_counts binary64 u _ _ _ _ x y h.is k.is

-- ---- one float

module _ {u : ℕ} {x : Float} {a b : Whole} where
  pub as_worth : Worth u x a → a ≈ b → Worth u x b
  as_worth h e = record { unit = h.unit; is = S.counts_as binary64 u _ _ _ _ x h.is e }

  pub same_worth : Worth u x a → Worth u x b → a ≈ b
  same_worth h k = S.counts_same binary64 u _ _ _ _ x h.is k.is

-- two floats of one ledger are equal as data where the ledger is not 0: a zero has two signs
pub unique_worth : {u : ℕ} {x y : Float} {a : Whole} → T (fits binary64 x) → T (fits binary64 y) → Worth u x a → Worth u y a → (Zero a → ⊥) → x ≡ y
unique_worth {u} {x} {y} i j h k n = S.counts_unique binary64 u _ _ x y i j h.is k.is n

half_is : half64 ≡ fin false 1 (negsuc 0)
unfolding of_bits
half_is = refl

zero_is : zero64 ≡ fin false 0 (pos 0)
unfolding of_bits
zero_is = refl

two_is : HasValue two64 false 2 1
unfolding of_bits
two_is = (refl, refl)

four_is : HasValue four64 false 4 1
unfolding of_bits
four_is = (refl, refl)

module _ {u : ℕ} {x : Float} {a : Whole} where
  -- Theorem. Turning the sign turns the ledger, with no condition.
  pub neg_worth : Worth u x a → Worth u (neg x) (nothing ⊖ a)
  neg_worth h = as_worth {a = record { plus = a.less; less = a.plus }} (record { unit = h.unit; is = C.neg_counts binary64 u x _ _ h.is }) (omega arith)

  -- Theorem. Clearing the sign makes a ledger its size, with no condition.
  pub magnitude_worth : Worth u x a → Worth u (magnitude x) (size a)
  magnitude_worth h = record { unit = h.unit; is = S.magnitude_counts binary64 u _ _ x h.is }

  -- Theorem. Half of x, in f64, is as many half units as x is units, where that is small.
  pub half_worth : Worth (suc u) x a → Small a → Worth u (mul binary64 half64 x) a
  half_worth h w = rw half_is (record { unit = omega (arith, h.unit); is = C.half_counts binary64 u (omega (arith, h.unit)) x _ _ h.is w })

  -- by a float that is the whole number v, on the right and on the left
  by_worth : (y : Float) (v : ℕ) → HasValue y false v 1 → Worth u x a → Small (a ⊙ v) → Worth u (mul binary64 x y) (a ⊙ v)
  by_worth y v is h w = record { unit = h.unit; is = C.whole_counts binary64 u (omega (arith, h.unit)) x y _ _ v h.is is w }

  -- Theorem. A product with a whole number is exact where it is small.
  pub times_worth : (v : ℕ) → v ≤ 2 ^ 53 → Worth u x a → Small (a ⊙ v) → Worth u (mul binary64 x (of_int binary64 (pos v))) (a ⊙ v)
  times_worth v b h w = by_worth (of_int binary64 (pos v)) v (C.of_int_value binary64 v b) h w

  pub whole_worth : (y : Float) (v : ℕ) → HasValue y false v 1 → Worth u x a → Small (a ⊙ v) → Worth u (mul binary64 y x) (a ⊙ v)
  whole_worth y v is h w = rw (C.mul_swap binary64 y x) (by_worth y v is h w)

  -- Theorem. Twice x, in f64, is exact where it is small.
  pub two_worth : Worth u x a → Small (a ⊙ 2) → Worth u (mul binary64 two64 x) (a ⊙ 2)
  two_worth h w = whole_worth two64 2 two_is h w

  -- Theorem. Four times x, in f64, is exact where it is small.
  pub four_worth : Worth u x a → Small (a ⊙ 4) → Worth u (mul binary64 four64 x) (a ⊙ 4)
  four_worth h w = whole_worth four64 4 four_is h w

-- in a smaller unit
pub finer_worth : {u : ℕ} (k : ℕ) {x : Float} {a : Whole} → Worth (u + k) x a → Worth u x (a ⊙ (2 ^ k))
finer_worth {u} k {x} h = record { unit = omega (arith, h.unit); is = S.finer_counts binary64 u k _ _ x h.is }

-- ---- against zero

pub zero_worth : {u : ℕ} → u ≤ 2044 → Worth u zero64 nothing
zero_worth {u} b = rw zero_is (record { unit = b; is = S.zero_counts binary64 u })

module _ {u : ℕ} {x : Float} {a : Whole} (h : Worth u x a) where
  pub above_zero : lt zero64 x ≡ ltb a.less a.plus
  above_zero = lt_worth (zero_worth h.unit) h ∙ ap₂ ltb (zero-add a.less) (add-zero a.plus)

  pub below_zero : lt x zero64 ≡ ltb a.plus a.less
  below_zero = lt_worth h (zero_worth h.unit) ∙ ap₂ ltb (add-zero a.plus) (zero-add a.less)

  pub at_most_zero : le x zero64 ≡ leb a.plus a.less
  at_most_zero = le_worth h (zero_worth h.unit) ∙ ap₂ leb (add-zero a.plus) (zero-add a.less)

  pub at_least_zero : le zero64 x ≡ leb a.less a.plus
  at_least_zero = le_worth (zero_worth h.unit) h ∙ ap₂ leb (zero-add a.less) (add-zero a.plus)

-- Theorem. What is left over of an error-free sum is 0.
pub two_sum_lem : {u : ℕ} {x y : Float} {a b : Whole} → Worth u x a → Worth u y b → Small b → Small (a ⊕ b) → ne (sub binary64 y (sub binary64 (add binary64 x y) x)) zero64 ≡ false
unfolding ne
two_sum_lem {u} {x} {y} {a} {b} h k v w =
    let d : Worth u (sub binary64 (add binary64 x y) x) b = as_worth (sub_worth (add_worth h k w) h (omega arith)) (omega arith) in
    let z : Worth u (sub binary64 y (sub binary64 (add binary64 x y) x)) nothing = as_worth (sub_worth k d (omega arith)) (omega arith) in
    ap not (eq_worth z (zero_worth h.unit))

-- ---- x is worth some ledger exactly if it is a whole number of units, and then it is worth what is read

pub read_worth : {u : ℕ} (x : Float) → u ≤ 2044 → T (whole_in binary64 u x) → Worth u x (read u x)
read_worth {u} x b t = record { unit = b; is = S.read_counts binary64 u x t }

module _ {u : ℕ} {x : Float} {a : Whole} (h : Worth u x a) where
  -- Theorem. What is worth a ledger in a unit is a whole number of that unit.
  pub worth_whole : T (whole_in binary64 u x)
  worth_whole = S.counts_whole binary64 u _ _ x h.is

  pub worth_read : a ≈ read u x
  worth_read = same_worth h (read_worth x h.unit worth_whole)

-- one side of what is read is 0
pub read_side : (u : ℕ) (x : Float) → ((read u x).plus ≡ 0) ⊎ ((read u x).less ≡ 0)
unfolding plus minus
read_side u nan = inl refl
read_side u (inf s) = inl refl
read_side u (fin true m e) = inl refl
read_side u (fin false m e) = inr refl

-- a magnitude is at most a bound of b units exactly if what is read is
module _ {u b : ℕ} {y : Float} (x : Float) (t : T (whole_in binary64 u x)) (k : Worth u y (record { plus = b; less = 0 })) where
  under_is : le (magnitude x) y ≡ leb ((size (read u x)).plus + 0) (b + 0)
  under_is = le_worth (magnitude_worth (read_worth x k.unit t)) k

  pub under_read : le (magnitude x) y ≡ true → Under b (read u x)
  under_read e =
      let h : (size (read u x)).plus + 0 ≤ b + 0 = leb-true ((size (read u x)).plus + 0) (b + 0) (sym under_is ∙ e) in
      elim (read_side u x) [ inl z ↦ omega arith | inr z ↦ omega arith ]

  pub read_under : Under b (read u x) → le (magnitude x) y ≡ true
  read_under h = under_is ∙ le-leb ((size (read u x)).plus + 0) (b + 0) (elim (read_side u x) [ inl z ↦ omega arith | inr z ↦ omega arith ])
