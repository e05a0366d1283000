-- What each operation on a row does to the two whole numbers that it is worth. Assumes nothing.
use mathlib.Core.Path.{◌≡◌, refl, subst, ap₂, ◌∙◌}
use mathlib.Core.Bool.{Bool, true, false, not, cond, ◌&&◌}
use Prim.Native.Nat.{ℕ, zero, suc, ◌^◌, ◌≤◌, ◌<◌}
use native.Mathlib.Nat.{zero-add, add-zero}
use native.Mathlib.Omega.{arith}
use borrow.Author.Tests.{ltb-true, eqb-true}
use lib.IntN.{pos}
use lib.Dec.{T, ltb, eqb, leb→le, nleb→lt}
use lib.Ieee.{Float, binary64, add, sub, mul, le, eq, of_int}
use Rattle.whole.specs.Whole.{Whole, ◌⊕◌, ◌⊖◌, only, min0, max0, ◌≈◌, Zero, Under}
use Rattle.weights.specs.Worth.{Worth, Small, zero64}
use Rattle.weights.proofs.Worth.{add_worth, sub_worth, times_worth, eq_worth, as_worth, zero_worth, at_most_zero, at_least_zero, above_zero, below_zero}
use Rattle.meaning.specs.Gradient.{share, judge}
use Rattle.rows.specs.declared.Row.{Row}
use Rattle.rows.specs.declared.Verdict.TheVariants.{Zero as ZeroBy, One as OneBy, Flat, Open}
use Rattle.rows.specs.Row.{add_free, remove_free, add_fixed, add_term, both_zero, judge_of, value_of, is_flat}
use Rattle.rows.specs.Model.{at_end}
use Rattle.rows.specs.Counted.{RowWorth}

pub as_row : {u : ℕ} {r : Row} {a b a' b' : Whole} → RowWorth u r a b → a ≈ a' → b ≈ b' → RowWorth u r a' b'
as_row h p q = record { lower = as_worth h.lower p; upper = as_worth h.upper q }

-- ---- a term that a test lets in

-- where the test holds c is d, and elsewhere d is 0
record Picks (b : Bool) (c d : Whole) : Type 0 where
  taken : T b → c ≈ d
  left : T (not b) → Zero d

module _ {u : ℕ} {q : Float} {c : Whole} (k : Worth u q c) where
  picks_min : Picks (le q zero64) c (min0 c)
  picks_min = record {
    taken = λ e. omega (arith, leb→le c.plus c.less (subst T (at_most_zero k) e));
    left = λ e. omega (arith, nleb→lt c.plus c.less (subst (λ (i : Bool). T (not i)) (at_most_zero k) e));
  }

  picks_max : Picks (le zero64 q) c (max0 c)
  picks_max = record {
    taken = λ e. omega (arith, leb→le c.less c.plus (subst T (at_least_zero k) e));
    left = λ e. omega (arith, nleb→lt c.less c.plus (subst (λ (i : Bool). T (not i)) (at_least_zero k) e));
  }

module _ {u : ℕ} {t q : Float} {a c d : Whole} (h : Worth u t a) (k : Worth u q c) where
  add_picked : (b : Bool) → Picks b c d → Small (a ⊕ d) → Worth u (cond b (add binary64 t q) t) (a ⊕ d)
  add_picked true p w = let e = p.taken tt in as_worth (add_worth h k (omega arith)) (omega arith)
  add_picked false p w = let e = p.left tt in as_worth h (omega arith)

  sub_picked : (b : Bool) → Picks b c d → Small (a ⊖ d) → Worth u (cond b (sub binary64 t q) t) (a ⊖ d)
  sub_picked true p w = let e = p.taken tt in as_worth (sub_worth h k (omega arith)) (omega arith)
  sub_picked false p w = let e = p.left tt in as_worth h (omega arith)

-- ---- the operations: bounds within 2^50 leave room for a coefficient within 2^31

module _ {u : ℕ} {r : Row} {a b : Whole} (h : RowWorth u r a b) (near-a : Under (2 ^ 50) a) (near_b : Under (2 ^ 50) b) {q : Float} {c : Whole} (k : Worth u q c) (small : Under (2 ^ 31) c) where
  -- Theorem. Adding a free end adds min(q, 0) to the lower number and max(q, 0) to the upper one.
  pub add_free_worth : RowWorth u (add_free r q) (a ⊕ min0 c) (b ⊕ max0 c)
  add_free_worth = record { lower = add_picked h.lower k _ (picks_min k) (omega arith); upper = add_picked h.upper k _ (picks_max k) (omega arith) }

  -- Theorem. Removing a free end takes min(q, 0) from the lower number and max(q, 0) from the upper one.
  pub remove_free_worth : RowWorth u (remove_free r q) (a ⊖ min0 c) (b ⊖ max0 c)
  remove_free_worth = record { lower = sub_picked h.lower k _ (picks_min k) (omega arith); upper = sub_picked h.upper k _ (picks_max k) (omega arith) }

  fixed_by : (v : ℕ) {d : Whole} → Worth u (mul binary64 q (of_int binary64 (pos v))) d → Under (2 ^ 31) d → RowWorth u (add_fixed r q v) (a ⊕ d) (b ⊕ d)
  fixed_by v z w = record { lower = add_worth h.lower z (omega arith); upper = add_worth h.upper z (omega arith) }

  -- Theorem. Adding a fixed end adds q where its value is 1, and nothing where it is 0, to both numbers.
  pub add_fixed_worth : (v : ℕ) → v < 2 → RowWorth u (add_fixed r q v) (a ⊕ share (min0 c) c v) (b ⊕ share (max0 c) c v)
  unfolding share
  add_fixed_worth zero l = fixed_by 0 (as_worth (times_worth 0 (omega arith) k (omega arith)) (omega arith)) (omega arith)
  add_fixed_worth (suc zero) l = fixed_by 1 (as_worth (times_worth 1 (omega arith) k (omega arith)) (omega arith)) small
  add_fixed_worth (suc (suc v)) l = absurd (omega arith)

  -- a term, by the value of the other end
  pub term_worth : (v : ℕ) → v ≤ 2 → RowWorth u (add_term r q v) (a ⊕ share (min0 c) c v) (b ⊕ share (max0 c) c v)
  unfolding add_term share
  term_worth zero l = add_fixed_worth 0 (omega arith)
  term_worth (suc zero) l = add_fixed_worth 1 (omega arith)
  term_worth (suc (suc zero)) l = add_free_worth
  term_worth (suc (suc (suc v))) l = absurd (omega arith)

  pub end_worth : (i e v : ℕ) → v ≤ 2 → RowWorth u (at_end i e q v r) (a ⊕ only (eqb e i) (share (min0 c) c v)) (b ⊕ only (eqb e i) (share (max0 c) c v))
  unfolding at_end
  end_worth i e v l = go (eqb e i)
    where
      go : (d : Bool) → RowWorth u (cond d (add_term r q v) r) (a ⊕ only d (share (min0 c) c v)) (b ⊕ only d (share (max0 c) c v))
      go true = term_worth v l
      go false = as_row h (omega arith) (omega arith)

-- Theorem. A moved term, the free one removed and the fixed one added, moves both numbers of a row by what it changes.
pub moved_worth : {u : ℕ} {r : Row} {a b : Whole} → RowWorth u r a b → Under (2 ^ 49) a → Under (2 ^ 49) b → {q : Float} {c : Whole} → Worth u q c → Under (2 ^ 31) c → (v : ℕ) → v < 2
    → RowWorth u (add_fixed (remove_free r q) q v) (a ⊖ min0 c ⊕ share (min0 c) c v) (b ⊖ max0 c ⊕ share (max0 c) c v)
moved_worth h near-a near_b k small v l =
    add_fixed_worth (remove_free_worth h (omega arith) (omega arith) k small) (omega arith) (omega arith) k small v l

-- ---- the verdict: zero where the lower bound is strictly above 0, one where the upper is strictly below, flat where both are 0, else open

at_zero : {u : ℕ} {x : Float} {a : Whole} → Worth u x a → eq x zero64 ≡ eqb a.plus a.less
at_zero {a = a} h = eq_worth h (zero_worth h.unit) ∙ ap₂ eqb (add-zero a.plus) (zero-add a.less)

module _ {u : ℕ} {r : Row} {a b : Whole} (h : RowWorth u r a b) where
  pub flat_worth : both_zero r ≡ (eqb a.plus a.less && eqb b.plus b.less)
  flat_worth = ap₂ ◌&&◌ (at_zero h.lower) (at_zero h.upper)

  pub judge_worth : judge_of r ≡ cond (ltb a.less a.plus) (ZeroBy r.lower) (cond (ltb b.plus b.less) (OneBy r.upper) (cond (both_zero r) Flat Open))
  judge_worth = rw (above_zero h.lower, below_zero h.upper) refl

  -- the value that it forces, by the two whole numbers
  pub value_worth : value_of (judge_of r) ≡ judge (ltb a.less a.plus) (ltb b.plus b.less)
  unfolding value_of
  value_worth = rw judge_worth (by (ltb a.less a.plus) (ltb b.plus b.less) (both_zero r))
    where
      by : (x y z : Bool) → value_of (cond x (ZeroBy r.lower) (cond y (OneBy r.upper) (cond z Flat Open))) ≡ judge x y
      by true y z = refl
      by false true z = refl
      by false false true = refl
      by false false false = refl

  -- Theorem. A row is flat exactly if both whole numbers that it is worth are 0.
  pub is_flat_worth : is_flat (judge_of r) ≡ (eqb a.plus a.less && eqb b.plus b.less)
  is_flat_worth = rw (judge_worth, flat_worth) (by (ltb a.less a.plus) (ltb b.plus b.less) (eqb a.plus a.less) (eqb b.plus b.less) refl refl refl refl)
    where
      by : (x y v w : Bool) → ltb a.less a.plus ≡ x → ltb b.plus b.less ≡ y → eqb a.plus a.less ≡ v → eqb b.plus b.less ≡ w
          → is_flat (cond x (ZeroBy r.lower) (cond y (OneBy r.upper) (cond (v && w) Flat Open))) ≡ (v && w)
      by true y false w p q i j = refl
      by true y true w p q i j = absurd (omega (arith, ltb-true a.less a.plus p, eqb-true a.plus a.less i))
      by false true false w p q i j = refl
      by false true true false p q i j = refl
      by false true true true p q i j = absurd (omega (arith, ltb-true b.plus b.less q, eqb-true b.plus b.less j))
      by false false false w p q i j = refl
      by false false true false p q i j = refl
      by false false true true p q i j = refl
