-- The bounds move inward as more is seen: what is forced stays forced. Assumes nothing.
use mathlib.Core.Path.{◌≡◌, refl, sym}
use mathlib.Core.Logic.{◌⊎◌, inl, inr, ⊎_elim}
use mathlib.Core.Bool.{Bool, true, false}
use mathlib.Core.List.{List}
use Prim.Native.Nat.{ℕ, zero, suc, ◌≤◌, ◌<◌}
use native.Mathlib.Omega.{arith}
use lib.Dec.{eqb, ltb}
use borrow.Author.Tests.{ltb-true, ltb-false}
use Rattle.whole.specs.Whole.{Whole, min0, max0, ◌⊑◌}
use Rattle.whole.proofs.Sums.{sum_le, only_le}
use Rattle.meaning.specs.Steps.{Extends, Lawful, Single}
use Rattle.meaning.specs.Passes.{Decided, Decides}
use Rattle.meaning.specs.Field.{Field}
use Rattle.meaning.specs.Gradient.{View, view, Behind, share, part, gradient, low, high, Forced, zero_by, one_by, Forces, judge, verdict}

-- ---- one end: where it is seen, low has risen and high has fallen; low is never above high

pub share_rises : (q : Whole) {a b : ℕ} → (a ≡ 2) ⊎ (a ≡ b) → share (min0 q) q a ⊑ share (min0 q) q b
unfolding share
share_rises q {b = b} h = ⊎_elim (λ e. rw e (free b)) (λ e. rw e (omega arith)) h
  where
    free : (v : ℕ) → min0 q ⊑ share (min0 q) q v
    free zero = omega arith
    free (suc zero) = omega arith
    free (suc (suc v)) = omega arith

pub share_falls : (q : Whole) {a b : ℕ} → (a ≡ 2) ⊎ (a ≡ b) → share (max0 q) q b ⊑ share (max0 q) q a
unfolding share
share_falls q {b = b} h = ⊎_elim (λ e. rw e (free b)) (λ e. rw e (omega arith)) h
  where
    free : (v : ℕ) → share (max0 q) q v ⊑ max0 q
    free zero = omega arith
    free (suc zero) = omega arith
    free (suc (suc v)) = omega arith

share_order : (q : Whole) (v : ℕ) → share (min0 q) q v ⊑ share (max0 q) q v
unfolding share
share_order q zero = omega arith
share_order q (suc zero) = omega arith
share_order q (suc (suc v)) = omega arith

-- ---- all ends: where no share is above its counterpart, no gradient is

gradient_le : (f g : Whole → Whole) (w v : View) → ((q : Whole) (k j : ℕ) → share (f q) q (w k j) ⊑ share (g q) q (v k j)) → (F : Field) (i : ℕ) → gradient f F w i ⊑ gradient g F v i
gradient_le f g w v h F i =
    omega (
      arith,
      sum_le F.m (part f F w i) (part g F v i) λ k b.
          omega (arith, only_le (eqb (F.row k) i) _ _ (h (F.weight k) k (F.column k)), only_le (eqb (F.column k) i) _ _ (h (F.weight k) k (F.row k))),
    )

pub low_below_high : (F : Field) (w : View) (i : ℕ) → gradient min0 F w i ⊑ gradient max0 F w i
low_below_high F w i = gradient_le min0 max0 w w (λ q k j. share_order q (w k j)) F i

-- THE ONE LAW of two views: where every sight of w is free or as in v, low rises from w to v, high falls, and what w forces v forces
module _ (w v : View) (behind : Behind w v) (F : Field) where
  pub low_rises : (i : ℕ) → gradient min0 F w i ⊑ gradient min0 F v i
  low_rises = gradient_le min0 min0 w v (λ q k j. share_rises q (behind k j)) F

  pub high_falls : (i : ℕ) → gradient max0 F v i ⊑ gradient max0 F w i
  high_falls = gradient_le max0 max0 v w (λ q k j. share_falls q (behind k j)) F

  pub forced_on : {i a : ℕ} → Forced F w i a → Forced F v i a
  forced_on {i = i} (zero_by h) = zero_by (omega (arith, low_rises i))
  forced_on {i = i} (one_by h) = one_by (omega (arith, high_falls i))

-- values that are extended are behind what extends them
pub extends_behind : {s t : List ℕ} → Extends s t → Behind (view s) (view t)
extends_behind p k j = ⊎_elim inl (λ e. inr (sym e)) (p.kept j)

-- ---- the rule

forced_small : {F : Field} {w : View} {i v : ℕ} → Forced F w i v → v < 2
forced_small (zero_by h) = omega arith
forced_small (one_by h) = omega arith

pub forces_lawful : (F : Field) → Lawful (Forces F)
forces_lawful F = record { small = forced_small; on = λ {s} {t} p f. forced_on (view s) (view t) (extends_behind p) F f }

forced_once : {F : Field} {w : View} {i v u : ℕ} → Forced F w i v → Forced F w i u → v ≡ u
forced_once (zero_by h) (zero_by k) = refl
forced_once {F = F} {w = w} {i = i} (zero_by h) (one_by k) = omega (arith, low_below_high F w i)
forced_once {F = F} {w = w} {i = i} (one_by h) (zero_by k) = omega (arith, low_below_high F w i)
forced_once (one_by h) (one_by k) = refl

pub forces_single : (F : Field) → Single (Forces F)
forces_single F = record { one = forced_once }

pub verdict_decides : (F : Field) → Decides (Forces F) (verdict F)
unfolding verdict
verdict_decides F s i = go (ltb (low F s i).less (low F s i).plus) (ltb (high F s i).plus (high F s i).less) refl refl
  where
    none : (low F s i).plus ≤ (low F s i).less → (high F s i).less ≤ (high F s i).plus → (v : ℕ) → Forces F s i v → ⊥
    none l h v (zero_by a) = omega arith
    none l h v (one_by a) = omega arith

    go : (a b : Bool) → ltb (low F s i).less (low F s i).plus ≡ a → ltb (high F s i).plus (high F s i).less ≡ b → Decided (λ v. Forces F s i v) (judge a b)
    go true b e f = inr (zero_by (ltb-true _ _ e))
    go false true e f = inr (one_by (ltb-true _ _ f))
    go false false e f = inl (refl, none (ltb-false _ _ e) (ltb-false _ _ f))
