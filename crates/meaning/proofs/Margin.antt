-- The margin of a pattern is exact and rises as values are fixed, and a pattern whose margin is above the tolerance is in no best completion.
-- Assumes nothing.
use mathlib.Core.Path.{◌≡◌, refl, ◌∙◌}
use mathlib.Core.Logic.{◌≢◌, ◌↔◌}
use mathlib.Core.Bool.{Bool, true, false, not}
use mathlib.Core.List.{List}
use Prim.Native.Nat.{ℕ, zero, suc, ◌<◌}
use native.Mathlib.Omega.{arith}
use lib.ListN.{length, get_or}
use lib.Seq.{set-get_or}
use Rattle.whole.specs.Whole.{Whole, nothing, ◌⊖◌, only, min0, max0, ◌⊑◌, ◌≈◌}
use Rattle.whole.proofs.Sums.{only_le, sum_le, sum_turned}
use Rattle.meaning.specs.Steps.{Valid, Extends}
use Rattle.meaning.specs.Field.{Field, Standard, Within, Completion, Best}
use Rattle.meaning.specs.Gradient.{share}
use Rattle.meaning.specs.Kinds.{Forbids, Meets}
use Rattle.meaning.specs.Pair.{merged, bit, signed, own, pull, other, pull_part, margin, greatest, lowest, least_at, at, difference, Tolerance, Always, dominated}
use Rattle.meaning.proofs.Forbidden.{only_pair}
use Rattle.meaning.proofs.Gradient.{share_rises, extends_behind}
use Rattle.meaning.proofs.Sound.{complete_set}
use Rattle.meaning.proofs.Corners.{gap_is}
use Rattle.meaning.proofs.Lowest.{bit_small, lowest_completion, lowest_reaches}

pub margin_rises : (a b : Bool) (F : Field) {s t : List ℕ} → Extends s t → (i j : ℕ) → margin a b F s i j ⊑ margin a b F t i j
margin_rises a b F {s = s} {t = t} p i j =
    omega (
      arith,
      sum_le F.n (pull_part min0 (pull a b F i j) s i j) (pull_part min0 (pull a b F i j) t i j) (λ k h.
          only_le (other i j k) _ _ (share_rises (pull a b F i j k) (extends_behind p k k))),
    )

-- the kind that a dominated pattern gives forbids just the pattern
dominated_forbids : (a b : Bool) {c d : ℕ} → Forbids (dominated a b) c d → (c ≡ bit a) × (d ≡ bit b)
dominated_forbids true true m = let e = only_pair m in (e.first, e.second)
dominated_forbids true false m = let e = only_pair m in (e.first, e.second)
dominated_forbids false true m = let e = only_pair m in (e.first, e.second)
dominated_forbids false false m = let e = only_pair m in (e.first, e.second)

-- ---- PAIR DOMINANCE

module _ (F : Field) (st : Standard F) (fits : Within F) (s : List ℕ) (valid : Valid s) (long : length s ≡ F.n) (a b : Bool) (i j : ℕ) (hi : i < F.n) (hj : j < F.n) (ne : i ≢ j) where
  here : (x : List ℕ) → Completion s x → margin a b F x i j ≈ difference a b F x i j
  here x c = gap_is F st fits x c.full (c.extends.as_long ∙ long) i j hi hj ne a b

  -- Theorem. The margin is a lower bound, and one completion reaches it.
  pub margin_below : (x : List ℕ) → Completion s x → margin a b F s i j ⊑ difference a b F x i j
  margin_below x c = omega (arith, here x c, margin_rises a b F c.extends i j)

  -- Theorem. One completion reaches the margin, so that it is the least difference and no mere bound.
  pub margin_reached : margin a b F s i j ≈ difference a b F (least_at a b F s i j) i j
  margin_reached = omega (arith, here (least_at a b F s i j) (lowest_completion (pull a b F i j) s valid), lowest_reaches F.n (pull a b F i j) s i j)

  module _ (P : Whole → Type 0) (tol : Tolerance P) where
    -- EXACT: a pattern is always above the opposite by more than the tolerance exactly if its margin is
    pub margin_exact : Always P a b F s i j ↔ P (margin a b F s i j)
    margin_exact = (
      λ all. tol.rises (omega (arith, margin_reached)) (all (least_at a b F s i j) (lowest_completion (pull a b F i j) s valid)),
      λ h x c. tol.rises (margin_below x c) h,
    )

    -- SOUND: then every best completion meets the constraint that the pattern gives
    pub dominated_holds : get_or s i 0 ≡ 2 → get_or s j 0 ≡ 2 → P (margin a b F s i j) → (x : List ℕ) → Best F s x → Meets x (record { first = i; second = j; kind = dominated a b })
    dominated_holds fi fj h x best m =
        let e = dominated_forbids a b m in
        let c = best.completion in
        let turned : Completion s (at (not a) (not b) x i j) = complete_set (complete_set c i (bit (not a)) fi (bit_small (not a))) j (bit (not b)) fj (bit_small (not b)) in
        let same : at a b x i j ≡ x = rw (← e.0, set-get_or x i 0, ← e.1, set-get_or x j 0) refl in
        omega (arith, tol.strict h, rw same at (margin_below x c), best.least (at (not a) (not b) x i j) turned)

-- a pattern and its opposite are never both above each other
pub never_both : (F : Field) (s : List ℕ) → Valid s → (a b : Bool) (i j : ℕ) (P : Whole → Type 0) → Tolerance P → Always P a b F s i j → Always P (not a) (not b) F s i j → ⊥
never_both F s valid a b i j P tol p q =
    let x = lowest (λ k. nothing) s in
    let c = lowest_completion (λ k. nothing) s valid in
    omega (arith, tol.strict (p x c), rw (not_not a, not_not b) at (tol.strict (q x c)))
  where
    not_not : (a : Bool) → not (not a) ≡ a
    not_not true = refl
    not_not false = refl

-- ---- the greatest for a pattern is the margin of the opposite, turned

greatest_part : (t : Bool) (w v : Whole) (x : ℕ) → w ≈ nothing ⊖ v → only t (share (max0 w) w x) ≈ nothing ⊖ only t (share (min0 v) v x)
unfolding share
greatest_part true w v zero h = omega arith
greatest_part true w v (suc zero) h = omega arith
greatest_part true w v (suc (suc x)) h = omega arith
greatest_part false w v x h = omega arith

signed_not : (a : Bool) (w : Whole) → signed a w ≈ nothing ⊖ signed (not a) w
signed_not true w = omega arith
signed_not false w = omega arith

own_not : (a b : Bool) (w : Whole) → own a b w ≈ nothing ⊖ own (not a) (not b) w
own_not true true w = omega arith
own_not true false w = omega arith
own_not false true w = omega arith
own_not false false w = omega arith

-- Theorem. The greatest of a pattern is the margin of the opposite pattern with its sign turned.
pub greatest_is : (a b : Bool) (F : Field) (s : List ℕ) (i j : ℕ) → greatest a b F s i j ≈ nothing ⊖ margin (not a) (not b) F s i j
greatest_is a b F s i j =
    omega (
      arith,
      signed_not a (F.linear i),
      signed_not b (F.linear j),
      own_not a b (merged F i j),
      sum_turned F.n (pull_part max0 (pull a b F i j) s i j) (pull_part min0 (pull (not a) (not b) F i j) s i j) (λ k h.
          greatest_part (other i j k) (pull a b F i j k) (pull (not a) (not b) F i j k) (get_or s k 0) (omega (arith, signed_not a (merged F i k), signed_not b (merged F j k)))),
    )
