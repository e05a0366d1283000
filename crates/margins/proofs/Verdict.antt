-- THE BRIDGE: on exact fields a pair gives the constraint of a pattern exactly if the meaning does. Assumes nothing.
use mathlib.Core.Path.{◌≡◌, refl, sym, ap, ◌∙◌}
use mathlib.Core.Logic.{◌≢◌, ◌⊎◌, inl, inr, ◌↔◌}
use mathlib.Core.Bool.{Bool, true, false, not, cond}
use mathlib.Core.List.Memᴰ
use mathlib.Core.List.{List, Memᴰ}
use Prim.Native.Nat.{ℕ, ◌<◌}
use native.Mathlib.Omega.{arith}
use lib.ListN.{get_or}
use lib.Dec.{T}
use lib.Ieee.{Float, neg, lt}
use Rattle.weights.specs.Worth.{Worth}
use Rattle.weights.proofs.Worth.{as_worth, neg_worth}
use Rattle.meaning.specs.Field.{Best}
use Rattle.meaning.specs.Kinds.{Kind, at_least_one, exactly_one, no_more_than_one, greater_than, less_than, equal, Forbids}
use Rattle.meaning.specs.Pair.{margin, dominated}
use Rattle.meaning.proofs.Margin.{never_both}
use Rattle.meaning.proofs.Theorems.{pair_margin_exact, pair_constraint_holds, pair_constraint_stays, pair_greatest}
use Rattle.meaning.specs.Steps.{Extends}
use Rattle.field.specs.Field.{Field, variables, StartFor}
use Rattle.field.specs.Reading.{whole_of}
use Rattle.field.proofs.Reading.{whole_within, whole_standard}
use Rattle.margins.specs.declared.bounds.Sign.{Sign}
use Rattle.margins.specs.declared.bounds.Sign.TheVariants.{Above, Below, Neither}
use Rattle.margins.specs.Exact.{Exact}
use Rattle.margins.specs.Exceeds.{Exceeds}
use Rattle.margins.specs.Dominance.{Dominates}
use Rattle.margins.specs.Model.{bounds_of, tolerance, sign_of, Signs, signs_of, sum_kinds, diff_kinds, kinds_of, pair_signs, pair_kinds}
use Rattle.margins.proofs.Members.{in_right}
use Rattle.margins.proofs.Four.{bounds_worth}
use Rattle.margins.proofs.Tolerance.{exceeds_tolerance, above_means, lt_neg, tolerance_positive}

-- ---- which sign a pattern's constraint stands for

-- the pattern that a kind forbids
first_of : Kind → Bool
first_of no_more_than_one = true
first_of less_than = true
first_of at_least_one = false
first_of greater_than = false
first_of exactly_one = true
first_of equal = true

second_of : Kind → Bool
second_of no_more_than_one = true
second_of greater_than = true
second_of at_least_one = false
second_of less_than = false
second_of exactly_one = true
second_of equal = true

firsts : (a b : Bool) → first_of (dominated a b) ≡ a
unfolding first_of
firsts true true = refl
firsts true false = refl
firsts false true = refl
firsts false false = refl

seconds : (a b : Bool) → second_of (dominated a b) ≡ b
unfolding second_of
seconds true true = refl
seconds true false = refl
seconds false true = refl
seconds false false = refl

same_pattern : (a b c d : Bool) → dominated a b ≡ dominated c d → (a ≡ c) × (b ≡ d)
same_pattern a b c d e = (sym (firsts a b) ∙ ap first_of e ∙ firsts c d, sym (seconds a b) ∙ ap second_of e ∙ seconds c d)

sign_for : Bool → Sign
sign_for true = Above
sign_for false = Below

from_sum : (g : Sign) (a b : Bool) → Memᴰ (dominated a b) (sum_kinds g) → (a ≡ b) × (g ≡ sign_for a)
unfolding sum_kinds sign_for
from_sum Above a b m = let e = same_pattern a b true true (Memᴰ.eq_of_singleton m) in (e.0 ∙ sym e.1, rw e.0 refl)
from_sum Below a b m = let e = same_pattern a b false false (Memᴰ.eq_of_singleton m) in (e.0 ∙ sym e.1, rw e.0 refl)
from_sum Neither a b m = absurd (Memᴰ.not-nil m)

from_diff : (g : Sign) (a b : Bool) → Memᴰ (dominated a b) (diff_kinds g) → (b ≡ not a) × (g ≡ sign_for a)
unfolding diff_kinds sign_for
from_diff Above a b m = let e = same_pattern a b true false (Memᴰ.eq_of_singleton m) in (rw e.0 e.1, rw e.0 refl)
from_diff Below a b m = let e = same_pattern a b false true (Memᴰ.eq_of_singleton m) in (rw e.0 e.1, rw e.0 refl)
from_diff Neither a b m = absurd (Memᴰ.not-nil m)

-- the sign that a pattern asks about
sign_at : Bool → Bool → Signs → Sign
sign_at true true x = x.sum
sign_at false false x = x.sum
sign_at true false x = x.diff
sign_at false true x = x.diff

said : (a b : Bool) (x : Signs) → ((a ≡ b) × (x.sum ≡ sign_for a)) ⊎ ((b ≡ not a) × (x.diff ≡ sign_for a)) → sign_at a b x ≡ sign_for a
unfolding sign_at
said true true x (inl e) = e.1
said false false x (inl e) = e.1
said true false x (inr e) = e.1
said false true x (inr e) = e.1
said true true x (inr e) = let z : ◌≡◌ {A = ℕ} 0 1 = cc e.0 in absurd (omega arith)
said false false x (inr e) = let z : ◌≡◌ {A = ℕ} 0 1 = cc e.0 in absurd (omega arith)
said true false x (inl e) = let z : ◌≡◌ {A = ℕ} 0 1 = cc e.0 in absurd (omega arith)
said false true x (inl e) = let z : ◌≡◌ {A = ℕ} 0 1 = cc e.0 in absurd (omega arith)

kind_said : (a b : Bool) (x : Signs) → Memᴰ (dominated a b) (kinds_of x) → sign_at a b x ≡ sign_for a
kind_said a b x m = said a b x (go (Memᴰ.append_cases (sum_kinds x.sum) m))
  where
    go : Memᴰ (dominated a b) (sum_kinds x.sum) ⊎ Memᴰ (dominated a b) (diff_kinds x.diff) → ((a ≡ b) × (x.sum ≡ sign_for a)) ⊎ ((b ≡ not a) × (x.diff ≡ sign_for a))
    go (inl m) = inl (from_sum x.sum a b m)
    go (inr m) = inr (from_diff x.diff a b m)

said_kind : (a b : Bool) (x : Signs) → sign_at a b x ≡ sign_for a → Memᴰ (dominated a b) (kinds_of x)
unfolding sign_at sign_for sum_kinds diff_kinds
said_kind true true x e = rw e (Memᴰ.head refl)
said_kind false false x e = rw e (Memᴰ.head refl)
said_kind true false x e = in_right (sum_kinds x.sum) (rw e (Memᴰ.head refl))
said_kind false true x e = in_right (sum_kinds x.sum) (rw e (Memᴰ.head refl))

-- ---- a sign against the tolerance

sign_above : (t l h : Float) → (sign_of t l h ≡ Above) ↔ T (lt t l)
unfolding sign_of
sign_above t l h = go (lt t l) (lt h (neg t))
  where
    go : (a b : Bool) → (cond a Above (cond b Below Neither) ≡ Above) ↔ T a
    go true b = ((λ e. tt), λ e. refl)
    go false true = ((λ e. let z : ◌≡◌ {A = ℕ} 0 1 = cc in absurd (omega arith)), λ e. absurd e)
    go false false = ((λ e. let z : ◌≡◌ {A = ℕ} 0 1 = cc in absurd (omega arith)), λ e. absurd e)

sign_below : (t l h : Float) → (T (lt t l) → T (lt h (neg t)) → ⊥) → (sign_of t l h ≡ Below) ↔ T (lt h (neg t))
unfolding sign_of
sign_below t l h = go (lt t l) (lt h (neg t))
  where
    go : (a b : Bool) → (T a → T b → ⊥) → (cond a Above (cond b Below Neither) ≡ Below) ↔ T b
    go true b n = ((λ e. let z : ◌≡◌ {A = ℕ} 0 1 = cc in absurd (omega arith)), λ e. absurd (n tt e))
    go false true n = ((λ e. tt), λ e. refl)
    go false false n = ((λ e. let z : ◌≡◌ {A = ℕ} 0 1 = cc in absurd (omega arith)), λ e. absurd e)

joined : {A B C : Type 0} → A ↔ B → B ↔ C → A ↔ C
joined p q = ((λ a. q.0 (p.0 a)), λ c. p.1 (q.1 c))

module _ {u : ℕ} {F : Field} (x : Exact u F) {s : List ℕ} (st : StartFor (variables F) s) (i j : ℕ) (hi : i < variables F) (hj : j < variables F) (ne : i ≢ j) (fi : get_or s i 0 ≡ 2) (fj : get_or s j 0 ≡ 2) where
  abbrev t : Float
  t = tolerance F i j

  exact_margin : (a b : Bool) → Dominates u F s i j a b ↔ Exceeds u t (margin a b (whole_of u F) s i j)
  exact_margin a b =
      pair_margin_exact (whole_of u F) s (whole_standard u F x.exact.standard) (whole_within u x.shaped) st.small st.long a b i j hi hj ne (Exceeds u t)
      (exceeds_tolerance u t)

  means : (a b : Bool) (y : Float) → Worth u y (margin a b (whole_of u F) s i j) → T (lt t y) ↔ Dominates u F s i j a b
  means a b y w =
      let d = exact_margin a b in
      let m = above_means u t y (margin a b (whole_of u F) s i j) (tolerance_positive x i j hi hj) w in
      ((λ h. d.1 (m.0 h)), λ h. m.1 (d.0 h))

  turned : (a b : Bool) (y : Float) → Worth u (neg y) (margin a b (whole_of u F) s i j) → T (lt y (neg t)) ↔ Dominates u F s i j a b
  turned a b y w = rw (lt_neg y t) (means a b (neg y) w)

  test_11 : T (lt t (bounds_of F s i j).sumLow) ↔ Dominates u F s i j true true
  test_11 = means true true _ (bounds_worth x st i j hi hj fi fj).sumLow

  test_00 : T (lt (bounds_of F s i j).sumHigh (neg t)) ↔ Dominates u F s i j false false
  test_00 = turned false false _ (as_worth (neg_worth (bounds_worth x st i j hi hj fi fj).sumHigh) (omega (arith, pair_greatest (whole_of u F) s true true i j)))

  test_10 : T (lt t (bounds_of F s i j).diffLow) ↔ Dominates u F s i j true false
  test_10 = means true false _ (bounds_worth x st i j hi hj fi fj).diffLow

  test_01 : T (lt (bounds_of F s i j).diffHigh (neg t)) ↔ Dominates u F s i j false true
  test_01 = turned false true _ (as_worth (neg_worth (bounds_worth x st i j hi hj fi fj).diffHigh) (omega (arith, pair_greatest (whole_of u F) s true false i j)))

  -- no pattern dominates the opposite that dominates it
  apart : (a b : Bool) → Dominates u F s i j a b → Dominates u F s i j (not a) (not b) → ⊥
  apart a b p q = never_both (whole_of u F) s st.small a b i j (Exceeds u t) (exceeds_tolerance u t) p q

  sign_means : (a b : Bool) → (sign_at a b (pair_signs F s i j) ≡ sign_for a) ↔ Dominates u F s i j a b
  unfolding sign_at sign_for pair_signs signs_of
  sign_means true true = joined (sign_above t _ _) test_11
  sign_means false false = joined (sign_below t _ _ (λ p q. apart true true (test_11.0 p) (test_00.0 q))) test_00
  sign_means true false = joined (sign_above t _ _) test_10
  sign_means false true = joined (sign_below t _ _ (λ p q. apart true false (test_10.0 p) (test_01.0 q))) test_01

  -- THE PAIR: the constraint of a pattern is given exactly if f at the pattern always exceeds f at the opposite by more than the tolerance
  pub kind_means : (a b : Bool) → Memᴰ (dominated a b) (pair_kinds F s i j) ↔ Dominates u F s i j a b
  unfolding pair_kinds
  kind_means a b = joined (kind_said a b (pair_signs F s i j), said_kind a b (pair_signs F s i j)) (sign_means a b)

  -- SOUND: no best completion has a pattern whose constraint is given
  pub kind_sound : (a b : Bool) → Memᴰ (dominated a b) (pair_kinds F s i j) → (y : List ℕ) → Best (whole_of u F) s y → Forbids (dominated a b) (get_or y i 0) (get_or y j 0) → ⊥
  kind_sound a b h =
      pair_constraint_holds (whole_of u F) s (whole_standard u F x.exact.standard) (whole_within u x.shaped) st.small st.long a b i j hi hj ne (Exceeds u t)
      (exceeds_tolerance u t) fi fj ((exact_margin a b).0 ((kind_means a b).0 h))

-- every constraint of a pair is one of a pattern
pub kind_pattern : (F : Field) (s : List ℕ) (i j : ℕ) {k : Kind} → Memᴰ k (pair_kinds F s i j) → (a : Bool) × (b : Bool) × (k ≡ dominated a b)
unfolding pair_kinds sum_kinds diff_kinds
kind_pattern F s i j {k} m = go (Memᴰ.append_cases (sum_kinds (pair_signs F s i j).sum) m)
  where
    by_sum : (g : Sign) → Memᴰ k (sum_kinds g) → (a : Bool) × (b : Bool) × (k ≡ dominated a b)
    by_sum Above m = (true, true, Memᴰ.eq_of_singleton m)
    by_sum Below m = (false, false, Memᴰ.eq_of_singleton m)
    by_sum Neither m = absurd (Memᴰ.not-nil m)

    by_diff : (g : Sign) → Memᴰ k (diff_kinds g) → (a : Bool) × (b : Bool) × (k ≡ dominated a b)
    by_diff Above m = (true, false, Memᴰ.eq_of_singleton m)
    by_diff Below m = (false, true, Memᴰ.eq_of_singleton m)
    by_diff Neither m = absurd (Memᴰ.not-nil m)

    go : Memᴰ k (sum_kinds (pair_signs F s i j).sum) ⊎ Memᴰ k (diff_kinds (pair_signs F s i j).diff) → (a : Bool) × (b : Bool) × (k ≡ dominated a b)
    go (inl m) = by_sum (pair_signs F s i j).sum m
    go (inr m) = by_diff (pair_signs F s i j).diff m

-- STAYS: a constraint on a pair that is still free stands when further values are fixed; the tolerance has no value in it
pub kind_stays : {u : ℕ} {F : Field} (x : Exact u F) {s r : List ℕ} → StartFor (variables F) s → StartFor (variables F) r → Extends s r
    → (i j : ℕ) → i < variables F → j < variables F → i ≢ j → get_or s i 0 ≡ 2 → get_or s j 0 ≡ 2 → get_or r i 0 ≡ 2 → get_or r j 0 ≡ 2
    → (a b : Bool) → Memᴰ (dominated a b) (pair_kinds F s i j) → Memᴰ (dominated a b) (pair_kinds F r i j)
kind_stays {u} {F} x {s} {r} st rt e i j hi hj ne si sj ri rj a b h =
    (kind_means x rt i j hi hj ne ri rj a b).1
    ((exact_margin x rt i j hi hj ne ri rj a b).1
    (pair_constraint_stays (whole_of u F) e a b i j (Exceeds u (tolerance F i j)) (exceeds_tolerance u (tolerance F i j))
    ((exact_margin x st i j hi hj ne si sj a b).0 ((kind_means x st i j hi hj ne si sj a b).0 h))))
