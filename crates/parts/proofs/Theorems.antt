-- The theorems about components, each in one statement. Assumes nothing.
use Prim.Native.Nat.{ℕ, ◌+◌, ◌<◌}
use mathlib.Core.Path.{◌≡◌, refl, sym, ◌∙◌}
use mathlib.Core.Logic.{◌≢◌, ◌⊎◌, inl, inr, ⊎_elim, ◌↔◌}
use mathlib.Core.Bool.{Bool, true, false, cond}
use mathlib.Core.List.{List}
use native.Mathlib.Omega.{arith}
use borrow.Author.Tests.{eqb-true, not-false}
use lib.ListN.{length, get_or}
use lib.Ieee.{Float, eq, ne}
use Rattle.whole.specs.Whole.{Zero}
use Rattle.weights.specs.Worth.{zero64}
use Rattle.weights.proofs.Worth.{eq_worth, zero_worth}
use Rattle.meaning.specs.Part.{Separate}
use Rattle.field.specs.Field.{Field, Shaped, variables, entries, row_end, column_end, quad_of}
use Rattle.field.specs.Grade.{ExactIn}
use Rattle.field.specs.Reading.{whole_of}
use Rattle.field.proofs.Reading.{quad_worth}
use Rattle.parts.specs.Walk.{joins, opened, members_from, marks_from, parts_to, components}
use Rattle.parts.specs.Part.{has, Apart, Open, Reaches, Component, Rest, Partition}
use Rattle.parts.specs.Cells.{Begun, Walked}
use Rattle.parts.proofs.Going.{bool_cases}
use Rattle.parts.proofs.Walking as walking
use Rattle.parts.proofs.Rest as resting
use Rattle.parts.proofs.Partition as parting
use Rattle.parts.proofs.Marks.{opened_all}
use Rattle.parts.proofs.Unique as unique

-- ---- one walk

module _ {F : Field} (S : Shaped F) (zeros : Bool) (marks : List ℕ) (long : length marks ≡ variables F) (start : ℕ) where
  -- Theorem. The members are exactly the variables that the start reaches through entries that join, by way of open variables.
  pub members_reached : (i : ℕ) → (has (members_from F zeros marks start) i ≡ true) ↔ Reaches F zeros marks start i
  members_reached i = let K = walking.walk_component S zeros marks long start in (K.reached i, K.all i)

  -- Theorem. No variable is a member twice.
  pub members_once : Apart (members_from F zeros marks start)
  members_once = (walking.walk_component S zeros marks long start).apart

  -- An open start comes first.
  pub members_start : Open marks start → get_or (members_from F zeros marks start) 0 0 ≡ start
  members_start = walking.walk_first S zeros marks long start

  -- Each member was open and is below n.
  pub members_open : (i : ℕ) → has (members_from F zeros marks start) i ≡ true → Open marks i × (i < variables F)
  members_open i h = (walking.member_open S zeros marks long start i h, walking.member_below S zeros marks long start i h)

  -- Their marks are 0 afterwards, and all others as before.
  pub marks_after : (i : ℕ) → get_or (marks_from F zeros marks start) i 0 ≡ cond (has (members_from F zeros marks start) i) 0 (get_or marks i 0)
  marks_after = walking.walk_marks S zeros marks long start

  -- Theorem. An entry that joins has both ends among the members or none, or an end that was not open.
  pub members_closed : (k : ℕ) → k < entries F → joins F zeros k ≡ true
      → (has (members_from F zeros marks start) (row_end F k) ≡ has (members_from F zeros marks start) (column_end F k))
      ⊎ ((get_or marks (row_end F k) 0 ≢ 2) ⊎ (get_or marks (column_end F k) 0 ≢ 2))
  members_closed = resting.rest_closed S (resting.rest_start long) start

-- ---- from each lowest start

-- Theorem. The components found are disjoint, each open variable is in exactly one, and their lowest variables rise.
pub components_found : {F : Field} → Shaped F → (zeros : Bool) (marks : List ℕ) → length marks ≡ variables F → Partition F zeros marks (components F zeros marks)
components_found S zeros marks long = parting.components_partition S long

-- What the walks from the starts below i leave is marks without whole components,
pub starts_rest : {F : Field} → Shaped F → (zeros : Bool) (marks : List ℕ) → length marks ≡ variables F → (i : ℕ) → Rest F zeros marks (parts_to F zeros marks i).marks
starts_rest S zeros marks long i = parting.rest_parts S long i

-- and the next walk from an open start finds a component of the first marks.
pub next_component : {F : Field} → Shaped F → {zeros : Bool} {marks₀ marks : List ℕ} → Rest F zeros marks₀ marks → (start : ℕ) → Open marks start
    → Component F zeros marks₀ start (members_from F zeros marks start)
next_component S R start o = resting.rest_component S R start o

-- ---- what the calls lean on

equal_zero : (x : Float) → ne x zero64 ≡ false → eq x zero64 ≡ true
unfolding ne
equal_zero x e = not-false (eq x zero64) e

-- Of components of free variables, in which entries of weight 0 join: an entry that leaves such a component ends in a place that the start values fix.
pub components_separate : {F : Field} → Shaped F → (u : ℕ) {s marks : List ℕ} → Rest F true s marks → (start : ℕ) → Separate (whole_of u F) s (has (members_from F true marks start))
components_separate S u R start k h = resting.rest_closed S R start k h refl

-- Theorem. Where entries of weight 0 do not join: on an exact field an entry that leaves a component of all variables has weight 0.
pub components_inward : {F : Field} → Shaped F → {u : ℕ} → ExactIn u F → (s : List ℕ) {marks : List ℕ} → length s ≡ variables F
    → Rest F false (opened true s) marks → (start k : ℕ) → k < entries F
    → (has (members_from F false marks start) (row_end F k) ≡ has (members_from F false marks start) (column_end F k)) ⊎ Zero ((whole_of u F).weight k)
components_inward {F} S {u} E s {marks} long R start k h = bool_cases (ne (quad_of F k) zero64) joined (λ e. inr (weightless e))
  where
    joined : ne (quad_of F k) zero64 ≡ true
        → (has (members_from F false marks start) (row_end F k) ≡ has (members_from F false marks start) (column_end F k)) ⊎ Zero ((whole_of u F).weight k)
    joined e = ⊎_elim (λ same. inl same)
        (⊎_elim (λ barred. absurd (barred (opened_all s _ (omega (arith, S.row_below k h))))) (λ barred. absurd (barred (opened_all s _ (omega (arith, S.column_below k h))))))
        (resting.rest_closed S R start k h e)

    weightless : ne (quad_of F k) zero64 ≡ false → Zero ((whole_of u F).weight k)
    weightless e =
        let W = quad_worth E k h in
        let a = (whole_of u F).weight k in
        let z : a.plus + 0 ≡ 0 + a.less = eqb-true _ _ (sym (eq_worth W (zero_worth W.unit)) ∙ equal_zero (quad_of F k) e) in
        omega arith

-- ---- any two results that a promise permits are equal

-- Theorem. Any two lists of words that `walk` may leave are equal, and so are the counts of members.
pub walk_one_result : {F : Field} {zeros : Bool} {start : ℕ} {u₀ u v : List ℕ} {r t : ℕ} → Walked F zeros start u₀ u r → Walked F zeros start u₀ v t → (u ≡ v) × (r ≡ t)
walk_one_result = unique.walked_unique

-- Theorem. Any two lists of words that `begin` may leave are equal.
pub begin_one_result : {F : Field} {all : Bool} {s u₀ u v : List ℕ} → Begun F all s u₀ u → Begun F all s u₀ v → u ≡ v
begin_one_result = unique.begun_unique
