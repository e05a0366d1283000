-- What is demanded of the call `components`, over its promise alone. Assumes nothing.
use Prim.Native.Nat.{ℕ, ◌^◌, ◌<◌, ◌≤◌}
use mathlib.Core.Path.{◌≡◌}
use mathlib.Core.Logic.{◌↔◌}
use mathlib.Core.Bool.{true}
use mathlib.Core.List.{List, []}
use native.Mathlib.Omega.{arith}
use lib.ListN.{length, get_or}
use lib.Ieee.{Float}
use Rattle.weights.specs.Worth.{zero64}
use Rattle.scratch.specs.Cleared.{cleared}
use Rattle.meaning.specs.Steps.{Extends}
use Rattle.meaning.specs.Field.{twice_f, Completion}
use Rattle.meaning.specs.Part.{Safe}
use Rattle.field.specs.declared.Grade.{Grade}
use Rattle.field.specs.declared.Grade.TheVariants.{Exact}
use Rattle.field.specs.declared.Refusal.{Refusal}
use Rattle.field.specs.Field.{Field}
use Rattle.field.specs.Table.{FirstToFail}
use Rattle.field.specs.Tests.{ready_tests, Ready}
use Rattle.field.specs.Grade.{grade_of, Serves}
use Rattle.field.specs.Reading.{whole_of}
use Rattle.calls.specs.Values.{Left, left}
use Rattle.calls.proofs.Values as values
use Rattle.parts.specs.Walk.{components}
use Rattle.parts.specs.Part.{Open, Component}
use Rattle.masks.specs.Masks.{objective, Won, First, HasBits}
use Rattle.enumeration.specs.Terms.{terms_of, put_to}
use Rattle.components.specs.Small.{small_parts}
use Rattle.components.specs.Call.{components_call}
use Rattle.components.proofs.Bridge.{parts_extend, parts_safe}
use Rattle.components.proofs.Small as small
use Rattle.std.specs.Prelude.{Ok, Err}

module _ (F : Field) (s : List ℕ) (f : List Float) (u : List ℕ) where
  -- Theorem. Any two results that the promise permits are equal.
  pub one_result : (x y : Left) → x ≡ components_call F s f u → y ≡ components_call F s f u → x ≡ y
  one_result = values.one_result _ F s f u

  -- Theorem. DEMAND 1. The call is refused with r exactly if the tests before r's own pass, and its own fails.
  pub refused_when : (r : Refusal) → ((components_call F s f u).answer ≡ Err r) ↔ FirstToFail (ready_tests F s (length f) (length u)) r
  refused_when = values.refused_when _ F s f u

  -- Theorem. A refusal changes nothing lent.
  pub refused_leaves : (r : Refusal) → (components_call F s f u).answer ≡ Err r → components_call F s f u ≡ left (Err r) s f u
  refused_leaves = values.refused_leaves _ F s f u

  -- Theorem. It is done exactly if the field, the start values and both scratches are as the table asks, and then gives the grade.
  pub done_when : ((components_call F s f u).answer ≡ Ok (grade_of F)) ↔ Ready F s (length f) (length u)
  done_when = values.done_when _ F s f u

  module _ (g : Grade) (e : (components_call F s f u).answer ≡ Ok g) where
    -- Theorem. Then the values of the small components are in the start values, and both scratches are all zeros.
    pub done_leaves : components_call F s f u ≡ left (Ok (grade_of F)) (small_parts F s) (cleared zero64 f) (cleared 0 u)
    done_leaves = values.done_leaves _ F s f u g e

    pub values_are : (components_call F s f u).lent.values ≡ small_parts F s
    values_are = values.values_are _ F s f u g e

    -- Theorem. Whatever the grade, they extend the start values.
    pub values_extend : Extends s (components_call F s f u).lent.values
    values_extend = let S = (values.ready _ F s f u g e).sound in rw values_are (parts_extend S.shaped S.start).0

    -- Theorem. A free variable of a component of at most 10 has a value afterwards.
    pub small_valued : {i : ℕ} → Open s i → {mine : List ℕ} → Component F true s i mine → length mine ≤ 10 → get_or (components_call F s f u).lent.values i 0 < 2
    small_valued free C few = let S = (values.ready _ F s f u g e).sound in rw values_are (small.small_valued S.shaped s S.start.long free C few)

    -- Theorem. A free variable of a component of more than 10 is still free.
    pub large_kept : {i : ℕ} → Open s i → {mine : List ℕ} → Component F true s i mine → 10 < length mine → get_or (components_call F s f u).lent.values i 0 ≡ 2
    large_kept free C many = let S = (values.ready _ F s f u g e).sound in rw values_are (small.large_kept S.shaped s S.start.long free C many)

    -- Theorem. Of equal sums the lowest mask wins: its bits, in pop order, are the values of a component of at most 10, whatever the sums are.
    pub lowest_first : (p : ℕ) → p < length (components F true s) → (let K = get_or (components F true s) p [] in
        length K ≤ 10 → (mask : ℕ) × (First (objective (terms_of F s K)) (2 ^ length K) mask × HasBits (components_call F s f u).lent.values K mask))
    lowest_first p h few = let S = (values.ready _ F s f u g e).sound in rw values_are (small.lowest_first S.shaped s S.start.long p h few)

-- Theorem. DEMAND 3, for values that hold in one best completion. On an exact field some best completion of the start values agrees with all of them.
pub some_best_agrees : (F : Field) (s : List ℕ) (f : List Float) (u : List ℕ) → (components_call F s f u).answer ≡ Ok Exact
    → {unit : ℕ} → Serves unit F → Safe (whole_of unit F) s (components_call F s f u).lent.values
some_best_agrees F s f u e v =
    let x = values.exact_field _ F s f u e in
    rw (values_are F s f u Exact e) (parts_safe x.0 x.1.1 (omega (arith, v.to)) v.exact)

-- Theorem. Of the masks of a component of at most 10 the values are those of the lowest that is best, whatever completion the values of a mask are put into.
pub lowest_of_best : (F : Field) (s : List ℕ) (f : List Float) (u : List ℕ) → (components_call F s f u).answer ≡ Ok Exact → {unit : ℕ} → Serves unit F
    → (p : ℕ) → p < length (components F true s) → (let K = get_or (components F true s) p [] in length K ≤ 10
    → (mask : ℕ) × (((x : List ℕ) → Completion s x → Won (λ m. twice_f (whole_of unit F) (put_to x K m (length K))) (2 ^ length K) mask) × HasBits (components_call F s f u).lent.values K mask))
lowest_of_best F s f u e v p h few =
    let x = values.exact_field _ F s f u e in
    rw (values_are F s f u Exact e) (small.lowest_of_best x.0 s x.1.1.long p h few (omega (arith, v.to)) v.exact x.1.1)
