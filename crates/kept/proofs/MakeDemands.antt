-- The demands for a record that is made, over the promise of the call `make` alone. Assumes nothing.
use Prim.Native.Nat.{ℕ, ◌<◌}
use mathlib.Core.Path.{◌≡◌, refl, sym, ap, ◌∙◌}
use mathlib.Core.Logic.{◌≢◌, ◌↔◌}
use mathlib.Core.Bool.{Bool, true, false, cond}
use mathlib.Core.List.{List}
use native.Mathlib.Omega.{arith}
use lib.ListN.{length, get_or}
use lib.Ieee.{Float}
use Rattle.weights.specs.Worth.{zero64}
use Rattle.scratch.specs.Cleared.{cleared}
use Rattle.meaning.specs.Gradient.{low, high}
use Rattle.field.specs.declared.Grade.{Grade}
use Rattle.field.specs.declared.Grade.TheVariants.{Exact, Inexact as NotExact}
use Rattle.field.specs.declared.Refusal.{Refusal}
use Rattle.field.specs.declared.Refusal.TheVariants.{Inexact}
use Rattle.field.specs.Field.{Field, variables}
use Rattle.field.specs.Table.{FirstToFail}
use Rattle.field.specs.Grade.{is_exact_of, grade_of, unit_of, Serves}
use Rattle.field.specs.Reading.{whole_of}
use Rattle.field.proofs.Table.{group_is, last_is}
use Rattle.field.proofs.Exact.{exact_means}
use Rattle.calls.specs.Call.{table, no_stage}
use Rattle.calls.proofs.Answers.{same_refused, done_apart}
use Rattle.calls.proofs.Call as any
use Rattle.calls.proofs.Usual as usual
use Rattle.calls.proofs.Usual.{this_stage, other_stage}
use Rattle.rows.specs.Row.{start_row}
use Rattle.rows.specs.Stored.{row_on}
use Rattle.rows.specs.Counted.{RowWorth}
use Rattle.rows.specs.Model.{row_of}
use Rattle.kept.specs.Kept.{kept, made}
use Rattle.kept.specs.Meaning.{stricts}
use Rattle.kept.specs.Calls.{lent_tests, Lendable, Left, left, make_call, make_table, record_left}
use Rattle.kept.proofs.Tests.{lent_passes, never_inexact}
use Rattle.kept.proofs.Bounds.{made_row}
use Rattle.kept.proofs.Equation.{stored_fixed}
use Rattle.kept.proofs.Made.{row_is_worth, strict_is}
use Rattle.std.specs.Prelude.{Ok, Err}

-- what the test of the grade means
exact_is : (F : Field) → (is_exact_of F ≡ true) ↔ (grade_of F ≡ Exact)
unfolding grade_of
exact_is F = go (is_exact_of F)
  where
    go : (b : Bool) → (b ≡ true) ↔ (cond b Exact NotExact ≡ Exact)
    go true = ((λ e. refl), λ e. refl)
    go false = ((λ e. let z : ◌≡◌ {A = ℕ} 0 1 = cc in absurd (omega arith)), λ e. let z : false ≡ true = cc in z)

inexact_is : (F : Field) → (is_exact_of F ≡ false) ↔ (grade_of F ≡ NotExact)
unfolding grade_of
inexact_is F = go (is_exact_of F)
  where
    go : (b : Bool) → (b ≡ false) ↔ (cond b Exact NotExact ≡ NotExact)
    go true = ((λ e. let z : ◌≡◌ {A = ℕ} 0 1 = cc in absurd (omega arith)), λ e. let z : true ≡ false = cc in z)
    go false = ((λ e. refl), λ e. refl)

module _ (F : Field) (s : List ℕ) (b : List Float) (n : ℕ) (f : List Float) (u : List ℕ) where
  -- Theorem. Any two results that the promise permits are equal.
  pub one_result : (x y : Left) → x ≡ make_call F s b n f u → y ≡ make_call F s b n f u → x ≡ y
  one_result = any.one_result (make_call F s b n f u)

  -- Theorem. The call is refused with r exactly if the tests before r's own pass, and its own fails: 1 to 6, then 8, then 12.
  pub refused_when : (r : Refusal) → ((make_call F s b n f u).answer ≡ Err r) ↔ FirstToFail (make_table F s (length b) (length f) (length u)) r
  unfolding make_call table
  refused_when = usual.refused_when Err _ _ _ _ same_refused done_apart refl

  -- Theorem. A refusal from 1 to 8 changes nothing lent.
  pub refused_leaves : (r : Refusal) → r ≢ Inexact → (make_call F s b n f u).answer ≡ Err r → make_call F s b n f u ≡ left (Err r) b n f u
  unfolding make_call
  refused_leaves r x e = usual.refused_leaves Err _ _ _ _ same_refused done_apart r (other_stage x no_stage) e

  -- Theorem. 12 is given exactly if those tests pass and the field is inexact.
  pub inexact_when : ((make_call F s b n f u).answer ≡ Err Inexact) ↔ (Lendable F s (length b) (length f) (length u) × (grade_of F ≡ NotExact))
  unfolding make_call
  inexact_when =
      let w = usual.last_when Err _ _ Inexact _ _ same_refused done_apart (never_inexact F s (length b) (length f) (length u)) (is_exact_of F) in
      let p = lent_passes F s (length b) (length f) (length u) in
      let x = inexact_is F in
      ((λ e. (p.0 (w.0 e).0, x.0 (w.0 e).1)), λ h. w.1 (p.1 h.0, x.1 h.1))

  -- Theorem. 12 leaves the record as it was, and both scratches all zeros.
  pub inexact_leaves : (make_call F s b n f u).answer ≡ Err Inexact → make_call F s b n f u ≡ left (Err Inexact) b n (cleared zero64 f) (cleared 0 u)
  unfolding make_call
  inexact_leaves e = usual.later_leaves Err _ _ _ _ same_refused done_apart Inexact _ (never_inexact F s (length b) (length f) (length u)) (this_stage no_stage) e

  -- Theorem. It is done exactly if the field, the values, the bounds and both scratches are as the table asks, and the field is exact.
  pub done_when : ((make_call F s b n f u).answer ≡ Ok (grade_of F)) ↔ (Lendable F s (length b) (length f) (length u) × (grade_of F ≡ Exact))
  unfolding make_call table
  done_when =
      usual.done_when Err _ _ _ _ same_refused done_apart
      (group_is (lent_tests F s (length b) (length f) (length u)) _ (lent_passes F s (length b) (length f) (length u)) (last_is Inexact _ (exact_is F)))

  module _ {g : Grade} (e : (make_call F s b n f u).answer ≡ Ok g) where
    -- Theorem. Then the record of the values is in its place, and both scratches are all zeros.
    pub done_leaves : make_call F s b n f u ≡ left (Ok (grade_of F)) (made F s).bounds (made F s).strict (cleared zero64 f) (cleared 0 u)
    unfolding make_call
    done_leaves = usual.done_leaves Err _ _ _ _ same_refused done_apart (λ r z. done_apart r (sym e ∙ z))

    -- Theorem. When it is done, the record that it leaves is the one worked out afresh from the values.
    pub record_is : record_left F s b n f u ≡ made F s
    unfolding made
    record_is = ap (λ (x : Left). kept s x.lent.bounds x.lent.strict) done_leaves

    lendable_exact : Lendable F s (length b) (length f) (length u) × (grade_of F ≡ Exact)
    lendable_exact = done_when.0 (ap (λ (x : Left). x.answer) done_leaves)

    -- Theorem. It is done only where the field, the values and the lengths of record and scratch are as the table asks.
    pub lendable : Lendable F s (length b) (length f) (length u)
    lendable = lendable_exact.0

    -- Theorem. The grade exact says that a unit serves, and the smallest is named. What follows holds in every unit that serves.
    pub unit_serves : Serves (unit_of F) F
    unit_serves = (exact_means F lendable.ready.sound.shaped.rows_long).0 lendable_exact.1

    -- Theorem. The bounds of a free variable are low and high in whole numbers.
    pub bounds_worth : {unit : ℕ} → Serves unit F → (t : ℕ) → get_or s t 0 ≡ 2
        → RowWorth unit (row_on (make_call F s b n f u).lent.bounds (variables F) t) (low (whole_of unit F) s t) (high (whole_of unit F) s t)
    bounds_worth serving t free =
        rw (ap (λ (x : Left). x.lent.bounds) done_leaves) (row_is_worth lendable.ready.sound.shaped serving.exact lendable.ready.sound.start t free)

    -- Theorem. The bounds of a variable that is not free are 0.
    pub others_zero : (t : ℕ) → t < variables F → get_or s t 0 ≢ 2 → row_on (make_call F s b n f u).lent.bounds (variables F) t ≡ start_row zero64
    others_zero t l d = rw (ap (λ (x : Left). x.lent.bounds) done_leaves) (made_row F s t l ∙ stored_fixed (row_of F s t) d)

    -- Theorem. The number of strict rows is that of the free variables on which the values force one.
    pub strict_counts : {unit : ℕ} → Serves unit F → (make_call F s b n f u).lent.strict ≡ stricts (whole_of unit F) s
    strict_counts serving =
        ap (λ (x : Left). x.lent.strict) done_leaves ∙ strict_is lendable.ready.sound.shaped serving.exact lendable.ready.sound.start
