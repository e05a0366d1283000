-- A call that answers in the start values, however it answers: what its answer says, and how its code meets the promise. Assumes nothing.
use Prim.Native.Nat.{ℕ}
use mathlib.Core.Path.{◌≡◌, sym, ap, ◌∙◌}
use mathlib.Core.Logic.{◌↔◌}
use mathlib.Core.List.{List, [], append-nil}
use lib.ListN.{length, replicate}
use lib.Ieee.{Float}
use Rattle.weights.specs.Worth.{zero64}
use Rattle.scratch.specs.Cleared.{cleared}
use Rattle.field.specs.declared.Refusal.{Refusal}
use Rattle.field.specs.Field.{Field}
use Rattle.field.specs.Table.{tested, FirstToFail}
use Rattle.field.specs.Tests.{ready_tests, Ready}
use Rattle.field.proofs.Means.{ready_passes}
use Rattle.calls.specs.Call as any
use Rattle.calls.specs.Call.{run, table, no_stage}
use Rattle.calls.specs.Values.{Lent, lent, Values, Says, Tells, grades, counts, values_by}
use Rattle.calls.proofs.Answers.{same_refused, done_apart}
use Rattle.calls.proofs.Usual as usual
use Rattle.field.specs.Answers.{Answer, passed}
use Rattle.std.specs.Prelude.{Err}

pub grades_tell : Tells grades
grades_tell = record { same = same_refused; apart = λ F s. done_apart }

pub counts_tell : (count : Field → List ℕ → ℕ) → Tells (counts count)
counts_tell count = record { same = same_refused; apart = λ F s. done_apart }

module _ {A : Type 0} {says : Says A} (tells : Tells says) (values : Values) (F : Field) (s : List ℕ) (f : List Float) (u : List ℕ) where
  -- Theorem. The call is refused with r exactly if the tests before r's own pass, and its own fails.
  pub refused_when : (r : Refusal) → ((values_by says values F s f u).answer ≡ says.refuse r) ↔ FirstToFail (ready_tests F s (length f) (length u)) r
  unfolding values_by table
  refused_when = usual.refused_when says.refuse _ _ [] _ tells.same (tells.apart F s) (append-nil (ready_tests F s (length f) (length u)))

  -- Theorem. A refusal changes nothing lent.
  pub refused_leaves : (r : Refusal) → (values_by says values F s f u).answer ≡ says.refuse r → values_by says values F s f u ≡ any.left (says.refuse r) (lent s f u)
  unfolding values_by
  refused_leaves r e = usual.refused_leaves says.refuse _ _ [] _ tells.same (tells.apart F s) r no_stage e

  -- Theorem. It is done exactly if the field, the start values and both scratches are as the table asks.
  pub done_when : ((values_by says values F s f u).answer ≡ says.done F s) ↔ Ready F s (length f) (length u)
  unfolding values_by table
  done_when =
      usual.done_when says.refuse _ _ [] _ tells.same (tells.apart F s)
      (rw (append-nil (ready_tests F s (length f) (length u))) (ready_passes F s (length f) (length u)))

  -- any answer but a refusal says so, and the values are in the start values, and both scratches are all zeros
  module _ {a : A} (e : (values_by says values F s f u).answer ≡ a) (no-refusal : (r : Refusal) → a ≡ says.refuse r → ⊥) where
    -- Theorem. Where the answer is no refusal, it is what is said when done, with the values in place and scratch all zeros.
    pub done_leaves : values_by says values F s f u ≡ any.left (says.done F s) (lent (values F s) (cleared zero64 f) (cleared 0 u))
    unfolding values_by
    done_leaves = usual.done_leaves says.refuse _ _ [] _ tells.same (tells.apart F s) (λ r z. no-refusal r (sym e ∙ z))

    pub done_answer : says.done F s ≡ a
    done_answer = ap (λ (l : any.Left A Lent). l.answer) (sym done_leaves) ∙ e

    pub ready : Ready F s (length f) (length u)
    ready = done_when.0 (e ∙ sym done_answer)

    -- Theorem. Where the answer is no refusal, the start values are then the values of the call.
    pub values_are : (values_by says values F s f u).lent.values ≡ values F s
    values_are = ap (λ (l : any.Left A Lent). l.lent.values) done_leaves

-- ---- how code meets the promise: its tests give k

module _ {A : Type 0} (says : Says A) (values : Values) (F : Field) (s : List ℕ) (f : List Float) (u : List ℕ) {k : Answer Unit} (e : k ≡ tested (ready_tests F s (length f) (length u))) where
  pub refused_call : {r : Refusal} → k ≡ Err r → any.left (says.refuse r) (lent s f u) ≡ values_by says values F s f u
  unfolding values_by
  refused_call failed = usual.refused_call says.refuse _ _ [] _ (sym e ∙ failed)

  pub done_call : k ≡ passed → {a : A} → a ≡ says.done F s → {s' : List ℕ} → s' ≡ values F s
      → {f' : List Float} {fs : ℕ} → f' ≡ replicate fs zero64 → fs ≡ length f → {u' : List ℕ} {us : ℕ} → u' ≡ replicate us 0 → us ≡ length u
      → any.left a (lent s' f' u') ≡ values_by says values F s f u
  unfolding values_by run
  done_call passes ea es ef lf eu lu = rw (ea, es, ef, lf, eu, lu) (usual.passed_call says.refuse _ _ [] _ (sym e ∙ passes))
