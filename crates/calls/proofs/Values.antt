-- A call that answers in the start values: what its answer says, whichever values go there, and how its code meets the promise. Assumes nothing.
use Prim.Native.Nat.{ℕ}
use mathlib.Core.Path.{◌≡◌, refl, sym, ap, ◌∙◌}
use mathlib.Core.Logic.{◌↔◌}
use mathlib.Core.Bool.{true}
use mathlib.Core.List.{List}
use native.Mathlib.Omega.{arith}
use lib.ListN.{length, replicate}
use lib.Ieee.{Float}
use Rattle.weights.specs.Worth.{zero64}
use Rattle.scratch.specs.Cleared.{cleared}
use Rattle.field.specs.declared.Grade.{Grade}
use Rattle.field.specs.declared.Grade.TheVariants.{Exact}
use Rattle.field.specs.declared.Refusal.{Refusal}
use Rattle.field.specs.declared.Refusal.TheVariants.{Room}
use Rattle.field.specs.Field.{Field, variables, Shaped, StartFor}
use Rattle.field.specs.Table.{tested, FirstToFail}
use Rattle.field.specs.Tests.{shape_tests, standard_tests, ready_tests, Loose, Ready}
use Rattle.field.specs.Grade.{unit_of, grade_of, Serves}
use Rattle.field.proofs.Means.{ready_passes, sound_loose}
use Rattle.field.proofs.Exact.{exact_means}
use Rattle.field.proofs.Faults.{fault_other}
use Rattle.calls.specs.Call.{without}
use Rattle.calls.specs.Values.{Left, left, Values, grades, values_call}
use Rattle.calls.proofs.Answers.{done_apart}
use Rattle.calls.proofs.Call as any
use Rattle.calls.proofs.ValuesBy as by
use Rattle.calls.proofs.ValuesBy.{grades_tell}
use Rattle.std.specs.Prelude.{Ok, Err}
use Rattle.field.specs.Answers.{Answer, passed}

module _ (values : Values) (F : Field) (s : List ℕ) (f : List Float) (u : List ℕ) where
  -- any two results that the promise permits are equal
  pub one_result : (x y : Left) → x ≡ values_call values F s f u → y ≡ values_call values F s f u → x ≡ y
  one_result = any.one_result (values_call values F s f u)

  -- the call is refused with r exactly if the tests before r's own pass, and its own fails
  pub refused_when : (r : Refusal) → ((values_call values F s f u).answer ≡ Err r) ↔ FirstToFail (ready_tests F s (length f) (length u)) r
  refused_when = by.refused_when grades_tell values F s f u

  -- a refusal changes nothing lent
  pub refused_leaves : (r : Refusal) → (values_call values F s f u).answer ≡ Err r → values_call values F s f u ≡ left (Err r) s f u
  refused_leaves = by.refused_leaves grades_tell values F s f u

  -- it is done exactly if the field, the start values and both scratches are as the table asks, and then gives the grade
  pub done_when : ((values_call values F s f u).answer ≡ Ok (grade_of F)) ↔ Ready F s (length f) (length u)
  done_when = by.done_when grades_tell values F s f u

  module _ (g : Grade) (e : (values_call values F s f u).answer ≡ Ok g) where
    -- then the values are in the start values, and both scratches are all zeros
    pub done_leaves : values_call values F s f u ≡ left (Ok (grade_of F)) (values F s) (cleared zero64 f) (cleared 0 u)
    done_leaves = by.done_leaves grades_tell values F s f u e done_apart

    pub ready : Ready F s (length f) (length u)
    ready = by.ready grades_tell values F s f u e done_apart

    pub graded : grade_of F ≡ g
    graded = let a : Ok (grade_of F) ≡ Ok g = by.done_answer grades_tell values F s f u e done_apart in let z : grade_of F ≡ g = cc in z

    pub values_are : (values_call values F s f u).lent.values ≡ values F s
    values_are = by.values_are grades_tell values F s f u e done_apart

  -- what an answer of done with the grade exact says of the field
  pub exact_field : (values_call values F s f u).answer ≡ Ok Exact → Shaped F × (Serves (unit_of F) F × StartFor (variables F) s)
  exact_field e =
      let r = (ready Exact e).sound in
      (r.shaped, ((exact_means F r.shaped.rows_long).0 (graded Exact e), r.start))

-- none of tests 1 to 6 and 8 gives 9
pub never_room : (F : Field) (s : List ℕ) (floats words : ℕ) → without Room (ready_tests F s floats words) ≡ true
unfolding without ready_tests standard_tests shape_tests
never_room F s floats words = rw (fault_other (variables F) F.rows F.cols 9 (omega arith)) refl

-- ---- how code meets the promise: its tests give k

module _ {F : Field} {s : List ℕ} {floats words : ℕ} where
  pub tests_ready : {k : Answer Unit} → k ≡ tested (ready_tests F s floats words) → k ≡ passed → Ready F s floats words
  tests_ready e p = (ready_passes F s floats words).0 (sym e ∙ p)

  pub ready_loose : Ready F s floats words → Loose F
  ready_loose R = sound_loose R.sound

module _ (values : Values) (F : Field) (s : List ℕ) (f : List Float) (u : List ℕ) {k : Answer Unit} (e : k ≡ tested (ready_tests F s (length f) (length u))) where
  pub refused_call : {r : Refusal} → k ≡ Err r → left (Err r) s f u ≡ values_call values F s f u
  refused_call = by.refused_call grades values F s f u e

  pub done_call : k ≡ passed → {g : Grade} → g ≡ grade_of F → {s' : List ℕ} → s' ≡ values F s
      → {f' : List Float} {fs : ℕ} → f' ≡ replicate fs zero64 → fs ≡ length f → {u' : List ℕ} {us : ℕ} → u' ≡ replicate us 0 → us ≡ length u
      → left (Ok g) s' f' u' ≡ values_call values F s f u
  done_call passes eg = by.done_call grades values F s f u e passes (ap Ok eg)
