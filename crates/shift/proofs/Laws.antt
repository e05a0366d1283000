-- From the tests to the answer: what the call leaves where a test fails, and where none does. Assumes nothing.
use Prim.Native.Nat.{ℕ}
use mathlib.Core.Path.{◌≡◌}
use mathlib.Core.List.{[]}
use Rattle.field.specs.declared.Grade.{Grade}
use Rattle.field.specs.declared.Refusal.{Refusal}
use Rattle.field.specs.Field.{Field}
use Rattle.field.specs.Table.{tested}
use Rattle.field.specs.Tests.{loose_tests}
use Rattle.field.specs.Grade.{grade_of}
use Rattle.calls.specs.Call.{run}
use Rattle.calls.proofs.Usual as usual
use Rattle.shift.specs.Closing.{closing, closed}
use Rattle.shift.specs.Call.{left, shift_call}
use Rattle.field.specs.Answers.{counted_answer, passed}
use Rattle.std.specs.Prelude.{Err}

module _ (F : Field) where
  pub refused_call : {r : Refusal} → tested (loose_tests F) ≡ Err r → left (Err r) F ≡ shift_call F
  unfolding shift_call
  refused_call e = usual.refused_call Err _ _ [] _ e

  pub done_call : {g : Grade} {G : Field} {m : ℕ} → tested (loose_tests F) ≡ passed → g ≡ grade_of F → closing G m ≡ closed F → left (counted_answer g m) G ≡ shift_call F
  unfolding shift_call run
  done_call {G = G} {m = m} e eg ec =
      let em : m ≡ (closed F).kept = rw (← ec) in
      let el : G ≡ (closed F).lists = rw (← ec) in
      rw (eg, em, el) (usual.passed_call Err _ _ [] _ e)
