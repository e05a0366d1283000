-- What the call `shift` answers and leaves, as one function of what it is given, for every input. Assumes nothing.
use Rattle.std.specs.Prelude.{[], Err}
use Rattle.field.specs.declared.Counted.{Counted}
use Rattle.field.specs.Field.{Field}
use Rattle.field.specs.Tests.{loose_tests}
use Rattle.field.specs.Grade.{grade_of}
use Rattle.calls.specs.Call as any
use Rattle.calls.specs.Call.{called, usual}
use Rattle.shift.specs.Closing.{closed}
use Rattle.field.specs.Answers.{Answer, counted_answer}

-- the answer, and the four lent lists afterwards, which are the field
abbrev pub Left : Type 0
Left = any.Left (Answer Counted) Field

-- What the call `shift` leaves, made of its answer and the field's four lists.
abbrev pub left : Answer Counted → Field → Left
left r G = any.left r G

-- tests 1, 2, 14 to 17 and 5, then the shift: the grade is of the field as it was given, and the new m is answered
unfoldable pub shift_call : Field → Left
shift_call F = called (usual Err F (loose_tests F) [] (left (counted_answer (grade_of F) (closed F).kept) (closed F).lists))
