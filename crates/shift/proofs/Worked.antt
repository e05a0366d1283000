-- A field with two entries on the diagonal, shifted by the call's promise, by computation. Assumes nothing.
use mathlib.Core.Path.{◌≡◌, refl}
use mathlib.Core.Bool.{true, false}
use mathlib.Core.List.{[], ◌∷◌}
use lib.IntN.{pos, negsuc}
use lib.Ieee.{fin, add, mul, le, of_bits}
use Rattle.scratch.specs.All.{all_below}
use Rattle.scratch.specs.Over.{over}
use Rattle.field.specs.declared.Grade.TheVariants.{Inexact}
use Rattle.field.specs.Field.{field_of}
use Rattle.field.specs.Tests.{ends_below, all_rise, all_finite, few_variables, lists_match, in_order, off_diagonal, weights_finite, shape_tests, loose_tests}
use Rattle.field.specs.Grade.{is_exact_of, grade_of}
use Rattle.calls.specs.Call.{called, run, keeping}
use Rattle.shift.specs.Picked.{picked}
use Rattle.shift.specs.Closing.{linear_to, closed_to, closed}
use Rattle.shift.specs.Call.{left, shift_call}
use Rattle.field.specs.Answers.{counted_answer}

-- c=(1,-1), (0,0) 3, (0,1) 2, (1,1) 4: c=(2.5,1), (0,1) 2, and the two places past it as they were
pub worked : shift_call
    (field_of
    (fin false 1 (pos 0) ∷ fin true 1 (pos 0) ∷ [])
    (0 ∷ 0 ∷ 1 ∷ [])
    (0 ∷ 1 ∷ 1 ∷ [])
    (fin false 3 (pos 0) ∷ fin false 1 (pos 1) ∷ fin false 1 (pos 2) ∷ []))
    ≡ left (counted_answer Inexact 1)
    (field_of
    (fin false 5 (negsuc 0) ∷ fin false 1 (pos 0) ∷ [])
    (0 ∷ 0 ∷ 1 ∷ [])
    (1 ∷ 1 ∷ 1 ∷ [])
    (fin false 1 (pos 1) ∷ fin false 1 (pos 1) ∷ fin false 1 (pos 2) ∷ []))
unfolding shift_call called run keeping loose_tests shape_tests few_variables lists_match in_order off_diagonal weights_finite ends_below all_rise all_finite all_below grade_of is_exact_of closed closed_to linear_to picked over add mul le of_bits
worked = refl
