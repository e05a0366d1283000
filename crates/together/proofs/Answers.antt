-- What the calls answer on the fields worked by hand, by computation. Assumes nothing.
use mathlib.Core.Path.{◌≡◌, refl}
use mathlib.Core.List.{[], ◌∷◌, map}
use lib.Ieee.{add, sub, mul, neg, le, lt, eq, ne, of_int, of_bits}
use Rattle.weights.specs.Counts.{whole_in, plus, minus}
use Rattle.weights.specs.Worth.{magnitude}
use Rattle.scratch.specs.All.{all_below}
use Rattle.scratch.specs.Over.{over}
use Rattle.expansion.specs.Sum as expansion
use Rattle.field.specs.declared.Grade.TheVariants.{Exact, Inexact}
use Rattle.field.specs.Tests.{ends_below, all_rise, all_finite, bytes_small, few_variables, lists_match, in_order, is_fine, first_from, wrong_at, fault_of, off_diagonal, weights_finite, start_fits, floats_fit, words_fit, shape_tests, loose_tests, open_tests, standard_tests, ready_tests}
use Rattle.field.specs.Grade.{weighs, all_weigh, serves, first_of, unit_of, is_exact_of, grade_of}
use Rattle.calls.specs.Call.{called, run as staged, keeping}
use Rattle.calls.specs.Values.{values_by}
use Rattle.rows.specs.Row.{add_term}
use Rattle.rows.specs.Model as rows
use Rattle.rows.specs.Stored.{up_to}
use Rattle.places.specs.Places.{places, places_from, keep, other_end}
use Rattle.parts.specs.Walk as walk
use Rattle.run.specs.Run as run
use Rattle.masks.specs.Masks as masks
use Rattle.enumeration.specs.Terms as terms
use Rattle.components.specs.Small as small
use Rattle.anchors.specs.Sums as sums
use Rattle.anchors.specs.Model as model
use Rattle.anchors.specs.Call as anchors
use Rattle.together.specs.Worked.{two_pairs, swallowing, one_pair, listings, given, expected, closed, enumerated}
use Rattle.std.specs.Prelude.{Ok}
use Rattle.field.specs.Answers.{counted_answer}

-- Theorem. The anchors are those worked by hand.
pub anchors_worked : map given listings ≡ map expected listings
unfolding called staged keeping anchors.anchors_call
    open_tests loose_tests shape_tests few_variables lists_match in_order is_fine first_from wrong_at fault_of off_diagonal weights_finite start_fits floats_fit words_fit
    ends_below all_rise all_finite bytes_small all_below grade_of is_exact_of unit_of first_of serves all_weigh weighs whole_in plus minus
    places places_from keep other_end over magnitude
    walk.components walk.parts_to walk.part_at walk.walk walk.turns walk.turn_on_of walk.serve walk.visit_all walk.visit_at walk.visit walk.push walk.opened
    expansion.split_of expansion.kept expansion.in_front expansion.carried expansion.plus expansion.comes_to_zero
    sums.balance_at sums.balance_over sums.balance_of sums.balanced sums.weight_at sums.weight_over sums.weight_of
    model.against model.lead_over model.leads model.turnable model.all_turnable model.anchor_in model.marks_at model.new_at model.anchor_at model.anchors_to model.anchors_of
    add sub mul neg le lt eq ne of_int of_bits
anchors_worked = refl

-- the gradient values of the swallowed rate beside case m
pub closure_worked : ((closed swallowing).answer ≡ counted_answer Inexact 0) × ((closed swallowing).lent.values ≡ 0 ∷ 0 ∷ 1 ∷ 1 ∷ 2 ∷ 2 ∷ [])
unfolding called staged keeping values_by
    ready_tests standard_tests loose_tests shape_tests few_variables lists_match in_order is_fine first_from wrong_at fault_of off_diagonal weights_finite start_fits floats_fit words_fit
    ends_below all_rise all_finite bytes_small all_below grade_of is_exact_of unit_of first_of serves all_weigh weighs whole_in plus minus
    run.closure run.closure_run run.propagate run.work run.serve run.serve_all run.serve_at run.move_row run.scan_to run.scan_at run.judged run.settle run.force run.flat_to
    up_to places places_from keep other_end rows.row_of rows.row_to rows.at_entry rows.at_end add_term
    add sub mul neg le lt eq ne of_int of_bits
closure_worked = (refl, refl)

-- the enumerated values of case m
pub components_worked : ((enumerated one_pair).answer ≡ Ok Exact) × ((enumerated one_pair).lent.values ≡ 1 ∷ 0 ∷ [])
unfolding called staged keeping values_by
    ready_tests standard_tests loose_tests shape_tests few_variables lists_match in_order is_fine first_from wrong_at fault_of off_diagonal weights_finite start_fits floats_fit words_fit
    ends_below all_rise all_finite bytes_small all_below grade_of is_exact_of unit_of first_of serves all_weigh weighs whole_in plus minus
    small.small_parts small.solved_parts small.solved_part places places_from keep other_end
    walk.components walk.parts_to walk.part_at walk.walk walk.turns walk.turn_on_of walk.serve walk.visit_all walk.visit_at walk.visit walk.push walk.opened
    masks.has masks.plus masks.sum_at masks.best_of
    terms.linear_at terms.linear_from terms.linear_part terms.stands terms.entry_from terms.entry_of terms.linear_terms terms.term_at terms.pair_term
    terms.column_terms terms.pair_terms terms.terms_of terms.mask_of terms.put_to terms.solved
    add sub mul neg le lt eq ne of_int of_bits
components_worked = (refl, refl)

-- the smallest unit that serves two pairs and case m is 2^-20
pub units_worked : (unit_of two_pairs ≡ 1053) × (unit_of one_pair ≡ 1053)
unfolding unit_of first_of serves all_weigh weighs whole_in plus minus all_below of_bits
units_worked = (refl, refl)
