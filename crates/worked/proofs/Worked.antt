-- The values worked by hand, from each call's promise, by computation. Assumes nothing.
use mathlib.Core.Path.{◌≡◌, refl}
use mathlib.Core.List.{map}
use lib.Ieee.{add, sub, mul, neg, le, lt, eq, ne, of_int, of_bits}
use Rattle.weights.specs.Counts.{whole_in, plus, minus}
use Rattle.weights.specs.Worth.{magnitude}
use Rattle.scratch.specs.All.{all_below}
use Rattle.scratch.specs.Over.{over}
use Rattle.meaning.specs.Passes as passes
use Rattle.meaning.specs.Literal as literal
use Rattle.meaning.specs.Free.{frees, free_to}
use Rattle.expansion.specs.Sum as expansion
use Rattle.meaning.specs.Records as records
use Rattle.meaning.specs.Rising as rising
use Rattle.constraints.specs.Record as flat
use Rattle.field.specs.Tests.{ends_below, all_rise, all_finite, bytes_small, few_variables, lists_match, in_order, is_fine, first_from, wrong_at, fault_of, off_diagonal, weights_finite, start_fits, floats_fit, words_fit, shape_tests, loose_tests, open_tests, standard_tests, ready_tests}
use Rattle.field.specs.Grade.{weighs, all_weigh, serves, first_of, unit_of, is_exact_of, grade_of}
use Rattle.calls.specs.Call.{called, run as staged, keeping}
use Rattle.calls.specs.Values as values
use Rattle.rows.specs.Row.{add_term, remove_term}
use Rattle.rows.specs.Model as rows
use Rattle.rows.specs.Stored.{up_to}
use Rattle.places.specs.Places.{places, places_from, keep, other_end}
use Rattle.run.specs.Run as run
use Rattle.probing.specs.Remembered as remembered
use Rattle.parts.specs.Walk as walk
use Rattle.masks.specs.Masks as masks
use Rattle.enumeration.specs.Terms as terms
use Rattle.components.specs.Small as small
use Rattle.no_effect.specs.Effect as effect
use Rattle.preprocess.specs.Working as working
use Rattle.heavy.specs.Rounds as rounds
use Rattle.probe.specs.Found.{found}
use Rattle.probe.specs.Call as probe
use Rattle.ranking.specs.Ranking as ranking
use Rattle.finding.specs.Finds as finds
use Rattle.probes.specs.Call as probes
use Rattle.margins.specs.Model as margins
use Rattle.pairs.specs.Listing as listing
use Rattle.pairs.specs.Call as pairs
use Rattle.anchors.specs.Sums as sums
use Rattle.anchors.specs.Model as anchored
use Rattle.anchors.specs.Call as anchors
use Rattle.propagation.specs.Tests as literals
use Rattle.propagation.specs.Call as propagation
use Rattle.run.specs.Rests as rests
use Rattle.reason.specs.Until as until
use Rattle.reason.specs.Listed as listed
use Rattle.reason.specs.Ground as ground
use Rattle.reason.specs.Call as reason
use Rattle.shift.specs.Picked.{picked}
use Rattle.sub_problem.specs.Reduced as smaller
use Rattle.sub_problem.specs.Call as sub-problem
use Rattle.kept.specs.Kept as kept
use Rattle.kept.specs.Calls as keeps
use Rattle.kept.specs.Operations.{operated_all}
use Rattle.mending.specs.Places as named
use Rattle.mending.specs.Changes as changes
use Rattle.mend.specs.Call as mend
use Rattle.reaching.specs.Via as via
use Rattle.allow.specs.Answer as answer
use Rattle.allow.specs.Call as allow
use Rattle.worked.specs.Cases.{cases, given, numbers, expected}

-- Theorem. Each call's promise gives exactly the answer of the list, and leaves exactly what it says in all that was lent.
pub worked : map given cases ≡ map expected cases
unfolding given expected numbers
    called staged keeping values.values_by
    probe.probe_one_by probe.given_by probe.new_only probe.new_at probe.probe_tests probe.may_probe
    probes.probe_by probes.probe_limited_by probes.candidates_by probes.fits_by probes.all_values_by probes.all_records_by
    pairs.pairs_call anchors.anchors_call sub-problem.sub_problem_call sub-problem.finished mend.mend_call mend.mend_tests mend.sum_tests mend.fits
    propagation.propagate_call literals.propagation_tests literals.constraints_fit literals.all_fit
    ready_tests standard_tests open_tests loose_tests shape_tests few_variables lists_match in_order is_fine first_from wrong_at fault_of off_diagonal weights_finite start_fits floats_fit words_fit
    ends_below all_rise all_finite bytes_small all_below grade_of is_exact_of unit_of first_of serves all_weigh weighs whole_in plus minus magnitude
    run.closure run.closure_run run.propagate run.work run.serve run.serve_all run.serve_at run.move_row run.scan_to run.scan_at run.judged run.settle run.force run.flat_to
    remembered.probe_run remembered.renewed remembered.moves remembered.move_all remembered.move_at remembered.fresh remembered.fresh_all remembered.fresh_at remembered.fresh_row remembered.remembered
    up_to places places_from keep other_end rows.row_of rows.row_to rows.at_entry rows.at_end add_term
    small.small_parts small.solved_parts small.solved_part
    walk.components walk.parts_to walk.part_at walk.walk walk.turns walk.turn_on_of walk.serve walk.visit_all walk.visit_at walk.visit walk.push walk.opened
    masks.has masks.plus masks.sum_at masks.best_of
    terms.linear_at terms.linear_from terms.linear_part terms.stands terms.entry_from terms.entry_of terms.linear_terms terms.term_at terms.pair_term
    terms.column_terms terms.pair_terms terms.terms_of terms.mask_of terms.put_to terms.solved
    effect.untouched effect.has_no_effect working.fix_at working.fix_to working.with_no_effect working.preprocess
    rounds.laid_at rounds.laid_over rounds.probe_values rounds.round rounds.rounds rounds.heavy frees free_to
    ranking.mass_at_end ranking.mass_at_entry ranking.mass_to ranking.mass_of ranking.ahead ranking.insert ranking.ordered ranking.ranks
    found finds.added finds.wins finds.gives_at finds.finding_of finds.finding_by finds.records_to finds.values_after finds.records_found_by finds.values_found_by
    rising.before rising.insert rising.merged_list records.pairs_in records.rules_of flat.flat flat.filled flat.records over
    margins.at_end margins.over_ends margins.merged_weight margins.widen margins.neighbour margins.bounds_to margins.bounds_of margins.sign_of margins.signs_of
    margins.sum_kinds margins.diff_kinds margins.pair_signs margins.pair_kinds
    listing.with_each listing.pairs_of listing.pair_records listing.found_in listing.found
    expansion.split_of expansion.kept expansion.in_front expansion.carried expansion.plus expansion.comes_to_zero
    sums.balance_at sums.balance_over sums.balance_of sums.balanced sums.weight_at sums.weight_over sums.weight_of
    anchored.against anchored.lead_over anchored.leads anchored.turnable anchored.all_turnable anchored.anchor_in anchored.marks_at anchored.new_at
    anchored.anchor_at anchored.anchors_to anchored.anchors_of
    passes.visit passes.pass passes.passes passes.closure literal.implied literal.stands literal.propagate
    reason.reason_call reason.has_value reason.fits ground.reason_of ground.reason_list ground.ground_of ground.in_half_units ground.times
    until.basis until.stop_of until.scanned until.until rests.rests listed.listed_of listed.listed_to listed.is_listed listed.joins_to
    keeps.make_call keeps.pin_call keeps.release_call keeps.close_call keeps.run_from keeps.bounds_fit keeps.record_tests keeps.lent_tests keeps.may_pin keeps.pin_tests keeps.may_release keeps.release_tests operated_all
    kept.stored_row kept.bounds_of kept.strict_to kept.made kept.turn_at kept.turn_to kept.changed remove_term
    allow.allow_call allow.allow_tests allow.fits answer.allowed_of answer.assignment_of answer.counts_to answer.counts_of
    via.arrow via.within via.via via.any_below via.choices_lead via.must via.picked via.contradicts via.first_contradictory via.count_below
    picked smaller.gathered_to smaller.adjusted smaller.given_to smaller.with_given
    named.place_of named.entries_to named.onto named.added named.sum_at named.sums_finite named.places_to named.places_of named.mended changes.change_at changes.changes_to changes.changes_of changes.numbered
    add sub mul neg le lt eq ne of_int of_bits
worked = refl
