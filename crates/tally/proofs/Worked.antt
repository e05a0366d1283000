-- The lines that are worked by hand are what is printed. Assumes nothing.
use mathlib.Core.Path.{refl}
use lib.Ieee.{add, sub, mul, le, lt, eq, of_int, of_bits}
use Rattle.weights.specs.Counts.{whole_in, plus as plus_of, minus}
use Rattle.scratch.specs.All.{all_below}
use Rattle.field.specs.Table.{tested}
use Rattle.field.specs.Tests.{ends_below, all_rise, all_finite, bytes_small, few_variables, lists_match, in_order, off_diagonal, weights_finite, start_fits, shape_tests, standard_tests}
use Rattle.field.specs.Grade.{weighs, all_weigh, serves, first_of, unit_of, is_exact_of}
use Rattle.rows.specs.Row.{add_term}
use Rattle.rows.specs.Model.{row_of, row_to, at_entry, at_end}
use Rattle.rows.specs.Stored.{up_to}
use Rattle.places.specs.Places.{places, places_from, keep, other_end}
use Rattle.run.specs.Run.{force, settle, judged, scan_at, scan_to, move_row, serve_at, serve_all, serve, work, propagate, closure_run, closure}
use Rattle.endian.specs.Bytes.{bytes_of, value_of, number_at, float_at}
use Rattle.records.specs.Reading.{weight_at, entry_at, given_at, marked_at, read_at}
use Rattle.records.specs.Told.{taken, read_from, parsed}
use Rattle.records.specs.WellFormed.{spell, spelled}
use Rattle.text.specs.Text.{digits, decimal, refused_text}
use Rattle.tally.specs.Pieces.{pieces_from, pieces, count_to, has_passed, accepted, is_read, values_of, of_read, is_forced_to, sum_of}
use Rattle.tally.specs.Tally.{counts_of, totals_of, plus, larger, largest, is_within, counted, has_fault, ending_of, tally_on, tally_of}
use Rattle.tally.specs.Text.{each_text, rate_text, line_of, ending_text, tally_text}
use Rattle.tally.specs.Cases.{Holds, empty, case_g, one_given, end_alone, all_given, inexact, remainder, one_refused, cut, limited}

-- Theorem. The ten lines worked by hand are what the tally prints.
pub worked : Holds empty × Holds case_g × Holds one_given × Holds end_alone × Holds all_given × Holds inexact × Holds remainder × Holds one_refused × Holds cut × Holds limited
unfolding tally_text ending_text line_of rate_text each_text tally_of tally_on ending_of has_fault counted is_within largest larger plus totals_of counts_of sum_of
    pieces pieces_from count_to has_passed accepted is_read values_of of_read is_forced_to spelled spell bytes_of parsed read_from taken read_at marked_at weight_at entry_at
    given_at float_at number_at value_of tested standard_tests shape_tests few_variables lists_match in_order off_diagonal weights_finite start_fits ends_below all_rise all_finite
    bytes_small all_below is_exact_of unit_of first_of serves all_weigh weighs whole_in plus_of minus closure closure_run propagate work serve serve_all serve_at move_row
    scan_to scan_at judged settle force up_to places places_from keep other_end row_of row_to at_entry at_end add_term add sub mul le lt eq of_int of_bits digits decimal
    refused_text
worked = (refl, refl, refl, refl, refl, refl, refl, refl, refl, refl)
