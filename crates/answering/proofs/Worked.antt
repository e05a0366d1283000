-- The answer to case g, byte by byte. Assumes nothing.
use mathlib.Core.Path.{◌≡◌, refl}
use lib.Ieee.{add, sub, mul, le, lt, eq, of_int, of_bits}
use Rattle.weights.specs.Counts.{whole_in, plus, minus}
use Rattle.scratch.specs.All.{all_below}
use Rattle.field.specs.Table.{tested}
use Rattle.field.specs.Tests.{ends_below, all_rise, all_finite, bytes_small, few_variables, lists_match, in_order, off_diagonal, weights_finite, start_fits, shape_tests, standard_tests}
use Rattle.field.specs.Grade.{weighs, all_weigh, serves, first_of, unit_of, is_exact_of, grade_of}
use Rattle.rows.specs.Row.{add_term}
use Rattle.rows.specs.Model.{row_of, row_to, at_entry, at_end}
use Rattle.rows.specs.Stored.{up_to}
use Rattle.places.specs.Places.{places, places_from, keep, other_end}
use Rattle.run.specs.Run.{force, settle, judged, scan_at, scan_to, move_row, serve_at, serve_all, serve, work, propagate, closure_run, closure}
use Rattle.endian.specs.Bytes.{value_of, number_at, float_at}
use Rattle.records.specs.Reading.{weight_at, entry_at, given_at, marked_at, read_at}
use Rattle.records.specs.Told.{taken, read_from, parsed}
use Rattle.text.specs.Text.{digits, decimal, grade_line, forced_line, end_line, forced, forced_lines, answer_text}
use Rattle.answering.specs.Answer.{checked_text, field_text, answer_bytes}
use Rattle.answering.specs.CaseG.{input_g, output_g}

-- Theorem. The bytes of case g's records give the bytes of its answer, worked by hand.
pub case_g : answer_bytes input_g ≡ output_g
unfolding answer_bytes parsed read_from taken read_at marked_at weight_at entry_at given_at float_at number_at value_of field_text checked_text tested
    standard_tests shape_tests few_variables lists_match in_order off_diagonal weights_finite start_fits ends_below all_rise all_finite bytes_small all_below
    grade_of is_exact_of unit_of first_of serves all_weigh weighs whole_in plus minus closure closure_run propagate work serve serve_all serve_at move_row scan_to scan_at judged settle
    force up_to places places_from keep other_end row_of row_to at_entry at_end add_term add sub mul le lt eq of_int of_bits digits decimal grade_line forced_line end_line
    forced forced_lines answer_text
case_g = refl
