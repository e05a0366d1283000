-- `answer_field` works on a copy of the start values, and writes the answer or the refusal. Assumes nothing.
use mathlib.Core.Path.{ap, ◌∙◌}
use Rattle.text.specs.Text.{refused_text}
use Rattle.text.proofs.Writes.{as_written, copied}
use Rattle.answering.proofs.Answers.{refusal_small, done_text, refused_text_lem}
use native.Mathlib.Omega.{arith}
use Rattle.answering.proofs.answer_field.Goals as goal

pub write_refused-requires : goal.write_refused-requires
write_refused-requires c = record { number_bound = refusal_small c.in-Err.is (c.number.ensures); in_bounds = omega (arith, c.requires.enough.text) }

pub returns-in-Ok : goal.returns-in-Ok
returns-in-Ok c =
    as_written (done_text _ _
    c.requires.fits
    c.requires.enough
    (copied c.put_bytes.ensures
    (omega (
      arith,
      c.requires.fits.start_long,
      c.requires.fits.values_long,
    )))
    c.closure-answer.ensures
    c.in-Ok.is)
    c.write_answer.ensures

pub returns-in-Err : goal.returns-in-Err
returns-in-Err c =
    as_written (ap refused_text (c.number.ensures) ∙ refused_text_lem _ _
    c.requires.fits
    c.requires.enough
    (copied c.put_bytes.ensures
    (omega (
      arith,
      c.requires.fits.start_long,
      c.requires.fits.values_long,
    )))
    c.closure-answer.ensures
    c.in-Err.is)
    c.write_refused.ensures
