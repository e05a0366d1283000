-- `count_field` works on a copy of the start values. Assumes nothing.
use native.Mathlib.Omega.{arith}
use Rattle.text.proofs.Writes.{copied}
use Rattle.answering.proofs.Answers.{done_is, refused_is}
use Rattle.tally.proofs.Counts.{counts_read, counts_refused}
use Rattle.tally.proofs.count_field.Goals as goal

pub put_bytes-requires : goal.put_bytes-requires
put_bytes-requires c = omega (arith, c.requires.start_long, c.requires.values_long)

pub read_field-requires : goal.read_field-requires
read_field-requires c = record { values_len = omega (arith, c.requires.start_long, c.requires.values_long, c.put_bytes.auto.out, c.closure-answer.auto.start); start_len_bound = omega (arith, c.requires.start_long, c.requires.few_variables) }

pub returns-in-Ok : goal.returns-in-Ok
returns-in-Ok c = counts_read _ _ (done_is _ _ _ c.requires.floats c.requires.words (copied c.put_bytes.ensures (omega (arith, c.requires.start_long, c.requires.values_long))) c.closure-answer.ensures c.in-Ok.is) c.read_field.ensures

pub returns-in-Err : goal.returns-in-Err
returns-in-Err c = counts_refused _ _ (refused_is _ _ _ c.requires.floats c.requires.words (copied c.put_bytes.ensures (omega (arith, c.requires.start_long, c.requires.values_long))) c.closure-answer.ensures c.in-Err.is) c.refused_field.ensures
