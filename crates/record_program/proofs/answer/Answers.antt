-- The text that `answer` writes lies within the bytes that it lent. Assumes nothing.
use mathlib.Core.Path.{sym}
use lib.Seq.{length-take-le}
use Rattle.text.proofs.Writes.{written_fits}
use Rattle.record_program.specs.Handed.{an_answer}
use Rattle.record_program.proofs.answer.Goals as goal

pub slice_bounds-text-end : goal.slice_bounds-text-end
slice_bounds-text-end c = written_fits c.answer-size.ensures.written

pub slice_bounds-write_all-end : goal.slice_bounds-write_all-end
slice_bounds-write_all-end c = sym (length-take-le _ _ (written_fits c.answer-size.ensures.written))

pub returns : goal.returns
returns c = an_answer _ c.answer-size.ensures.written.size
