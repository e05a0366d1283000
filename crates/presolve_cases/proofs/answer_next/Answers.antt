-- Each part that `answer_next` lends lies within its array. Assumes nothing.
use mathlib.Core.Path.{sym}
use lib.Seq.{length-take-le}
use Rattle.text.proofs.Writes.{written_fits}
use Rattle.presolve_cases.proofs.answer_next.Goals as goal

pub slice_bounds-text-end : goal.slice_bounds-text-end
slice_bounds-text-end c = written_fits c.answer-r.ensures.written

pub slice_bounds-write_all-end : goal.slice_bounds-write_all-end
slice_bounds-write_all-end c = sym (length-take-le _ _ (written_fits c.answer-r.ensures.written))
