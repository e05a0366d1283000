-- `answer_taken` lends scratch as long as the head says. Assumes nothing.
use mathlib.Core.Path.{sym}
use borrow.Author.Rules.{rules}
use lib.Seq.{length-take-le}
use Rattle.cases.proofs.allowing.answer_taken.Goals as goal

pub slice_bounds-allow_in-end-3 : goal.slice_bounds-allow_in-end-3
slice_bounds-allow_in-end-3 c = sym (length-take-le _ _ (search rules))
