-- `grade_first` lends the front of the lists. Assumes nothing.
use mathlib.Core.Path.{sym}
use lib.Seq.{length-take-le}
use Rattle.mend.proofs.grade_first.Goals as goal

pub slice_bounds-graded-end : goal.slice_bounds-graded-end
slice_bounds-graded-end c = sym (length-take-le _ c.args.field.rows.now c.requires.within.in_rows)

pub slice_bounds-graded-end-2 : goal.slice_bounds-graded-end-2
slice_bounds-graded-end-2 c = sym (length-take-le _ c.args.field.cols.now c.requires.within.in_cols)

pub slice_bounds-graded-end-3 : goal.slice_bounds-graded-end-3
slice_bounds-graded-end-3 c =
    sym (length-take-le _ c.args.field.q.now c.requires.within.in_quad)

pub graded-requires : goal.graded-requires
graded-requires c = c.requires.loose
