-- `walk_rows` makes one turn of the walk at a time. Assumes nothing.
use Rattle.margins.specs.Merge.{rows_of, Going, left_over}
use Rattle.margins.proofs.walking.walk_rows.Given as goal

abbrev pub invariant-loop-w : goal.invariant-loop-w
invariant-loop-w l = Going (rows_of l.keys l.weights l.ea l.eb l.i l.j l.t) l.initial.w l.w

abbrev pub decreases-loop-w : goal.decreases-loop-w
decreases-loop-w l = left_over (rows_of l.keys l.weights l.ea l.eb l.i l.j l.t) l.w
