-- `mark` marks both ends of one entry a turn. Assumes nothing.
use native.Mathlib.Omega.{arith}
use Rattle.no_effect.proofs.Marking.{marks_start, marks_turn, marks_done}
use Rattle.no_effect.proofs.marks.mark.Goals as goal

pub loop-k-init : goal.loop-k-init
loop-k-init c = marks_start c.requires.ends_below c.requires.n_in_bounds c.requires.begins

pub loop-k-preserved : goal.loop-k-preserved
loop-k-preserved c =
    marks_turn c.requires.ends_below c.loop-k.invariant c.loop-k-test.true c.from-r.ensures c.from-c.ensures

pub returns : goal.returns
returns c = marks_done c.requires.ends_below c.loop-k.invariant (omega arith)
