-- `lay` writes one value a turn. Assumes nothing.
use native.Mathlib.Omega.{arith}
use Rattle.probe.proofs.Laws.{write_start, write_turn, write_done}
use Rattle.heavy.specs.Rounds.{laid_over}
use Rattle.heavy.proofs.Counted.{laid_word}
use Rattle.heavy.proofs.bytes.lay.Goals as goal

pub loop-j-init : goal.loop-j-init
loop-j-init c = write_start _ _

pub loop-j-preserved : goal.loop-j-preserved
loop-j-preserved c =
    write_turn _ _ c.loop-j.invariant (omega arith) (laid_word _ _ _ _ _ _ (omega arith) (c.loop-j.invariant.rest _ (omega arith)) c.laid.ensures)

pub returns : goal.returns
unfolding laid_over
returns c = write_done _ _ c.loop-j.invariant (omega arith)
