-- `count_all` counts one row a turn. Assumes nothing.
use native.Mathlib.Omega.{arith}
use Rattle.bit_rows.specs.Rows.{bit_in}
use Rattle.reaching.proofs.Counts.{count_most}
use Rattle.allow.proofs.Choosing.{numbering_start, numbering_turn}
use Rattle.allow.proofs.reading.count_all.Goals as goal

pub loop-a-init : goal.loop-a-init
loop-a-init c = numbering_start _ _ _

pub overflow_cast-counts : goal.overflow_cast-counts
overflow_cast-counts c = omega (arith, c.ones.ensures, count_most (bit_in c.args.w.now c.loop-a.a) 2048)

pub loop-a-preserved : goal.loop-a-preserved
loop-a-preserved c = numbering_turn c.loop-a-test.true c.requires.m_in_bounds_2 c.loop-a.invariant c.ones.ensures
