-- `count` counts one entry a turn. Assumes nothing.
use native.Mathlib.Omega.{arith}
use Rattle.mending.proofs.Told.{count_start, count_turn, count_done}
use Rattle.mending.proofs.report.count.Goals as goal

pub loop-k-init : goal.loop-k-init
loop-k-init c = (omega arith, (count_start _ _, omega arith))

pub bounds-u-m : goal.bounds-u-m
bounds-u-m c = omega (arith, c.requires.m_in_bounds)

pub overflow_add-changes : goal.overflow_add-changes
overflow_add-changes c = omega (arith, c.step-changes.ensures.upper_bound)

pub loop-k-preserved : goal.loop-k-preserved
loop-k-preserved c = (omega arith, (count_turn _ _ _ c.loop-k.invariant.1.0 c.step-changes.ensures.value, omega (arith, c.step-changes.ensures.upper_bound)))

pub returns : goal.returns
returns c = count_done _ _ c.loop-k.invariant.1.0 c.loop-k.invariant.0 (omega arith)
