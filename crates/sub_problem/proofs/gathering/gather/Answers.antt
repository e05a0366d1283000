-- `gather` takes one entry a turn. Assumes nothing.
use mathlib.Core.Path.{refl}
use native.Mathlib.Omega.{arith}
use Rattle.sub_problem.proofs.GatherLoops.{gathering_turn, gathers_done}
use Rattle.sub_problem.proofs.gathering.gather.Goals as goal

pub loop-k-init : goal.loop-k-init
loop-k-init c = record { gathers = c.requires.gathers; same = refl }

pub gather_at-sum-requires : goal.gather_at-sum-requires
gather_at-sum-requires c = record { usable = c.requires.usable; k_bound = c.loop-k-test.true; q_in_bounds = c.loop-k.invariant.gathers.long }

pub loop-k-preserved : goal.loop-k-preserved
loop-k-preserved c =
    gathering_turn c.requires.usable c.loop-k.invariant c.loop-k-test.true c.gather_at-sum.ensures

pub returns : goal.returns
returns c = gathers_done c.loop-k.invariant.gathers (omega arith)
