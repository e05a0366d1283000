-- `refresh` makes the rows of a variable's free neighbours afresh, each once, which is the model's fold over its places. Assumes nothing.
use mathlib.Core.Path.{refl}
use native.Mathlib.Omega.{arith}
use Rattle.probing.proofs.Refreshed.{refresh_start, refresh_reads, refresh_turn, refresh_done}
use Rattle.probing.proofs.refreshing.refresh.Goals as goal

pub loop-p-init : goal.loop-p-init
loop-p-init c =
    refresh_start c.requires.placed c.requires.i_bound refl refl

pub bounds-u-n : goal.bounds-u-n
bounds-u-n c = (refresh_reads c.loop-p.invariant c.loop-p-test.true).0

pub refresh_once-x-requires : goal.refresh_once-x-requires
refresh_once-x-requires c = record { placed = c.loop-p.invariant.kept.placed; standard = c.requires.standard; k_bound = omega (arith, c.entry_in-k.ensures, (refresh_reads c.loop-p.invariant c.loop-p-test.true).1.1); within = c.loop-p.invariant.cursor }

pub loop-p-preserved : goal.loop-p-preserved
loop-p-preserved c =
    refresh_turn c.loop-p.invariant c.loop-p-test.true c.entry_in-k.ensures c.refresh_once-x.ensures.within_2 c.refresh_once-x.ensures.once

pub shape_of-f : goal.shape_of-f
shape_of-f c = c.loop-p.invariant.kept.floats_long

pub returns : goal.returns
returns c = refresh_done c.loop-p.invariant c.loop-p-test.false
