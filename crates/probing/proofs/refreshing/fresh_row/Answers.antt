-- `fresh_row` is the fold over the places of a variable. Assumes nothing.
use mathlib.Core.Path.{refl}
use Rattle.places.proofs.Walk.{walk_turn}
use Rattle.probing.proofs.Placed.{row_start, row_reads, row_turn, row_done}
use Rattle.probing.proofs.refreshing.fresh_row.Goals as goal

pub loop-p-init : goal.loop-p-init
loop-p-init c =
    row_start c.requires.readable c.requires.t_bound refl refl c.start-row.ensures

pub bounds-u-n : goal.bounds-u-n
bounds-u-n c = (walk_turn c.loop-p.invariant.walk c.loop-p-test.true).index

pub add_place-row-requires : goal.add_place-row-requires
add_place-row-requires c = let both = row_reads c.requires.readable c.loop-p.invariant c.loop-p-test.true c.entry_in-k.ensures c.end_in-j.ensures in
    record { k_in_bounds = both.0; j_in_bounds = both.1.0; j_value = both.1.1 }

pub loop-p-preserved : goal.loop-p-preserved
loop-p-preserved c = row_turn c.requires.readable c.loop-p.invariant c.loop-p-test.true c.entry_in-k.ensures c.add_place-row.ensures

pub returns : goal.returns
returns c =
    row_done c.requires.readable c.loop-p.invariant c.loop-p-test.false
