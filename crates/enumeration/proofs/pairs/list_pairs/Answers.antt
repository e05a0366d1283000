-- `list_pairs` lists the terms of each column. Assumes nothing.
use native.Mathlib.Omega.{arith}
use Rattle.enumeration.proofs.Filling.{room_after, fill_start, fill_turn, pairs_none, pairs_more, pairs_few}
use Rattle.enumeration.proofs.pairs.list_pairs.Goals as goal

pub loop-b-init : goal.loop-b-init
loop-b-init c = fill_start _ _ (pairs_none _ _ _ _)

pub list_column-end-requires : goal.list_column-end-requires
list_column-end-requires c =
    let room = room_after 10 c.loop-b.invariant.listed (pairs_few _ _ _ _ c.requires.small.few c.requires.small.room _) c.requires.room (omega (arith, c.loop-b-test.true, c.requires.small.few)) in
    record { placed = c.requires.placed; small = c.requires.small; room = room; b_lt_count = c.loop-b-test.true }

pub loop-b-preserved : goal.loop-b-preserved
loop-b-preserved c = fill_turn c.loop-b.invariant c.loop-b-test.true c.list_column-end.ensures (pairs_more _ _ _ _ _ c.requires.small.room)
