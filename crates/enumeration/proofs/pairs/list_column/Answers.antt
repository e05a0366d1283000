-- `list_column` lists the terms of each row. Assumes nothing.
use native.Mathlib.Omega.{arith}
use Rattle.enumeration.proofs.Filling.{room_after, fill_start, fill_turn, column_none, column_more, column_few}
use Rattle.enumeration.proofs.pairs.list_column.Goals as goal

pub loop-a-init : goal.loop-a-init
loop-a-init c = fill_start _ _ (column_none _ _ _ _ _)

pub list_pair-end-requires : goal.list_pair-end-requires
list_pair-end-requires c =
    let room = room_after 1 c.loop-a.invariant.listed (column_few _ _ _ _) c.requires.room (omega (arith, c.loop-a-test.true, c.requires.small.few)) in
    record { placed = c.requires.placed; small = c.requires.small; room = room; a_lt_count = c.loop-a-test.true; b_lt_count = c.requires.b_lt_count }

pub loop-a-preserved : goal.loop-a-preserved
loop-a-preserved c = fill_turn c.loop-a.invariant c.loop-a-test.true c.list_pair-end.ensures (column_more _ _ _ _ _ _)
