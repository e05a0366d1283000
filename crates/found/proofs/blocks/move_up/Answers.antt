-- `move_up` copies the block within the list. Assumes nothing.
use Rattle.found.proofs.Raising.{raised_none, raised_copy}
use Rattle.found.proofs.blocks.move_up.Goals as goal

pub returns-then-high-top : goal.returns-then-high-top
returns-then-high-top c =
    let a = c.args in
    raised_none a.low a.high a.top a.list.now c.requires.top_in_bounds c.requires.low_le_high c.if-high-top.true

pub returns : goal.returns
returns c =
    let a = c.args in
    raised_copy a.low a.high a.top a.list.now c.requires.top_in_bounds c.requires.low_le_high c.requires.high_le_top c.copy_within.ensures.after
