-- `scan_at` passes over a fixed variable and an open row, and settles a forced verdict. Assumes nothing.
use Rattle.run.proofs.Moves.{settle_room, scan_fixed, scan_acted}
use Rattle.run.proofs.steps.scan_at.Goals as goal

pub returns-then-values-i-ne2 : goal.returns-then-values-i-ne2
returns-then-values-i-ne2 c =
    scan_fixed c.requires.placed c.requires.i_bound c.if-values-i-ne2.true

pub settle-requires : goal.settle-requires
settle-requires c = let both = settle_room c.requires.placed c.requires.i_bound c.if-values-i-ne2.false c.conclude-found.ensures in
    record { variable_in_bounds = both.0; tail_in_bounds = both.1 }

pub returns : goal.returns
returns c = scan_acted c.requires.placed c.requires.i_bound c.if-values-i-ne2.false c.row_at.ensures c.conclude-found.ensures c.settle.ensures
