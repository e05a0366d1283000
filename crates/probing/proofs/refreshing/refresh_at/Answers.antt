-- `refresh_at` passes over a fixed other end, and makes the row of a free one afresh. Assumes nothing.
use native.Mathlib.Omega.{arith}
use Rattle.places.proofs.Shape.{other_end_below}
use Rattle.probing.proofs.Refreshed.{readable, refresh_fixed, refresh_free}
use Rattle.probing.proofs.refreshing.refresh_at.Goals as goal

pub bounds-values-t : goal.bounds-values-t
bounds-values-t c =
    omega (arith, other_end_below c.requires.placed.shaped _ c.requires.k_bound c.other_end-t.ensures, c.requires.placed.values_long)

pub returns-then-values-t-ne2 : goal.returns-then-values-t-ne2
returns-then-values-t-ne2 c =
    refresh_fixed c.requires.placed _ c.requires.k_bound c.other_end-t.ensures c.if-values-t-ne2.true

pub fresh_row-row-requires : goal.fresh_row-row-requires
fresh_row-row-requires c = record { readable = readable c.requires.placed c.requires.standard; t_bound = other_end_below c.requires.placed.shaped _ c.requires.k_bound c.other_end-t.ensures }

pub returns : goal.returns
returns c =
    refresh_free c.requires.placed _ c.requires.k_bound c.other_end-t.ensures c.if-values-t-ne2.false c.fresh_row-row.ensures c.put_row.ensures
