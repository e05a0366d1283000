-- `move_at` moves the term in the row of the other end. Assumes nothing.
use native.Mathlib.Omega.{arith}
use Rattle.places.proofs.Shape.{other_end_below}
use Rattle.probing.proofs.Moving.{move_does}
use Rattle.probing.proofs.refreshing.move_at.Goals as goal

pub move_row-requires : goal.move_row-requires
move_row-requires c =
    omega (arith, other_end_below c.requires.placed.shaped _ c.requires.k_bound c.requires.t_value, c.requires.placed.floats_room)

pub returns : goal.returns
returns c =
    move_does c.requires.placed _ _ c.requires.k_bound c.requires.t_value c.half-coeff.ensures c.move_row.ensures.value c.move_row.ensures.f_value
