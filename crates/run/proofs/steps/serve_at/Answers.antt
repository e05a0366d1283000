-- `serve_at` passes over a fixed other end, moves the row of a free one, and settles a forced verdict. Assumes nothing.
use native.Mathlib.Omega.{arith}
use Rattle.places.proofs.Shape.{other_end_below}
use Rattle.run.proofs.Moves.{settle_room, serve_fixed, serve_acted}
use Rattle.run.proofs.steps.serve_at.Goals as goal

pub bounds-values-t : goal.bounds-values-t
bounds-values-t c =
    omega (arith, other_end_below c.requires.placed.shaped _ c.requires.k_bound c.requires.t_value, c.requires.placed.values_long)

pub returns-then-values-t-ne2 : goal.returns-then-values-t-ne2
returns-then-values-t-ne2 c =
    serve_fixed c.requires.placed _ c.requires.k_bound c.requires.t_value _ c.if-values-t-ne2.true

pub settle-requires : goal.settle-requires
settle-requires c = let both = settle_room c.requires.placed (other_end_below c.requires.placed.shaped _ c.requires.k_bound c.requires.t_value) c.if-values-t-ne2.false c.conclude-found.ensures in
    record { variable_in_bounds = both.0; tail_in_bounds = both.1 }

pub returns : goal.returns
returns c =
    serve_acted c.requires.placed _ c.requires.k_bound c.requires.t_value _ c.if-values-t-ne2.false c.half-coeff.ensures c.move_row.ensures.value
    c.move_row.ensures.f_value c.conclude-found.ensures c.settle.ensures
