-- `turn_at` turns the row of the other end, where that is free. Assumes nothing.
use native.Mathlib.Omega.{arith}
use Rattle.kept.proofs.Elsewhere.{other_below}
use Rattle.kept.proofs.Coded.{turn_none, turn_one}
use Rattle.kept.proofs.turning.turn_at.Goals as goal

pub other_end-t-requires : goal.other_end-t-requires
other_end-t-requires c =
    let shaped = c.requires.recorded.sound.shaped in
    record { k_in_bounds = omega (arith, shaped.rows_long, c.requires.k_bound); k_in_bounds_2 = omega (arith, shaped.cols_long, c.requires.k_bound) }

pub bounds-values-t : goal.bounds-values-t
bounds-values-t c =
    omega (arith, c.other_end-t.ensures, other_below c.requires.recorded.sound.shaped c.args.i c.args.k c.requires.k_bound, c.requires.recorded.sound.start.long)

pub returns-then-values-t-ne2 : goal.returns-then-values-t-ne2
returns-then-values-t-ne2 c = turn_none _ _ _ _ _ _ _ c.other_end-t.ensures c.requires.k_value c.if-values-t-ne2.true

pub returns : goal.returns
returns c =
    turn_one _ _ _ _ _ _ _ c.other_end-t.ensures c.requires.k_value c.if-values-t-ne2.false c.half-coeff.ensures c.row_at-row.ensures c.remove_term.ensures
    c.add_term-turned.ensures c.plain.ensures c.put_row.ensures
