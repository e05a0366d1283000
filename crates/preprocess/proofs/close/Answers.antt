-- `close` makes the rows, and runs from them over the places that stand. Assumes nothing.
use native.Mathlib.Omega.{arith}
use Rattle.run.proofs.Cells.{placed_start}
use Rattle.run.proofs.Turns.{closed_values}
use Rattle.preprocess.proofs.close.Goals as goal

pub fill-requires : goal.fill-requires
fill-requires c =
    record { shaped = c.requires.ready.sound.shaped; values_long = c.requires.ready.sound.start.long; room = omega (arith, c.requires.ready.floats_room) }

pub propagate-requires : goal.propagate-requires
propagate-requires c =
    placed_start c.requires.ready.sound.shaped c.requires.ready.sound.start.long (omega (arith, c.requires.ready.floats_room, c.fill.ensures.long)) c.requires.adjacent (omega (arith, c.requires.ready.words_room, c.requires.ready.sound.shaped.rows_long))

pub returns : goal.returns
returns c =
    record { values = closed_values c.propagate.ensures c.fill.ensures; adjacent = c.propagate.ensures.kept.placed.adjacent; words_long = c.propagate.ensures.kept.words_long }
