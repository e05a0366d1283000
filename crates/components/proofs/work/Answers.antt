-- `work` builds the places and solves. Assumes nothing.
use native.Mathlib.Omega.{arith}
use Rattle.places.proofs.Shape.{ends_below}
use Rattle.components.proofs.Parted.{ready_solvable}
use borrow.Author.Rules.{rules}
use Rattle.components.proofs.work.Goals as goal

pub build-requires : goal.build-requires
build-requires c = record { ends_below = ends_below c.requires.sound.shaped; rows_in_bounds = omega (arith, c.requires.words_room, c.requires.sound.shaped.rows_long) }

pub solve-requires : goal.solve-requires
solve-requires c =
    ready_solvable _ c.requires c.build.ensures

pub returns : goal.returns
returns c = c.solve.ensures.values
