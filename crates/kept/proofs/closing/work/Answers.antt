-- `work` copies the record, builds the places, runs from the rows, and counts the flat ones. Assumes nothing.
use mathlib.Core.Path.{ap, ◌∙◌}
use native.Mathlib.Omega.{arith}
use lib.ListN.{length}
use Rattle.places.proofs.Shape.{ends_below}
use Rattle.run.proofs.Cells.{placed_start}
use Rattle.kept.proofs.FromRows.{ran_values, ran_flat}
use Rattle.kept.proofs.closing.work.Goals as goal

pub build-requires : goal.build-requires
build-requires c =
    let ready = c.requires.lendable.ready in
    record { ends_below = ends_below ready.sound.shaped; rows_in_bounds = omega (arith, ready.words_room, ready.sound.shaped.rows_long) }

pub propagate-requires : goal.propagate-requires
propagate-requires c =
    let ready = c.requires.lendable.ready in
    let built = c.build.ensures in
    placed_start ready.sound.shaped (ap length c.copy.ensures ∙ ready.sound.start.long) (omega (arith, ready.floats_room, c.copy_bounds.auto.f))
    built.adjacent (omega (arith, ready.words_room, ready.sound.shaped.rows_long, built.long))

pub flat_rows-requires : goal.flat_rows-requires
flat_rows-requires c =
    let placed = c.propagate.ensures.kept.placed in
    omega (arith, placed.values_long, placed.floats_room)

pub returns : goal.returns
returns c = record { list_value = ran_values c.propagate.ensures _ _ _ c.copy.ensures c.copy_bounds.ensures c.requires.lendable.long; value = ran_flat c.propagate.ensures _ _ _ c.copy.ensures c.copy_bounds.ensures c.requires.lendable.long c.flat_rows.ensures }
