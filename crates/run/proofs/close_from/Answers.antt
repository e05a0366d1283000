-- `close_from` runs from the rows that stand, where the scan does not pass over every variable. Assumes nothing.
use mathlib.Core.Path.{refl}
use native.Mathlib.Omega.{arith}
use Rattle.places.proofs.Shape.{ends_below}
use Rattle.run.proofs.Cells.{placed_start}
use Rattle.run.proofs.First.{first_passing, still_closes, ran_closes}
use Rattle.run.proofs.close_from.Goals as goal

pub returns-then-from-values : goal.returns-then-from-values
returns-then-from-values c = still_closes _ _ _ c.requires.filled c.requires.closable.values_long (first_passing _ _ c.first-from.ensures) c.if-from-values.true

pub build-requires : goal.build-requires
build-requires c = let ready = c.requires.closable in
    record { ends_below = ends_below ready.shaped; rows_in_bounds = omega (arith, ready.words_room) }

pub scan_from-forced-requires : goal.scan_from-forced-requires
scan_from-forced-requires c =
    let ready = c.requires.closable in
    let built = c.build.ensures in
    record { placed = placed_start ready.shaped ready.values_long ready.floats_room built.adjacent (omega (arith, ready.words_room, built.long)); passing = first_passing _ _ c.first-from.ensures }

pub work-requires : goal.work-requires
work-requires c = c.scan_from-forced.ensures.kept.placed

pub returns : goal.returns
returns c = ran_closes c.requires.filled refl c.scan_from-forced.ensures c.work.ensures
