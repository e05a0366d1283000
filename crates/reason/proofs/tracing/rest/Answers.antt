-- `rest` runs up to where i has its value, and takes back what waits. Assumes nothing.
use mathlib.Core.Path.{sym, ◌∙◌}
use native.Mathlib.Omega.{arith}
use Rattle.places.proofs.Shape.{ends_below}
use Rattle.run.proofs.Cells.{placed_start}
use Rattle.reason.proofs.Traces.{queue_below, stopped}
use Rattle.reason.proofs.tracing.rest.Goals as goal

pub build-requires : goal.build-requires
build-requires c = record { ends_below = ends_below c.requires.ready.sound.shaped; rows_in_bounds = omega (arith, c.requires.ready.words_room, c.requires.ready.sound.shaped.rows_long) }

pub fill-requires : goal.fill-requires
fill-requires c = record { shaped = c.requires.ready.sound.shaped; values_long = c.requires.ready.sound.start.long; room = omega (arith, c.requires.ready.floats_room) }

pub scan-tail-requires : goal.scan-tail-requires
scan-tail-requires c = placed_start c.requires.ready.sound.shaped c.requires.ready.sound.start.long (omega (arith, c.requires.ready.floats_room, c.fill.ensures.long)) c.build.ensures.adjacent (omega (arith, c.requires.ready.words_room, c.requires.ready.sound.shaped.rows_long, c.build.ensures.long))

pub serve_until-at-requires : goal.serve_until-at-requires
serve_until-at-requires c = record { placed = c.scan-tail.ensures.kept.placed; i_bound = c.requires.i_bound }

pub take_back-requires : goal.take_back-requires
take_back-requires c = record { head_le_last = c.serve_until-at.ensures.served; last_in_bounds = omega (arith, c.serve_until-at.ensures.kept.placed.words_room, c.serve_until-at.ensures.kept.placed.queue_room); all_below = queue_below c.serve_until-at.ensures.kept.placed (sym c.serve_until-at.ensures.kept.placed.values_long) }

pub shape_of-u : goal.shape_of-u
shape_of-u c = c.serve_until-at.ensures.kept.words_long ∙ c.scan-tail.ensures.kept.words_long ∙ c.build.ensures.long

pub returns : goal.returns
returns c = stopped c.fill.ensures c.scan-tail.ensures c.serve_until-at.ensures c.requires.ready.sound.shaped c.requires.exact_in c.requires.ready.sound.start c.take_back.ensures
