-- `trace` works the row of i out anew, and marks its fixed neighbours. Assumes nothing.
use native.Mathlib.Omega.{arith}
use Rattle.reason.proofs.Traces.{stopped_long, mark_ready, ground_is, marks_are}
use Rattle.reason.proofs.tracing.trace.Goals as goal

pub fill-requires : goal.fill-requires
fill-requires c = record { shaped = c.requires.ready.sound.shaped; values_long = stopped_long c.rest.ensures c.requires.ready.sound.shaped c.requires.ready.sound.start c.requires.i_bound; room = omega (arith, c.requires.ready.floats_room, c.rest.auto.f) }

pub mark-requires : goal.mark-requires
mark-requires c = let both = mark_ready c.rest.ensures c.requires.ready.sound.shaped c.requires.ready.sound.start c.requires.i_bound in
    record { ends_below = both.0; adjacent = both.1.0; i_in_bounds = both.1.1 }

pub returns : goal.returns
returns c = record { value = ground_is c.rest.ensures c.requires.ready.sound.shaped c.requires.ready.sound.start c.requires.i_bound _ c.fill.ensures c.row_at.ensures c.conclude-found.ensures c.explain.ensures; values_value = marks_are c.rest.ensures c.requires.ready.sound.shaped c.requires.ready.sound.start c.requires.i_bound c.mark.ensures }
