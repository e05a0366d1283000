-- `prepare` grades, copies the start values, builds the places, and makes the workspace. Assumes nothing.
use native.Mathlib.Omega.{arith}
use Rattle.calls.proofs.Values.{ready_loose}
use Rattle.workspace.proofs.Begun.{begin_places}
use Rattle.probes.proofs.prepare.Goals as goal

pub graded-grade-requires : goal.graded-grade-requires
graded-grade-requires c = ready_loose c.requires.ready

pub build-requires : goal.build-requires
build-requires c = let both = begin_places c.args.f.now c.args.u.now c.requires.ready in
    record { ends_below = both.0; rows_in_bounds = both.1 }

pub remember-requires : goal.remember-requires
remember-requires c =
    let ready = c.requires.ready in
    record { ready = record { sound = ready.sound; floats_room = ready.floats_room; words_room = omega (arith, ready.words_room, c.build.ensures.long) }; values_value = c.copy.ensures; grade_value = c.graded-grade.ensures; adjacent = c.build.ensures.adjacent }
