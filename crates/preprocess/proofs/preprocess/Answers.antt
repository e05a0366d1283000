-- `preprocess` tests, grades, works and clears. Assumes nothing.
use mathlib.Core.Path.{◌∙◌}
use Rattle.calls.proofs.Values.{tests_ready, ready_loose, refused_call, done_call}
use Rattle.preprocess.proofs.Laws.{places_asked, ready_built}
use Rattle.field.proofs.Tried.{err_given}
use Rattle.preprocess.proofs.preprocess.Goals as goal

pub returns-in_err-ready : goal.returns-in_err-ready
returns-in_err-ready c = rw (err_given c.from_residual.ensures) (refused_call _ _ _ _ _ c.ready.ensures c.in_err-ready.was)

pub graded-grade-requires : goal.graded-grade-requires
graded-grade-requires c = ready_loose (tests_ready c.ready.ensures c.in_ok-ready.was)

pub build-requires : goal.build-requires
build-requires c = let both = places_asked (tests_ready c.ready.ensures c.in_ok-ready.was) in
    record { ends_below = both.0; rows_in_bounds = both.1 }

pub work-requires : goal.work-requires
work-requires c = record { ready = ready_built (tests_ready c.ready.ensures c.in_ok-ready.was) c.build.ensures.long; adjacent = c.build.ensures.adjacent }

pub returns : goal.returns
returns c =
    done_call _ _ _ _ _ c.ready.ensures c.in_ok-ready.was c.graded-grade.ensures c.work.ensures.values (c.fill.ensures.after (λ y e. e)) c.work.auto.f (c.fill-2.ensures.after (λ y e. e)) (c.work.auto.u ∙ c.build.ensures.long)
