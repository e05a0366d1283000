-- `closure` tests, grades, works, counts and clears. Assumes nothing.
use mathlib.Core.Path.{ap₂}
use Rattle.calls.specs.Values.{counts}
use Rattle.calls.proofs.Values.{tests_ready, ready_loose}
use Rattle.calls.proofs.ValuesBy.{refused_call, done_call}
use Rattle.run.specs.Run.{closure}
use Rattle.closure.specs.Call.{flat}
use Rattle.field.specs.Answers.{counted_answer}
use Rattle.field.proofs.Tried.{err_given}
use Rattle.closure.proofs.closure.Goals as goal

pub returns-in_err-ready : goal.returns-in_err-ready
returns-in_err-ready c = rw (err_given c.from_residual.ensures) (refused_call (counts flat) closure _ _ _ _ c.ready.ensures c.in_err-ready.was)

pub graded-grade-requires : goal.graded-grade-requires
graded-grade-requires c = ready_loose (tests_ready c.ready.ensures c.in_ok-ready.was)

pub work-flat-requires : goal.work-flat-requires
work-flat-requires c = tests_ready c.ready.ensures c.in_ok-ready.was

pub returns : goal.returns
returns c =
    done_call (counts flat) closure _ _ _ _ c.ready.ensures c.in_ok-ready.was
    (ap₂ counted_answer c.graded-grade.ensures c.work-flat.ensures.value) c.work-flat.ensures.values_value
    (c.fill.ensures.after (λ y e. e)) c.work-flat.auto.f (c.fill-2.ensures.after (λ y e. e)) c.work-flat.auto.u
