-- `reason` tests, works and clears. Assumes nothing.
use Rattle.calls.proofs.Values.{tests_ready}
use Rattle.reason.proofs.Calls.{refused_call, done_call}
use Rattle.field.proofs.Tried.{err_given}
use Rattle.reason.proofs.reason.Goals as goal

pub returns-in_err-ready : goal.returns-in_err-ready
returns-in_err-ready c = rw (err_given c.from_residual.ensures) (refused_call _ _ _ _ _ _ c.ready.ensures c.in_err-ready.was)

pub work-answer-requires : goal.work-answer-requires
work-answer-requires c = tests_ready c.ready.ensures c.in_ok-ready.was

pub returns : goal.returns
returns c = done_call _ _ _ _ _ _ c.ready.ensures c.in_ok-ready.was c.work-answer.ensures (c.fill.ensures.after (λ y e. e)) c.work-answer.auto.f (c.fill-2.ensures.after (λ y e. e)) c.work-answer.auto.u
