-- `components` tests, grades, works and clears. Assumes nothing.
use mathlib.Core.Path.{refl}
use Rattle.calls.proofs.Values.{tests_ready, ready_loose, refused_call, done_call}
use borrow.Author.Rules.{rules}
use Rattle.field.proofs.Tried.{err_given}
use Rattle.components.proofs.components.Goals as goal

pub returns-in_err-ready : goal.returns-in_err-ready
returns-in_err-ready c = rw (err_given c.from_residual.ensures) (refused_call _ _ _ _ _ c.ready.ensures c.in_err-ready.was)

pub graded-grade-requires : goal.graded-grade-requires
graded-grade-requires c = ready_loose (tests_ready c.ready.ensures c.in_ok-ready.was)

pub work-requires : goal.work-requires
work-requires c = tests_ready c.ready.ensures c.in_ok-ready.was

pub returns : goal.returns
returns c =
    done_call _ _ _ _ _ c.ready.ensures c.in_ok-ready.was c.graded-grade.ensures c.work.ensures
    (c.fill.ensures.after (λ y e. e)) refl (c.fill-2.ensures.after (λ y e. e)) c.work.auto.u
