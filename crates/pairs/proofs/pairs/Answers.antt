-- `pairs` tests, grades, works and clears, and refuses a list without room. Assumes nothing.
use mathlib.Core.Path.{sym, ◌∙◌}
use lib.ListN.{length}
use Rattle.field.proofs.Means.{ready_passes, sound_loose}
use Rattle.pairs.proofs.CallLaws.{refused_call, done_call, full_call}
use borrow.Author.Rules.{rules}
use Rattle.field.proofs.Tried.{err_given}
use Rattle.pairs.proofs.pairs.Goals as goal

pub returns-in_err-ready : goal.returns-in_err-ready
returns-in_err-ready c = rw (err_given c.from_residual.ensures) (refused_call _ _ _ _ _ _ (sym c.ready.ensures ∙ c.in_err-ready.was))

pub graded-grade-requires : goal.graded-grade-requires
graded-grade-requires c = sound_loose ((ready_passes _ _ _ _).0 (sym c.ready.ensures ∙ c.in_ok-ready.was)).sound

pub work-tally-requires : goal.work-tally-requires
work-tally-requires c = (ready_passes _ _ _ _).0 (sym c.ready.ensures ∙ c.in_ok-ready.was)

pub returns-then-items-constraints : goal.returns-then-items-constraints
returns-then-items-constraints c =
    full_call _ _ _ _ _ _ (length c.work-tally.new.f) (length c.work-tally.new.u) (sym c.ready.ensures ∙ c.in_ok-ready.was) c.work-tally.ensures
    (c.fill.ensures.after (λ y e. e)) (search rules) (c.fill-2.ensures.after (λ y e. e)) (search rules) (length c.work-tally.new.constraints) c.if-items-constraints.true (c.fill-then-items-constraints.ensures.after (λ y e. e)) (search rules)

pub returns : goal.returns
returns c =
    done_call _ _ _ _ _ _ (length c.work-tally.new.f) (length c.work-tally.new.u) (sym c.ready.ensures ∙ c.in_ok-ready.was) c.work-tally.ensures
    (c.fill.ensures.after (λ y e. e)) (search rules) (c.fill-2.ensures.after (λ y e. e)) (search rules) c.graded-grade.ensures c.if-items-constraints.false
