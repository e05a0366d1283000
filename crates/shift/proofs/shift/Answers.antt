-- `shift` tests, grades and closes up. Assumes nothing.
use mathlib.Core.Path.{sym, ◌∙◌}
use Rattle.field.proofs.Means.{loose_passes}
use Rattle.shift.proofs.Laws.{refused_call, done_call}
use Rattle.field.proofs.Tried.{err_given}
use Rattle.shift.proofs.shift.Goals as goal

pub returns-in_err-loose : goal.returns-in_err-loose
returns-in_err-loose c = rw (err_given c.from_residual.ensures) (refused_call _ (sym c.loose.ensures ∙ c.in_err-loose.was))

pub graded-grade-requires : goal.graded-grade-requires
graded-grade-requires c =
    (loose_passes _).0 (sym c.loose.ensures ∙ c.in_ok-loose.was)

pub close_up-kept-requires : goal.close_up-kept-requires
close_up-kept-requires c =
    (loose_passes _).0 (sym c.loose.ensures ∙ c.in_ok-loose.was)

pub returns : goal.returns
returns c =
    done_call _ (sym c.loose.ensures ∙ c.in_ok-loose.was) c.graded-grade.ensures c.close_up-kept.ensures
