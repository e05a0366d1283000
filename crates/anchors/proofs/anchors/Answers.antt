-- `anchors` tests, grades, works and clears, and sees whether the list has room. Assumes nothing.
use mathlib.Core.Path.{sym, ◌∙◌}
use native.Mathlib.Omega.{arith}
use lib.ListN.{length}
use Rattle.field.proofs.Means.{admitted_passes, admitted_loose}
use Rattle.anchors.proofs.Laws.{refused_call, counted_call, full_call}
use Rattle.field.proofs.Tried.{err_given}
use Rattle.anchors.proofs.anchors.Goals as goal

pub returns-in_err-admitted : goal.returns-in_err-admitted
returns-in_err-admitted c = rw (err_given c.from_residual.ensures) (refused_call _ _ _ _ _ _ (sym c.admitted.ensures ∙ c.in_err-admitted.was))

pub graded-grade-requires : goal.graded-grade-requires
graded-grade-requires c =
    admitted_loose ((admitted_passes _ _ _ _).0 (sym c.admitted.ensures ∙ c.in_ok-admitted.was))

pub work-found-requires : goal.work-found-requires
work-found-requires c = record { admitted = (admitted_passes _ _ _ _).0 (sym c.admitted.ensures ∙ c.in_ok-admitted.was); grade_value = c.graded-grade.ensures }

pub returns-then-list-found : goal.returns-then-list-found
returns-then-list-found c =
    full_call _ _ _ _ _ _
    (length
    c.work-found.new.f)
    (length
    c.work-found.new.u)
    (sym
    c.admitted.ensures
    ∙
    c.in_ok-admitted.was)
    c.work-found.ensures
    (length
    c.work-found.new.list)
    (omega (
      arith,
      c.if-list-found.true,
      c.work-found.auto.list,
    ))
    (c.fill-then-list-found.ensures.after (λ y e. e))
    c.work-found.auto.list
    (c.fill.ensures.after (λ y e. e))
    c.work-found.auto.f
    (c.fill-2.ensures.after (λ y e. e))
    c.work-found.auto.u

pub returns : goal.returns
returns c =
    counted_call _ _ _ _ _ _
    (length c.work-found.new.f)
    (length c.work-found.new.u)
    (sym
    c.admitted.ensures
    ∙ c.in_ok-admitted.was)
    c.work-found.ensures
    c.graded-grade.ensures
    (omega (arith, c.if-list-found.false, c.work-found.auto.list))
    (c.fill.ensures.after (λ y e. e))
    c.work-found.auto.f
    (c.fill-2.ensures.after (λ y e. e))
    c.work-found.auto.u
