-- `close` tests, grades, works and clears. Assumes nothing.
use mathlib.Core.Path.{refl, sym, ◌∙◌}
use lib.ListN.{length}
use Rattle.field.proofs.Means.{sound_loose}
use Rattle.kept.proofs.Tests.{lent_passes}
use Rattle.kept.proofs.Answers.{refused_close, room_close, done_close}
use Rattle.field.proofs.Tried.{err_given}
use Rattle.kept.proofs.close.Goals as goal

pub returns-in_err-lendable : goal.returns-in_err-lendable
returns-in_err-lendable c = rw (err_given c.from_residual.ensures) (refused_close _ _ _ _ _ _ (sym c.lendable.ensures ∙ c.in_err-lendable.was))

pub returns-then-list-field : goal.returns-then-list-field
returns-then-list-field c =
    room_close _ _ _ _ _ _ _ _ (sym c.lendable.ensures ∙ c.in_ok-lendable.was) (c.fill-then-list-field.ensures.after (λ y e. e)) refl (c.fill-then-list-field-2.ensures.after (λ y e. e)) refl
    c.if-list-field.true (c.fill.ensures.after (λ y e. e))

pub graded-grade-requires : goal.graded-grade-requires
graded-grade-requires c = sound_loose ((lent_passes _ _ _ _ _).0 (sym c.lendable.ensures ∙ c.in_ok-lendable.was)).ready.sound

pub work-flat-requires : goal.work-flat-requires
work-flat-requires c = record { lendable = (lent_passes _ _ _ _ _).0 (sym c.lendable.ensures ∙ c.in_ok-lendable.was); list_len = c.if-list-field.false }

pub returns : goal.returns
returns c =
    done_close _ _ _ _ c.args.f.now c.args.u.now (length c.work-flat.new.f) (length c.work-flat.new.u)
    (sym c.lendable.ensures ∙ c.in_ok-lendable.was) (c.fill-2.ensures.after (λ y e. e)) c.work-flat.auto.f
    (c.fill-3.ensures.after (λ y e. e)) c.work-flat.auto.u c.if-list-field.false c.graded-grade.ensures c.work-flat.ensures.value c.work-flat.ensures.list_value
