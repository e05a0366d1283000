-- `make` tests, grades, works and clears. Assumes nothing.
use mathlib.Core.Path.{refl, sym, ◌∙◌}
use native.Mathlib.Omega.{arith}
use lib.ListN.{length}
use Rattle.field.proofs.Means.{sound_loose}
use Rattle.kept.proofs.Tests.{lent_passes}
use Rattle.kept.proofs.Answers.{refused_make, inexact_make, done_make}
use Rattle.field.proofs.Tried.{err_given}
use Rattle.kept.proofs.make.Goals as goal

pub returns-in_err-lendable : goal.returns-in_err-lendable
returns-in_err-lendable c = rw (err_given c.from_residual.ensures) (refused_make _ _ _ _ _ _ (sym c.lendable.ensures ∙ c.in_err-lendable.was))

pub is_exact-requires : goal.is_exact-requires
is_exact-requires c = sound_loose ((lent_passes _ _ _ _ _).0 (sym c.lendable.ensures ∙ c.in_ok-lendable.was)).ready.sound

pub returns-then-not-is_exact : goal.returns-then-not-is_exact
returns-then-not-is_exact c =
    inexact_make _ _ _ _ _ _ _ _ (sym c.lendable.ensures ∙ c.in_ok-lendable.was) (c.fill.ensures.after (λ y e. e)) refl (c.fill-then-not-is_exact.ensures.after (λ y e. e)) refl
    (sym c.is_exact.ensures ∙ c.if-not-is_exact.true)

pub begin-requires : goal.begin-requires
begin-requires c =
    let lent = (lent_passes _ _ _ _ _).0 (sym c.lendable.ensures ∙ c.in_ok-lendable.was) in
    record { fillable = record { shaped = lent.ready.sound.shaped; values_long = lent.ready.sound.start.long; room = omega (arith, lent.ready.floats_room) }; bounds_len = lent.long }

pub returns : goal.returns
returns c =
    done_make _ _ _ _ c.args.f.now c.args.u.now (length c.begin.new.f) _ (sym c.lendable.ensures ∙ c.in_ok-lendable.was)
    (c.fill-2.ensures.after (λ y e. e)) c.begin.auto.f (c.fill-3.ensures.after (λ y e. e)) refl
    (sym c.is_exact.ensures ∙ c.if-not-is_exact.false) c.begin.ensures
