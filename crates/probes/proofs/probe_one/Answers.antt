-- `probe_one` tests, grades, works, leaves out the start values, and clears. Assumes nothing.
use mathlib.Core.Path.{refl, sym, ap, ◌∙◌}
use native.Mathlib.Omega.{arith}
use lib.ListN.{length}
use Rattle.field.proofs.Means.{sound_loose}
use Rattle.probe.specs.Call.{new_only, given_by}
use Rattle.probe.proofs.Laws.{probe_passes, refused_call, room_call, done_call}
use Rattle.field.proofs.Tried.{err_given}
use Rattle.probes.proofs.probe_one.Goals as goal

pub returns-in_err-ready_to_probe : goal.returns-in_err-ready_to_probe
returns-in_err-ready_to_probe c = rw (err_given c.from_residual.ensures) (refused_call _ _ _ _ _ _ _ (sym c.ready_to_probe.ensures ∙ c.in_err-ready_to_probe.was))

pub returns-then-values-field : goal.returns-then-values-field
returns-then-values-field c =
    let passed = sym c.ready_to_probe.ensures ∙ c.in_ok-ready_to_probe.was in
    room_call _ _ _ _ _ _ _ _ _ passed (c.fill-then-values-field.ensures.after (λ y e. e)) refl (c.fill-then-values-field-2.ensures.after (λ y e. e)) refl c.if-values-field.true (c.fill.ensures.after (λ y e. e))

pub graded-grade-requires : goal.graded-grade-requires
graded-grade-requires c =
    sound_loose ((probe_passes _ _ _ _ _ _).0 (sym c.ready_to_probe.ensures ∙ c.in_ok-ready_to_probe.was)).ready.sound

pub work-requires : goal.work-requires
work-requires c = record { probable = (probe_passes _ _ _ _ _ _).0 (sym c.ready_to_probe.ensures ∙ c.in_ok-ready_to_probe.was); values_len = c.if-values-field.false }

pub keep_new-requires : goal.keep_new-requires
keep_new-requires c =
    omega (arith, c.if-values-field.false, ((probe_passes _ _ _ _ _ _).0 (sym c.ready_to_probe.ensures ∙ c.in_ok-ready_to_probe.was)).ready.sound.start.long)

pub returns : goal.returns
unfolding given_by
returns c =
    let worked = c.work in
    let passed = sym c.ready_to_probe.ensures ∙ c.in_ok-ready_to_probe.was in
    let given = c.args in
    done_call _ _ _ _ _ given.f.now given.u.now (length worked.new.f) (length worked.new.u) passed
    (c.fill-2.ensures.after (λ y e. e)) worked.auto.f (c.fill-3.ensures.after (λ y e. e)) worked.auto.u
    c.if-values-field.false c.graded-grade.ensures (c.keep_new.ensures ∙ ap (new_only _) worked.ensures)
