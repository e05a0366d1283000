-- `ready_to_probe` makes tests 1 to 6, then 7, then 8. Assumes nothing.
use mathlib.Core.Path.{sym, ◌∙◌}
use native.Mathlib.Omega.{arith}
use Rattle.field.proofs.Table.{test_no, test_ok, none_left, group_no, group_ok}
use Rattle.field.proofs.Means.{standard_passes}
use Rattle.probe.specs.Call.{probe_tests}
use Rattle.field.proofs.Tried.{err_given}
use Rattle.probe.proofs.testing.ready_to_probe.Goals as goal

pub returns-in_err-standard : goal.returns-in_err-standard
unfolding probe_tests
returns-in_err-standard c = rw (err_given c.from_residual.ensures) (group_no _ _ (sym c.standard.ensures ∙ c.in_err-standard.was))

pub may_probe-requires : goal.may_probe-requires
may_probe-requires c = ((standard_passes _ _).0 (sym c.standard.ensures ∙ c.in_ok-standard.was)).start.long

pub returns-then-not-may_probe : goal.returns-then-not-may_probe
unfolding probe_tests
returns-then-not-may_probe c =
    group_ok _ _ (sym c.standard.ensures ∙ c.in_ok-standard.was) (test_no _ _ (sym c.may_probe.ensures ∙ c.if-not-may_probe.true))

pub floats_fit-requires : goal.floats_fit-requires
floats_fit-requires c =
    let shaped = ((standard_passes _ _).0 (sym c.standard.ensures ∙ c.in_ok-standard.was)).shaped in (shaped.few_variables, omega (arith, shaped.few_entries))

pub returns-then-not-floats_fit : goal.returns-then-not-floats_fit
unfolding probe_tests
returns-then-not-floats_fit c =
    group_ok _ _ (sym c.standard.ensures ∙ c.in_ok-standard.was) (test_ok _ _ (sym c.may_probe.ensures ∙ c.if-not-may_probe.false)
    (test_no _ _ (sym c.floats_fit.ensures ∙ c.if-not-floats_fit.true)))

pub words_fit-requires : goal.words_fit-requires
words_fit-requires c =
    let shaped = ((standard_passes _ _).0 (sym c.standard.ensures ∙ c.in_ok-standard.was)).shaped in (shaped.few_variables, omega (arith, shaped.few_entries))

pub returns-then-not-words_fit : goal.returns-then-not-words_fit
unfolding probe_tests
returns-then-not-words_fit c =
    group_ok _ _ (sym c.standard.ensures ∙ c.in_ok-standard.was) (test_ok _ _ (sym c.may_probe.ensures ∙ c.if-not-may_probe.false)
    (test_ok _ _ (sym c.floats_fit.ensures ∙ c.if-not-floats_fit.false) (test_no _ _ (sym c.words_fit.ensures ∙ c.if-not-words_fit.true))))

pub returns : goal.returns
unfolding probe_tests
returns c =
    group_ok _ _ (sym c.standard.ensures ∙ c.in_ok-standard.was) (test_ok _ _ (sym c.may_probe.ensures ∙ c.if-not-may_probe.false)
    (test_ok _ _ (sym c.floats_fit.ensures ∙ c.if-not-floats_fit.false) (test_ok _ _ (sym c.words_fit.ensures ∙ c.if-not-words_fit.false) none_left)))
