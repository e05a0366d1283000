-- `ready` makes tests 1 to 6, then 8. Assumes nothing.
use mathlib.Core.Path.{sym, ◌∙◌}
use native.Mathlib.Omega.{arith}
use Rattle.field.specs.Tests.{ready_tests}
use Rattle.field.proofs.Table.{test_no, test_ok, none_left, group_no, group_ok}
use Rattle.field.proofs.Means.{standard_passes}
use Rattle.field.proofs.Tried.{err_given}
use Rattle.field.proofs.tests.ready.Goals as goal

-- `ready` makes tests 1 to 6, then 8. Assumes nothing.
pub returns-in_err-standard : goal.returns-in_err-standard
unfolding ready_tests
returns-in_err-standard c = rw (err_given c.from_residual.ensures) (group_no _ _ (sym c.standard.ensures ∙ c.in_err-standard.was))

pub floats_fit-requires : goal.floats_fit-requires
floats_fit-requires c = let shaped = ((standard_passes _ _).0 (sym c.standard.ensures ∙ c.in_ok-standard.was)).shaped in (shaped.few_variables, omega (arith, shaped.few_entries))

pub returns-then-not-floats_fit : goal.returns-then-not-floats_fit
unfolding ready_tests
returns-then-not-floats_fit c =
    let sound = sym c.standard.ensures ∙ c.in_ok-standard.was in
    group_ok _ _ sound (test_no _ _ (sym c.floats_fit.ensures ∙ c.if-not-floats_fit.true))

pub words_fit-requires : goal.words_fit-requires
words_fit-requires c = let shaped = ((standard_passes _ _).0 (sym c.standard.ensures ∙ c.in_ok-standard.was)).shaped in (shaped.few_variables, omega (arith, shaped.few_entries))

pub returns-then-not-words_fit : goal.returns-then-not-words_fit
unfolding ready_tests
returns-then-not-words_fit c =
    let sound = sym c.standard.ensures ∙ c.in_ok-standard.was in
    let floats = sym c.floats_fit.ensures ∙ c.if-not-floats_fit.false in
    group_ok _ _ sound (test_ok _ _ floats (test_no _ _ (sym c.words_fit.ensures ∙ c.if-not-words_fit.true)))

pub returns : goal.returns
unfolding ready_tests
returns c =
    let sound = sym c.standard.ensures ∙ c.in_ok-standard.was in
    let floats = sym c.floats_fit.ensures ∙ c.if-not-floats_fit.false in
    let words = sym c.words_fit.ensures ∙ c.if-not-words_fit.false in
    group_ok _ _ sound (test_ok _ _ floats (test_ok _ _ words none_left))
