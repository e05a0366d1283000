-- `admitted` makes tests 1, 2, 14 to 17 and 5, then 6 and 8. Assumes nothing.
use mathlib.Core.Path.{sym, ◌∙◌}
use native.Mathlib.Omega.{arith}
use Rattle.field.proofs.Table.{test_no, test_ok, none_left, group_no, group_ok}
use Rattle.field.proofs.Means.{loose_passes}
use Rattle.field.specs.Tests.{open_tests}
use Rattle.field.proofs.Tried.{err_given}
use Rattle.field.proofs.tests.admitted.Goals as goal

pub returns-in_err-loose : goal.returns-in_err-loose
unfolding open_tests
returns-in_err-loose c = rw (err_given c.from_residual.ensures) (group_no _ _ (sym c.loose.ensures ∙ c.in_err-loose.was))

pub returns-then-not-start_fits : goal.returns-then-not-start_fits
unfolding open_tests
returns-then-not-start_fits c =
    group_ok _ _ (sym c.loose.ensures ∙ c.in_ok-loose.was)
    (test_no _ _ (sym c.start_fits.ensures ∙ c.if-not-start_fits.true))

pub floats_fit-requires : goal.floats_fit-requires
floats_fit-requires c =
    let shaped = ((loose_passes _).0 (sym c.loose.ensures ∙ c.in_ok-loose.was)).shaped in
    (shaped.few_variables, omega (arith, shaped.few_entries))

pub returns-then-not-floats_fit : goal.returns-then-not-floats_fit
unfolding open_tests
returns-then-not-floats_fit c =
    group_ok _ _ (sym c.loose.ensures ∙ c.in_ok-loose.was)
    (test_ok _ _ (sym c.start_fits.ensures ∙ c.if-not-start_fits.false)
    (test_no _ _ (sym c.floats_fit.ensures ∙ c.if-not-floats_fit.true)))

pub words_fit-requires : goal.words_fit-requires
words_fit-requires c =
    let shaped = ((loose_passes _).0 (sym c.loose.ensures ∙ c.in_ok-loose.was)).shaped in
    (shaped.few_variables, omega (arith, shaped.few_entries))

pub returns-then-not-words_fit : goal.returns-then-not-words_fit
unfolding open_tests
returns-then-not-words_fit c =
    group_ok _ _ (sym c.loose.ensures ∙ c.in_ok-loose.was)
    (test_ok _ _ (sym c.start_fits.ensures ∙ c.if-not-start_fits.false)
    (test_ok _ _ (sym c.floats_fit.ensures ∙ c.if-not-floats_fit.false)
    (test_no _ _ (sym c.words_fit.ensures ∙ c.if-not-words_fit.true))))

pub returns : goal.returns
unfolding open_tests
returns c =
    group_ok _ _ (sym c.loose.ensures ∙ c.in_ok-loose.was)
    (test_ok _ _ (sym c.start_fits.ensures ∙ c.if-not-start_fits.false)
    (test_ok _ _ (sym c.floats_fit.ensures ∙ c.if-not-floats_fit.false)
    (test_ok _ _ (sym c.words_fit.ensures ∙ c.if-not-words_fit.false) none_left)))
