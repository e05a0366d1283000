-- `lendable` makes tests 1 to 6, then 8. Assumes nothing.
use mathlib.Core.Path.{sym, ◌∙◌}
use native.Mathlib.Omega.{arith}
use Rattle.field.proofs.Table.{test_no, test_ok, none_left, group_no, group_ok}
use Rattle.kept.specs.Calls.{lent_tests}
use Rattle.kept.proofs.Tests.{record_passes}
use Rattle.field.proofs.Tried.{err_given}
use Rattle.kept.proofs.testing.lendable.Goals as goal

pub returns-in_err-recorded : goal.returns-in_err-recorded
unfolding lent_tests
returns-in_err-recorded c = rw (err_given c.from_residual.ensures) (group_no _ _ (sym c.recorded.ensures ∙ c.in_err-recorded.was))

pub floats_fit-requires : goal.floats_fit-requires
floats_fit-requires c = let shaped = ((record_passes _ _ _).0 (sym c.recorded.ensures ∙ c.in_ok-recorded.was)).sound.shaped in (shaped.few_variables, omega (arith, shaped.few_entries))

pub returns-then-not-floats_fit : goal.returns-then-not-floats_fit
unfolding lent_tests
returns-then-not-floats_fit c =
    group_ok _ _ (sym c.recorded.ensures ∙ c.in_ok-recorded.was) (test_no _ _ (sym c.floats_fit.ensures ∙ c.if-not-floats_fit.true))

pub words_fit-requires : goal.words_fit-requires
words_fit-requires c =
    let shaped = ((record_passes _ _ _).0 (sym c.recorded.ensures ∙ c.in_ok-recorded.was)).sound.shaped in
    (shaped.few_variables, omega (arith, shaped.few_entries))

pub returns-then-not-words_fit : goal.returns-then-not-words_fit
unfolding lent_tests
returns-then-not-words_fit c =
    group_ok _ _ (sym c.recorded.ensures ∙ c.in_ok-recorded.was)
    (test_ok _ _ (sym c.floats_fit.ensures ∙ c.if-not-floats_fit.false) (test_no _ _ (sym c.words_fit.ensures ∙ c.if-not-words_fit.true)))

pub returns : goal.returns
unfolding lent_tests
returns c =
    group_ok _ _ (sym c.recorded.ensures ∙ c.in_ok-recorded.was)
    (test_ok _ _ (sym c.floats_fit.ensures ∙ c.if-not-floats_fit.false) (test_ok _ _ (sym c.words_fit.ensures ∙ c.if-not-words_fit.false) none_left))
