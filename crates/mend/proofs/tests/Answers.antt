-- `tests` makes these, then 8. Assumes nothing.
use mathlib.Core.Path.{sym, ◌∙◌}
use native.Mathlib.Omega.{arith}
use Rattle.field.proofs.Table.{test_no, test_ok, none_left, group_no, group_ok}
use Rattle.mend.specs.Call.{mend_tests}
use Rattle.mend.proofs.Laws.{sum_passes}
use Rattle.field.proofs.Tried.{err_given}
use Rattle.mend.proofs.tests.Goals as goal

pub returns-in_err-sum_tests : goal.returns-in_err-sum_tests
unfolding mend_tests
returns-in_err-sum_tests c = rw (err_given c.from_residual.ensures) (group_no _ _ (sym c.sum_tests.ensures ∙ c.in_err-sum_tests.was))

pub floats_fit-requires : goal.floats_fit-requires
floats_fit-requires c = let l = ((sum_passes _).0 (sym c.sum_tests.ensures ∙ c.in_ok-sum_tests.was)).0 in (l.few_variables, omega (arith, l.few_entries))

pub returns-then-not-floats_fit : goal.returns-then-not-floats_fit
unfolding mend_tests
returns-then-not-floats_fit c =
    group_ok _ _ (sym c.sum_tests.ensures ∙ c.in_ok-sum_tests.was) (test_no _ _ (sym c.floats_fit.ensures ∙ c.if-not-floats_fit.true))

pub words_fit-requires : goal.words_fit-requires
words_fit-requires c =
    let l = ((sum_passes _).0 (sym c.sum_tests.ensures ∙ c.in_ok-sum_tests.was)).0 in
    (l.few_variables, omega (arith, l.few_entries))

pub returns-then-not-words_fit : goal.returns-then-not-words_fit
unfolding mend_tests
returns-then-not-words_fit c =
    group_ok _ _ (sym c.sum_tests.ensures ∙ c.in_ok-sum_tests.was) (test_ok _ _ (sym c.floats_fit.ensures ∙ c.if-not-floats_fit.false) (test_no _ _ (sym c.words_fit.ensures ∙ c.if-not-words_fit.true)))

pub returns : goal.returns
unfolding mend_tests
returns c =
    group_ok _ _ (sym c.sum_tests.ensures ∙ c.in_ok-sum_tests.was) (test_ok _ _ (sym c.floats_fit.ensures ∙ c.if-not-floats_fit.false) (test_ok _ _ (sym c.words_fit.ensures ∙ c.if-not-words_fit.false) (none_left)))
