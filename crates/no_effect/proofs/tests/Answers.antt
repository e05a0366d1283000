-- `tests` makes tests 1, 2, 14 to 17 and 5, then 8. Assumes nothing.
use mathlib.Core.Path.{sym, ◌∙◌}
use native.Mathlib.Omega.{arith}
use Rattle.field.proofs.Table.{test_no, test_ok, none_left, group_no, group_ok}
use Rattle.field.proofs.Means.{loose_passes}
use Rattle.no_effect.specs.Call.{word_tests}
use Rattle.field.proofs.Tried.{err_given}
use Rattle.no_effect.proofs.tests.Goals as goal

pub returns-in_err-loose : goal.returns-in_err-loose
unfolding word_tests
returns-in_err-loose c = rw (err_given c.from_residual.ensures) (group_no _ _ (sym c.loose.ensures ∙ c.in_err-loose.was))

pub words_fit-requires : goal.words_fit-requires
words_fit-requires c =
    let shaped = ((loose_passes _).0 (sym c.loose.ensures ∙ c.in_ok-loose.was)).shaped in
    (shaped.few_variables, omega (arith, shaped.few_entries))

pub returns-then-not-words_fit : goal.returns-then-not-words_fit
unfolding word_tests
returns-then-not-words_fit c =
    group_ok _ _ (sym c.loose.ensures ∙ c.in_ok-loose.was) (test_no _ _ (sym c.words_fit.ensures ∙ c.if-not-words_fit.true))

pub returns : goal.returns
unfolding word_tests
returns c =
    group_ok _ _ (sym c.loose.ensures ∙ c.in_ok-loose.was) (test_ok _ _ (sym c.words_fit.ensures ∙ c.if-not-words_fit.false) none_left)
