-- `ready` makes tests 1, 6, 7 and 8. Assumes nothing.
use Rattle.propagation.proofs.Means.{listed_is}
use Rattle.propagation.specs.Tests.{propagation_tests}
use Rattle.field.proofs.Table.{test_no, test_ok, none_left}
use Rattle.field.specs.Tests.{few_variables}
use borrow.Author.Tests.{leb-true}
use native.Mathlib.Omega.{arith}
use mathlib.Core.Path.{sym, ◌∙◌}
use Rattle.propagation.proofs.tests.ready.Goals as goal

pub returns-then-not-few_variables : goal.returns-then-not-few_variables
unfolding propagation_tests
returns-then-not-few_variables c = test_no _ _ (sym c.few_variables.ensures ∙ c.if-not-few_variables.true)

pub returns-then-not-start_fits : goal.returns-then-not-start_fits
unfolding propagation_tests
returns-then-not-start_fits c =
    test_ok _ _ (sym c.few_variables.ensures ∙ c.if-not-few_variables.false) (test_no _ _ (sym
    c.start_fits.ensures ∙ c.if-not-start_fits.true))

pub returns-then-not-constraints_fit : goal.returns-then-not-constraints_fit
unfolding propagation_tests
returns-then-not-constraints_fit c =
    test_ok _ _ (sym c.few_variables.ensures ∙ c.if-not-few_variables.false) (test_ok _ _ (sym
    c.start_fits.ensures ∙ c.if-not-start_fits.false) (test_no _ _ (sym c.constraints_fit.ensures ∙ c.if-not-constraints_fit.true)))

pub words_fit-requires : goal.words_fit-requires
unfolding few_variables
words_fit-requires c =
    let listed = (listed_is _ _).0 (sym c.constraints_fit.ensures ∙ c.if-not-constraints_fit.false) in
    (leb-true _ _ (sym c.few_variables.ensures ∙ c.if-not-few_variables.false), omega (arith, listed.few, listed.whole))

pub returns-then-not-words_fit : goal.returns-then-not-words_fit
unfolding propagation_tests
returns-then-not-words_fit c =
    test_ok _ _ (sym c.few_variables.ensures ∙ c.if-not-few_variables.false) (test_ok _ _ (sym
    c.start_fits.ensures ∙ c.if-not-start_fits.false) (test_ok _ _ (sym c.constraints_fit.ensures ∙ c.if-not-constraints_fit.false) (test_no _ _ (sym c.words_fit.ensures ∙ c.if-not-words_fit.true))))

pub returns : goal.returns
unfolding propagation_tests
returns c =
    test_ok _ _ (sym c.few_variables.ensures ∙ c.if-not-few_variables.false) (test_ok _ _ (sym
    c.start_fits.ensures ∙ c.if-not-start_fits.false) (test_ok _ _ (sym c.constraints_fit.ensures ∙ c.if-not-constraints_fit.false) (test_ok _ _ (sym c.words_fit.ensures ∙ c.if-not-words_fit.false) none_left)))
