-- `sum_tests` makes tests 1, 2, 5 and 18. Assumes nothing.
use mathlib.Core.Path.{sym, ◌∙◌}
use Rattle.field.proofs.Table.{test_no, test_ok, none_left}
use Rattle.mend.specs.Call.{sum_tests}
use Rattle.mend.proofs.Laws.{listed_is}
use Rattle.mend.proofs.sum_tests.Goals as goal

pub returns-then-not-few_variables : goal.returns-then-not-few_variables
unfolding sum_tests
returns-then-not-few_variables c = test_no _ _ (sym c.few_variables.ensures ∙ c.if-not-few_variables.true)

pub returns-then-not-lists_match : goal.returns-then-not-lists_match
unfolding sum_tests
returns-then-not-lists_match c =
    test_ok _ _ (sym c.few_variables.ensures ∙ c.if-not-few_variables.false) (test_no _ _ (sym c.lists_match.ensures ∙ c.if-not-lists_match.true))

pub returns-then-not-weights_finite : goal.returns-then-not-weights_finite
unfolding sum_tests
returns-then-not-weights_finite c =
    test_ok _ _ (sym c.few_variables.ensures ∙ c.if-not-few_variables.false) (test_ok _ _ (sym c.lists_match.ensures ∙ c.if-not-lists_match.false)
    (test_no _ _ (sym c.weights_finite.ensures ∙ c.if-not-weights_finite.true)))

pub sums_finite-requires : goal.sums_finite-requires
sums_finite-requires c =
    listed_is _ (sym c.few_variables.ensures ∙ c.if-not-few_variables.false) (sym c.lists_match.ensures ∙ c.if-not-lists_match.false)

pub returns-then-not-sums_finite : goal.returns-then-not-sums_finite
unfolding sum_tests
returns-then-not-sums_finite c =
    test_ok _ _ (sym c.few_variables.ensures ∙ c.if-not-few_variables.false) (test_ok _ _ (sym c.lists_match.ensures ∙ c.if-not-lists_match.false)
    (test_ok _ _ (sym c.weights_finite.ensures ∙ c.if-not-weights_finite.false) (test_no _ _ (sym c.sums_finite.ensures ∙ c.if-not-sums_finite.true))))

pub returns : goal.returns
unfolding sum_tests
returns c =
    test_ok _ _ (sym c.few_variables.ensures ∙ c.if-not-few_variables.false) (test_ok _ _ (sym c.lists_match.ensures ∙ c.if-not-lists_match.false)
    (test_ok _ _ (sym c.weights_finite.ensures ∙ c.if-not-weights_finite.false) (test_ok _ _ (sym c.sums_finite.ensures ∙ c.if-not-sums_finite.false) (none_left))))
