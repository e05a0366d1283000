-- `loose` makes the tests of `shape`, then 5. Assumes nothing.
use mathlib.Core.Path.{sym, ◌∙◌}
use Rattle.field.specs.Tests.{loose_tests}
use Rattle.field.proofs.Table.{test_no, test_ok, none_left, group_no, group_ok}
use Rattle.field.proofs.Tried.{err_given}
use Rattle.field.proofs.tests.loose.Goals as goal

pub returns-in_err-shape : goal.returns-in_err-shape
unfolding loose_tests
returns-in_err-shape c = rw (err_given c.from_residual.ensures) (group_no _ _ (sym c.shape.ensures ∙ c.in_err-shape.was))

pub returns-then-not-weights_finite : goal.returns-then-not-weights_finite
unfolding loose_tests
returns-then-not-weights_finite c =
    let shaped = sym c.shape.ensures ∙ c.in_ok-shape.was in
    group_ok _ _ shaped (test_no _ _ (sym c.weights_finite.ensures ∙ c.if-not-weights_finite.true))

pub returns : goal.returns
unfolding loose_tests
returns c =
    let shaped = sym c.shape.ensures ∙ c.in_ok-shape.was in
    let finite = sym c.weights_finite.ensures ∙ c.if-not-weights_finite.false in
    group_ok _ _ shaped (test_ok _ _ finite none_left)
