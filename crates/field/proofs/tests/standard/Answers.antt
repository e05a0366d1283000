-- `standard` makes the tests of `shape`, then 4, 5 and 6. Assumes nothing.
use mathlib.Core.Path.{sym, ◌∙◌}
use Rattle.field.specs.Tests.{standard_tests}
use Rattle.field.proofs.Table.{test_no, test_ok, none_left, group_no, group_ok}
use Rattle.field.proofs.Means.{shape_passes}
use Rattle.field.proofs.Tried.{err_given}
use Rattle.field.proofs.tests.standard.Goals as goal

pub returns-in_err-shape : goal.returns-in_err-shape
unfolding standard_tests
returns-in_err-shape c = rw (err_given c.from_residual.ensures) (group_no _ _ (sym c.shape.ensures ∙ c.in_err-shape.was))

pub off_diagonal-requires : goal.off_diagonal-requires
off_diagonal-requires c = let shaped = (shape_passes _).0 (sym c.shape.ensures ∙ c.in_ok-shape.was) in shaped.rows_long ∙ sym shaped.cols_long

pub returns-then-not-off_diagonal : goal.returns-then-not-off_diagonal
unfolding standard_tests
returns-then-not-off_diagonal c =
    let shaped = sym c.shape.ensures ∙ c.in_ok-shape.was in
    group_ok _ _ shaped (test_no _ _ (sym c.off_diagonal.ensures ∙ c.if-not-off_diagonal.true))

pub returns-then-not-weights_finite : goal.returns-then-not-weights_finite
unfolding standard_tests
returns-then-not-weights_finite c =
    let shaped = sym c.shape.ensures ∙ c.in_ok-shape.was in
    let standard = sym c.off_diagonal.ensures ∙ c.if-not-off_diagonal.false in
    group_ok _ _ shaped (test_ok _ _ standard (test_no _ _ (sym c.weights_finite.ensures ∙ c.if-not-weights_finite.true)))

pub returns-then-not-start_fits : goal.returns-then-not-start_fits
unfolding standard_tests
returns-then-not-start_fits c =
    let shaped = sym c.shape.ensures ∙ c.in_ok-shape.was in
    let standard = sym c.off_diagonal.ensures ∙ c.if-not-off_diagonal.false in
    let finite = sym c.weights_finite.ensures ∙ c.if-not-weights_finite.false in
    group_ok _ _ shaped (test_ok _ _ standard (test_ok _ _ finite (test_no _ _ (sym c.start_fits.ensures ∙ c.if-not-start_fits.true))))

pub returns : goal.returns
unfolding standard_tests
returns c =
    let shaped = sym c.shape.ensures ∙ c.in_ok-shape.was in
    let standard = sym c.off_diagonal.ensures ∙ c.if-not-off_diagonal.false in
    let finite = sym c.weights_finite.ensures ∙ c.if-not-weights_finite.false in
    let fits = sym c.start_fits.ensures ∙ c.if-not-start_fits.false in
    group_ok _ _ shaped (test_ok _ _ standard (test_ok _ _ finite (test_ok _ _ fits none_left)))
