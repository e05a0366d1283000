-- `recorded` makes tests 1 to 6. Assumes nothing.
use mathlib.Core.Path.{sym, ◌∙◌}
use borrow.Author.Tests.{eq-eqb, ne_eqb}
use Rattle.field.proofs.Table.{test_no, test_ok, none_left, group_no, group_ok}
use Rattle.kept.specs.Calls.{bounds_fit, record_tests}
use Rattle.field.proofs.Tried.{err_given}
use Rattle.kept.proofs.testing.recorded.Goals as goal

pub returns-in_err-standard : goal.returns-in_err-standard
unfolding record_tests
returns-in_err-standard c = rw (err_given c.from_residual.ensures) (group_no _ _ (sym c.standard.ensures ∙ c.in_err-standard.was))

pub returns-then-bounds-field : goal.returns-then-bounds-field
unfolding record_tests bounds_fit
returns-then-bounds-field c = group_ok _ _ (sym c.standard.ensures ∙ c.in_ok-standard.was) (test_no _ _ (ne_eqb _ _ c.if-bounds-field.true))

pub returns : goal.returns
unfolding record_tests bounds_fit
returns c = group_ok _ _ (sym c.standard.ensures ∙ c.in_ok-standard.was) (test_ok _ _ (eq-eqb _ _ c.if-bounds-field.false) none_left)
