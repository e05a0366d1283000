-- `releasable` makes tests 1 to 6, then 7. Assumes nothing.
use mathlib.Core.Path.{sym, ◌∙◌}
use Rattle.field.proofs.Table.{test_no, test_ok, none_left, group_no, group_ok}
use Rattle.kept.specs.Calls.{release_tests}
use Rattle.kept.proofs.Tests.{record_passes}
use Rattle.field.proofs.Tried.{err_given}
use Rattle.kept.proofs.testing.releasable.Goals as goal

pub returns-in_err-recorded : goal.returns-in_err-recorded
unfolding release_tests
returns-in_err-recorded c = rw (err_given c.from_residual.ensures) (group_no _ _ (sym c.recorded.ensures ∙ c.in_err-recorded.was))

pub may_release-requires : goal.may_release-requires
may_release-requires c = ((record_passes _ _ _).0 (sym c.recorded.ensures ∙ c.in_ok-recorded.was)).sound.start.long

pub returns-then-not-may_release : goal.returns-then-not-may_release
unfolding release_tests
returns-then-not-may_release c =
    group_ok _ _ (sym c.recorded.ensures ∙ c.in_ok-recorded.was) (test_no _ _ (sym c.may_release.ensures ∙ c.if-not-may_release.true))

pub returns : goal.returns
unfolding release_tests
returns c =
    group_ok _ _ (sym c.recorded.ensures ∙ c.in_ok-recorded.was) (test_ok _ _ (sym c.may_release.ensures ∙ c.if-not-may_release.false) none_left)
