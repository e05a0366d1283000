-- `pinnable` makes tests 1 to 6, then 7. Assumes nothing.
use mathlib.Core.Path.{sym, ◌∙◌}
use Rattle.field.proofs.Table.{test_no, test_ok, none_left, group_no, group_ok}
use Rattle.kept.specs.Calls.{pin_tests}
use Rattle.kept.proofs.Tests.{record_passes, probed_pinned}
use Rattle.field.proofs.Tried.{err_given}
use Rattle.kept.proofs.testing.pinnable.Goals as goal

pub returns-in_err-recorded : goal.returns-in_err-recorded
unfolding pin_tests
returns-in_err-recorded c = rw (err_given c.from_residual.ensures) (group_no _ _ (sym c.recorded.ensures ∙ c.in_err-recorded.was))

pub may_probe-requires : goal.may_probe-requires
may_probe-requires c = ((record_passes _ _ _).0 (sym c.recorded.ensures ∙ c.in_ok-recorded.was)).sound.start.long

pub returns-then-not-may_probe : goal.returns-then-not-may_probe
unfolding pin_tests
returns-then-not-may_probe c =
    group_ok _ _ (sym c.recorded.ensures ∙ c.in_ok-recorded.was) (test_no _ _ (sym (c.may_probe.ensures ∙ probed_pinned _ _ _ _) ∙ c.if-not-may_probe.true))

pub returns : goal.returns
unfolding pin_tests
returns c =
    group_ok _ _ (sym c.recorded.ensures ∙ c.in_ok-recorded.was) (test_ok _ _ (sym (c.may_probe.ensures ∙ probed_pinned _ _ _ _) ∙ c.if-not-may_probe.false) none_left)
