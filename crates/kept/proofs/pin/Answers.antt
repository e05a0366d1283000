-- `pin` tests, then changes the record. Assumes nothing.
use mathlib.Core.Path.{sym, ◌∙◌}
use native.Mathlib.Omega.{arith}
use Rattle.kept.proofs.Tests.{pin_passes}
use Rattle.kept.proofs.Answers.{refused_pin, done_pin}
use Rattle.field.proofs.Tried.{err_given}
use Rattle.kept.proofs.pin.Goals as goal

pub returns-in_err-pinnable : goal.returns-in_err-pinnable
returns-in_err-pinnable c = rw (err_given c.from_residual.ensures) (refused_pin _ _ _ _ _ _ c.pinnable.ensures c.in_err-pinnable.was)

pub change-requires : goal.change-requires
change-requires c =
    let able = (pin_passes _ _ _ _ _).0 (sym c.pinnable.ensures ∙ c.in_ok-pinnable.was) in
    record { recorded = able.recorded; i_bound = able.below; value_bound = omega (arith, able.small) }

pub returns : goal.returns
returns c =
    done_pin _ _ _ _ _ _ c.pinnable.ensures c.in_ok-pinnable.was c.change.ensures
