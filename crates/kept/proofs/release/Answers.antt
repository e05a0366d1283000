-- `release` tests, then changes the record. Assumes nothing.
use mathlib.Core.Path.{sym, ◌∙◌}
use native.Mathlib.Omega.{arith}
use Rattle.kept.proofs.Tests.{release_passes}
use Rattle.kept.proofs.Answers.{refused_release, done_release}
use Rattle.field.proofs.Tried.{err_given}
use Rattle.kept.proofs.release.Goals as goal

pub returns-in_err-releasable : goal.returns-in_err-releasable
returns-in_err-releasable c = rw (err_given c.from_residual.ensures) (refused_release _ _ _ _ _ c.releasable.ensures c.in_err-releasable.was)

pub change-requires : goal.change-requires
change-requires c =
    let able = (release_passes _ _ _ _).0 (sym c.releasable.ensures ∙ c.in_ok-releasable.was) in
    record { recorded = able.recorded; i_bound = able.below; value_bound = omega arith }

pub returns : goal.returns
returns c =
    done_release _ _ _ _ _ c.releasable.ensures c.in_ok-releasable.was c.change.ensures
