-- `step` tests the mark. Assumes nothing.
use mathlib.Core.Path.{refl}
use native.Mathlib.Omega.{arith}
use Rattle.mending.proofs.Told.{step_none, step_one}
use Rattle.mending.proofs.report.step.Goals as goal

pub returns-then-mark-k : goal.returns-then-mark-k
returns-then-mark-k c = record { value = step_none _ _ refl c.if-mark-k.true; upper_bound = omega arith }

pub returns-else-mark-k : goal.returns-else-mark-k
returns-else-mark-k c = record { value = step_one _ _ refl c.if-mark-k.false; upper_bound = omega arith }
