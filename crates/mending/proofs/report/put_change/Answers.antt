-- `put_change` writes three numbers, or none. Assumes nothing.
use mathlib.Core.Path.{refl}
use native.Mathlib.Omega.{arith}
use lib.ListN.{length-set}
use Rattle.mending.proofs.Told.{puts_none, puts_one, put_room}
use Rattle.mending.proofs.report.put_change.Goals as goal

pub overflow_add-k : goal.overflow_add-k
overflow_add-k c = omega (arith, c.requires.small)

pub returns-then-wide-k : goal.returns-then-wide-k
returns-then-wide-k c = puts_none _ _ refl _ _ c.if-wide-k.true

pub bounds-report-at : goal.bounds-report-at
bounds-report-at c = omega (arith, put_room _ _ refl c.requires c.if-wide-k.false)

pub bounds-report-at-2 : goal.bounds-report-at-2
bounds-report-at-2 c = simp length-set (omega (arith, put_room _ _ refl c.requires c.if-wide-k.false))

pub bounds-report-at-3 : goal.bounds-report-at-3
bounds-report-at-3 c = simp length-set (omega (arith, put_room _ _ refl c.requires c.if-wide-k.false))

pub returns : goal.returns
returns c = puts_one _ _ refl _ _ c.if-wide-k.false
