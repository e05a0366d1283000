-- `fix_at` passes over a variable with a place, a weight or a value, and sets any other to 0. Assumes nothing.
use Rattle.preprocess.proofs.Zeros.{placed_not, weighs_not, is_idle, not_meant, not_free, takes_zero}
use Rattle.preprocess.proofs.fixing.fix_at.Goals as goal
use Rattle.preprocess.proofs.fixing.fix_at.Goals.{else-u-i-via-then-u-i+then-c-i+else-values-i-eq2, else-u-i-via-then-u-i+else-c-i, else-u-i-via-else-u-i}

pub returns-then-values-i-eq2 : goal.returns-then-values-i-eq2
returns-then-values-i-eq2 c =
    let a = c.args in
    takes_zero a.i a.values.now (is_idle a.c.now a.u.now a.i c.if-u-i.true c.if-c-i.true) c.if-values-i-eq2.true

pub returns-else-u-i : goal.returns-else-u-i
returns-else-u-i c =
    let a = c.args in
    elim c.else-u-i.branch [
      | else-u-i-via-then-u-i+then-c-i+else-values-i-eq2 w ↦ not_free a.i a.values.now (is_idle a.c.now a.u.now a.i w.if-u-i.true w.if-c-i.true) w.if-values-i-eq2.false
      | else-u-i-via-then-u-i+else-c-i w ↦ not_meant a.i a.values.now (weighs_not a.c.now a.u.now a.i w.if-u-i.true w.if-c-i.false)
      | else-u-i-via-else-u-i w ↦ not_meant a.i a.values.now (placed_not a.c.now a.u.now a.i w.if-u-i.false)
    ]
