-- `strict_rows` is the model's count, a variable at a turn. Assumes nothing.
use mathlib.Core.Path.{refl}
use native.Mathlib.Omega.{arith}
use Rattle.kept.proofs.Strict.{count_start, count_few, count_turn, count_done}
use Rattle.kept.proofs.storing.strict_rows.Goals as goal

pub loop-i-init : goal.loop-i-init
loop-i-init c = count_start _ _

pub overflow_add-strict : goal.overflow_add-strict
overflow_add-strict c =
    omega (arith, count_few c.loop-i.invariant refl c.row_at.ensures c.strict_at-strict.ensures, c.requires.values_len_bound, c.loop-i-test.true)

pub loop-i-preserved : goal.loop-i-preserved
loop-i-preserved c = count_turn c.loop-i.invariant refl c.row_at.ensures c.strict_at-strict.ensures c.loop-i-test.true

pub returns : goal.returns
returns c = count_done c.loop-i.invariant c.loop-i-test.false
