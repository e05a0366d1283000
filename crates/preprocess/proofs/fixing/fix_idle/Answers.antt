-- `fix_idle` fixes one variable a turn. Assumes nothing.
use mathlib.Core.Path.{sym, ◌∙◌}
use native.Mathlib.Omega.{arith}
use Rattle.preprocess.proofs.Zeros.{fixes_start, fixes_turn, fixes_done, idle_fixed}
use Rattle.preprocess.proofs.fixing.fix_idle.Goals as goal

pub loop-i-init : goal.loop-i-init
loop-i-init c = fixes_start

pub fix_at-requires : goal.fix_at-requires
fix_at-requires c = record { i_in_bounds = omega arith; i_in_bounds_2 = omega (arith, c.requires.adjacent.room); i_in_bounds_3 = omega (arith, c.requires.values_len) }

pub loop-i-preserved : goal.loop-i-preserved
loop-i-preserved c =
    fixes_turn c.loop-i.invariant c.loop-i-test.true c.fix_at.ensures

pub returns : goal.returns
returns c =
    fixes_done c.loop-i.invariant (omega arith) ∙ idle_fixed _ _ _ _ _ _ c.requires.adjacent (c.requires.shaped.cols_long ∙ sym c.requires.shaped.rows_long)
