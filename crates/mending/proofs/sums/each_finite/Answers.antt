-- `each_finite` tests one entry a turn. Assumes nothing.
use mathlib.Core.Path.{sym, ◌∙◌}
use native.Mathlib.Omega.{arith}
use Rattle.scratch.proofs.All.{all_start, all_turn, all_stop, all_done}
use Rattle.mending.proofs.sums.each_finite.Goals as goal

pub loop-k-init : goal.loop-k-init
loop-k-init c = all_start _ _

pub finite_at-requires : goal.finite_at-requires
finite_at-requires c = record { listed = c.requires; k_bound = c.loop-k-test.true }

pub returns-then-not-finite_at : goal.returns-then-not-finite_at
returns-then-not-finite_at c = all_stop _ _ c.loop-k-test.true (sym c.finite_at.ensures ∙ c.if-not-finite_at.true)

pub loop-k-preserved : goal.loop-k-preserved
loop-k-preserved c = all_turn _ c.loop-k.invariant c.loop-k-test.true (sym c.finite_at.ensures ∙ c.if-not-finite_at.false)

pub returns : goal.returns
returns c = all_done _ c.loop-k.invariant (omega arith)
