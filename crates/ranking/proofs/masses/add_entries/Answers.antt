-- `add_entries` adds one entry a turn. Assumes nothing.
use mathlib.Core.Path.{sym, ◌∙◌}
use Rattle.ranking.proofs.Sums.{massed_start, massed_turn, massed_done}
use Rattle.ranking.proofs.masses.add_entries.Goals as goal

pub loop-k-init : goal.loop-k-init
loop-k-init c = massed_start c.requires.massable c.requires.w_value

pub add_entry-requires : goal.add_entry-requires
add_entry-requires c = record { massable = c.loop-k.invariant.ready; k_bound = c.loop-k-test.true }

pub loop-k-preserved : goal.loop-k-preserved
loop-k-preserved c = massed_turn c.loop-k.invariant c.loop-k-test.true c.add_entry.ensures

pub shape_of-w : goal.shape_of-w
shape_of-w c = c.loop-k.invariant.ready.masses_long ∙ sym c.requires.massable.masses_long

pub returns : goal.returns
returns c = massed_done c.loop-k.invariant c.loop-k-test.false
