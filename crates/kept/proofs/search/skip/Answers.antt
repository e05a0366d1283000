-- `skip` passes over one block a turn. Assumes nothing.
use mathlib.Core.Path.{sym, ◌∙◌}
use Rattle.kept.proofs.Entries.{skip_start, skip_block}
use Rattle.kept.proofs.search.skip.Goals as goal

pub loop-k-init : goal.loop-k-init
loop-k-init c = skip_start c.requires.from_in_bounds

pub block_apart-requires : goal.block_apart-requires
block_apart-requires c = record { rows_len = c.requires.rows_len; from_in_bounds = c.loop-k-test.true }

pub returns-then-not-block_apart : goal.returns-then-not-block_apart
returns-then-not-block_apart c = c.loop-k.invariant

pub loop-k-preserved : goal.loop-k-preserved
loop-k-preserved c = skip_block c.loop-k.invariant c.loop-k-test.true (sym c.block_apart.ensures ∙ c.if-not-block_apart.false)

pub returns : goal.returns
returns c = c.loop-k.invariant
