-- `next_entry` passes over blocks, then over entries. Assumes nothing.
use mathlib.Core.Path.{sym, ◌∙◌}
use Rattle.kept.proofs.Entries.{skip_one, next_found, next_none}
use Rattle.kept.proofs.search.next_entry.Goals as goal

pub loop-k-init : goal.loop-k-init
loop-k-init c = c.skip-k.ensures

pub returns-then-not-is_apart : goal.returns-then-not-is_apart
returns-then-not-is_apart c = next_found c.loop-k.invariant (sym c.is_apart.ensures ∙ c.if-not-is_apart.true)

pub loop-k-preserved : goal.loop-k-preserved
loop-k-preserved c =
    skip_one c.loop-k.invariant c.loop-k-test.true (sym c.is_apart.ensures ∙ c.if-not-is_apart.false)

pub returns : goal.returns
returns c = next_none c.loop-k.invariant c.loop-k-test.false
