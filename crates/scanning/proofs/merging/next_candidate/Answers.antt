-- `next_candidate` goes on until a candidate is large enough. Assumes nothing.
use mathlib.Core.Path.{refl}
use Rattle.scanning.proofs.Search.{search_start, search_turn, search_hit, search_none}
use Rattle.scanning.proofs.merging.next_candidate.Goals as goal

pub loop-p-init : goal.loop-p-init
loop-p-init c = search_start c.requires.at_le_end

pub returns-then-t-b : goal.returns-then-t-b
returns-then-t-b c = search_hit c.loop-p.invariant c.loop-p-test.true refl c.if-t-b.true refl

pub loop-p-preserved : goal.loop-p-preserved
loop-p-preserved c =
    search_turn c.loop-p.invariant c.loop-p-test.true (λ e. c.if-t-b.false)

pub returns : goal.returns
returns c = search_none c.loop-p.invariant c.loop-p-test.false
