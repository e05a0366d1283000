-- `passes_at` tests that the variable is free, then that its row forces a value. Assumes nothing.
use Rattle.run.proofs.First.{passes_fixed, passes_told}
use Rattle.run.proofs.steps.passes_at.Goals as goal

pub returns-then-values-i-ne2 : goal.returns-then-values-i-ne2
returns-then-values-i-ne2 c = passes_fixed _ c.if-values-i-ne2.true

pub returns : goal.returns
returns c =
    passes_told c.if-values-i-ne2.false c.row_at.ensures c.judge.ensures c.forced-value.ensures c.is_none.ensures
