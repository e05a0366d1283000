-- `enter` stores the value, then the number. Assumes nothing.
use Rattle.finding.proofs.Emitted.{entered_by}
use Rattle.finding.proofs.emitting.enter.Goals as goal

pub returns : goal.returns
returns c = entered_by _ _ _ _ c.number-key.ensures c.winner.ensures c.counts.ensures.value
