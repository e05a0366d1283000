-- `emit` reads what both probes give. Assumes nothing.
use Rattle.finding.proofs.Emitted.{emit_by}
use Rattle.finding.proofs.emitting.emit.Goals as goal

pub returns : goal.returns
returns c = emit_by _ _ _ _ _ _ _ _ c.gives-v.ensures c.from.ensures c.gives-w.ensures c.enter.ensures
