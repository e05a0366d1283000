-- `assume` copies the start values, and adds the one value. Assumes nothing.
use Rattle.probe.proofs.Laws.{set_same}
use Rattle.probe.proofs.values.assume.Goals as goal

pub returns : goal.returns
returns c = set_same _ _ c.copy.ensures
