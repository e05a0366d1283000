-- `copy_part` copies within the slice. Assumes nothing.
use Rattle.workspace.proofs.Shifting.{shifted_copy}
use Rattle.workspace.proofs.copying.copy_part.Goals as goal

pub returns : goal.returns
returns g c = λ d. shifted_copy d c.args.from c.args.to c.args.count c.copy_within.ensures.len c.copy_within.ensures.by_index
