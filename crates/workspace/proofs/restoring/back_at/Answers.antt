-- `back_at` reads the copy, and stores it. Assumes nothing.
use Rattle.workspace.proofs.Backed.{copy_read}
use Rattle.workspace.proofs.restoring.back_at.Goals as goal

pub returns : goal.returns
returns c = let a = c.args in copy_read a.n a.t a.f.now c.put_row.ensures
