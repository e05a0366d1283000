-- `work` runs from the start values, and counts the flat rows. Assumes nothing.
use Rattle.run.specs.Run.{closure}
use Rattle.run.proofs.First.{closed_flat}
use Rattle.closure.proofs.work.Goals as goal

pub returns : goal.returns
unfolding closure
returns c =
    let left = c.close.ensures in
    record { values_value = left.values; value = closed_flat left c.flat_rows.ensures }
