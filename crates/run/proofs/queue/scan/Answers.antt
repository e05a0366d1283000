-- `scan` begins at the first variable. Assumes nothing.
use Rattle.scratch.proofs.All.{all_start}
use Rattle.run.proofs.queue.scan.Goals as goal

pub scan_from-requires : goal.scan_from-requires
scan_from-requires c = record { placed = c.requires; passing = all_start _ _ }
