-- `propagate` is the scan, then the queue. Assumes nothing.
use mathlib.Core.Path.{refl}
use Rattle.run.proofs.Turns.{propagate_does}
use Rattle.run.proofs.propagate.Goals as goal

pub scan-tail-requires : goal.scan-tail-requires
scan-tail-requires c = c.requires

pub work-requires : goal.work-requires
work-requires c = c.scan-tail.ensures.kept.placed

pub returns : goal.returns
returns c =
    propagate_does refl c.scan-tail.ensures
    c.work.ensures
