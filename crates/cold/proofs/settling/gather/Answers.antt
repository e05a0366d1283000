-- `gather` sets every probe value to 2, and walks. Assumes nothing.
use native.Mathlib.Omega.{arith}
use Rattle.probes.proofs.Chosen.{space_enough}
use Rattle.cold.proofs.Walked.{lined_walks, lined_same}
use Rattle.cold.proofs.settling.gather.Goals as goal

pub set_none-requires : goal.set_none-requires
set_none-requires c = omega (arith, space_enough c.requires.ready)

pub walk-requires : goal.walk-requires
walk-requires c = let both = lined_walks c.requires c.set_none.ensures in
    record { afresh = both.0; begins = both.1 }

pub returns : goal.returns
returns c =
    rw (lined_same c.requires c.set_none.ensures) at c.walk.ensures
