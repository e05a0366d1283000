-- `gather` sets every probe value to 2, and walks. Assumes nothing.
use Rattle.probes.proofs.Standing.{standing_walkable, standing_same}
use Rattle.probes.proofs.settling.gather.Goals as goal

pub walk-requires : goal.walk-requires
walk-requires c = record { walkable = standing_walkable c.requires.standing c.set_none.ensures; values_value = c.requires.values_value }

pub returns : goal.returns
returns c =
    rw (standing_same c.requires.standing c.set_none.ensures) at c.walk.ensures.walked
