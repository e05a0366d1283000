-- The variable that a no names has room in the number. Assumes nothing.
use Rattle.ombradiec.proofs.Answered.{one_room}
use Rattle.ombradiec.proofs.Positions.{allow_fits}
use Rattle.packing.proofs.Reading.{allowed_none}
use Rattle.ombradiec.proofs.ombradiec_allow.Goals as goal

pub pack-requires : goal.pack-requires
pack-requires c = one_room c.allow.ensures allowed_none (allow_fits _ _ _ _ _ _)
