-- Both counts have room in the number. Assumes nothing.
use Rattle.ombradiec.proofs.Answered.{both_room}
use Rattle.ombradiec.proofs.Counts.{mend_fits}
use Rattle.ombradiec.proofs.ombradiec_mend.Goals as goal

pub pack-requires : goal.pack-requires
pack-requires c = both_room c.mend.ensures (mend_fits _ _ _ _)
