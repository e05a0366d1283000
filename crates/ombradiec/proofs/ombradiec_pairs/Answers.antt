-- Both counts have room in the number. Assumes nothing.
use Rattle.ombradiec.proofs.Answered.{both_room}
use Rattle.ombradiec.proofs.Counts.{pairs_fit}
use Rattle.ombradiec.proofs.ombradiec_pairs.Goals as goal

pub pack-requires : goal.pack-requires
pack-requires c = both_room c.pairs.ensures (pairs_fit _ _ _ _ _ _)
