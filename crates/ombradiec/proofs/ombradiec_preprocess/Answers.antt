-- The position has room in the number. Assumes nothing.
use mathlib.Core.Path.{refl}
use Rattle.ombradiec.proofs.Answered.{one_room}
use Rattle.ombradiec.proofs.Positions.{values_fit}
use Rattle.ombradiec.proofs.ombradiec_preprocess.Goals as goal

pub pack-requires : goal.pack-requires
pack-requires c = one_room c.preprocess.ensures (λ y. refl) (values_fit _ _ _ _ _)
