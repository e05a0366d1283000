-- The count has room in the number. Assumes nothing.
use mathlib.Core.Path.{refl}
use Rattle.ombradiec.proofs.Answered.{one_room}
use Rattle.ombradiec.proofs.Counts.{anchors_fit}
use Rattle.ombradiec.proofs.ombradiec_anchors.Goals as goal

pub pack-requires : goal.pack-requires
pack-requires c = one_room c.anchors.ensures (λ y. refl) (anchors_fit _ _ _ _ _ _)
