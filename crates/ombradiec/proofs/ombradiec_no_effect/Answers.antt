-- The count has room in the number. Assumes nothing.
use mathlib.Core.Path.{refl}
use Rattle.ombradiec.proofs.Answered.{one_room}
use Rattle.ombradiec.proofs.Counts.{no_effect_fits}
use Rattle.ombradiec.proofs.ombradiec_no_effect.Goals as goal

pub pack-requires : goal.pack-requires
pack-requires c = one_room c.no_effect.ensures (λ y. refl) (no_effect_fits _ _ _)
