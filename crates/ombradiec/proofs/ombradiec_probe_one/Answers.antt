-- The position has room in the number. Assumes nothing.
use mathlib.Core.Path.{refl}
use Rattle.ombradiec.proofs.Answered.{one_room}
use Rattle.ombradiec.proofs.Positions.{probe_one_fits}
use Rattle.ombradiec.proofs.ombradiec_probe_one.Goals as goal

pub pack-requires : goal.pack-requires
pack-requires c = one_room c.probe_one.ensures (λ y. refl) (probe_one_fits _ _ _ _ _ _ _)
