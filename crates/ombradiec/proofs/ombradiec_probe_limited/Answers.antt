-- The count has room in the number. Assumes nothing.
use mathlib.Core.Path.{refl}
use Rattle.ombradiec.proofs.Answered.{one_room}
use Rattle.ombradiec.proofs.Probed.{probe_limited_fits}
use Rattle.ombradiec.proofs.ombradiec_probe_limited.Goals as goal

pub pack-requires : goal.pack-requires
pack-requires c = one_room c.probe_limited.ensures (λ y. refl) (probe_limited_fits _ _ _ _ _ _ _)
