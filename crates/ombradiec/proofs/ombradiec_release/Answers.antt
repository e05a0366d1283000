-- The position has room in the number. Assumes nothing.
use mathlib.Core.Path.{refl}
use Rattle.packing.proofs.Reading.{one_fits}
use Rattle.ombradiec.proofs.Records.{release_few}
use Rattle.ombradiec.proofs.ombradiec_release.Goals as goal

pub pack-requires : goal.pack-requires
pack-requires c = one_fits _ (λ y. refl) _ (release_few _ _ _ c.release.ensures)
