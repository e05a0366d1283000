-- The position has room in the number. Assumes nothing.
use mathlib.Core.Path.{refl}
use Rattle.packing.proofs.Reading.{one_fits}
use Rattle.ombradiec.proofs.Records.{keep_few}
use Rattle.ombradiec.proofs.ombradiec_keep.Goals as goal

pub pack-requires : goal.pack-requires
pack-requires c = one_fits _ (λ y. refl) _ (keep_few _ _ _ _ _ _ c.make.ensures)
