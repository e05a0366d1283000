-- The count has room in the number. Assumes nothing.
use mathlib.Core.Path.{refl}
use Rattle.packing.proofs.Reading.{one_fits}
use Rattle.ombradiec.proofs.Records.{close_few}
use Rattle.ombradiec.proofs.ombradiec_close.Goals as goal

pub pack-requires : goal.pack-requires
pack-requires c = one_fits _ (λ y. refl) _ (close_few _ _ _ _ _ _ c.close.ensures)
