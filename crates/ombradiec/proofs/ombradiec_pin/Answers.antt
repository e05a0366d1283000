-- The position has room in the number. Assumes nothing.
use mathlib.Core.Path.{refl}
use Rattle.packing.proofs.Reading.{one_fits}
use Rattle.ombradiec.proofs.Records.{pin_few}
use Rattle.ombradiec.proofs.ombradiec_pin.Goals as goal

pub pack-requires : goal.pack-requires
pack-requires c = one_fits _ (λ y. refl) _ (pin_few _ _ _ _ c.pin.ensures)
