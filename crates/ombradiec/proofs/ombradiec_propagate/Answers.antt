-- The position has room in the number. Assumes nothing.
use mathlib.Core.Path.{refl}
use Rattle.ombradiec.proofs.Answered.{one_room}
use Rattle.ombradiec.proofs.Positions.{propagate_fits}
use Rattle.ombradiec.proofs.ombradiec_propagate.Goals as goal

pub pack-requires : goal.pack-requires
pack-requires c = one_room c.propagate.ensures (λ y. refl) (propagate_fits _ _ _)
