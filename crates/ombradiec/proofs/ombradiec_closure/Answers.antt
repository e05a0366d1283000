-- The count has room in the number. Assumes nothing.
use mathlib.Core.Path.{refl}
use Rattle.ombradiec.proofs.Answered.{one_room}
use Rattle.ombradiec.proofs.Counts.{closure_fits}
use Rattle.ombradiec.proofs.ombradiec_closure.Goals as goal

pub pack-requires : goal.pack-requires
pack-requires c = one_room c.closure.ensures (λ y. refl) (closure_fits _ _ _ _)
