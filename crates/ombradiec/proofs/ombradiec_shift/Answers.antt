-- The count has room in the number. Assumes nothing.
use mathlib.Core.Path.{refl}
use Rattle.ombradiec.proofs.Answered.{one_room}
use Rattle.ombradiec.proofs.Counts.{shift_fits}
use Rattle.ombradiec.proofs.ombradiec_shift.Goals as goal

pub pack-requires : goal.pack-requires
pack-requires c = one_room c.shift.ensures (λ y. refl) (shift_fits _)
