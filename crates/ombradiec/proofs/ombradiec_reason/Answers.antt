-- The count and the unit have room in the number, and the bound beside it is that of the model's answer. Assumes nothing.
use Rattle.packing.specs.Layout.{bound_after}
use Rattle.packing.proofs.Reading.{reasoned_fit}
use Rattle.ombradiec.proofs.Answered.{beside, both_room}
use Rattle.ombradiec.proofs.Counts.{reason_fits}
use Rattle.ombradiec.proofs.ombradiec_reason.Goals as goal

pub pack-requires : goal.pack-requires
pack-requires c =
    let few = reason_fits _ _ _ _ _ _ in
    both_room c.reason-answer.ensures (reasoned_fit _ few.count few.unit)

pub returns : goal.returns
returns c =
    let called = c.reason-answer in
    record {
      exported = record { answer = called.result; number = c.pack.ensures; leaves = called.ensures };
      bound_value = beside called.ensures bound_after c.bound_after.ensures;
    }
