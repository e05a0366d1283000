-- Both sizes have room in the number, and the constant beside it is that of the model's answer. Assumes nothing.
use Rattle.packing.specs.Layout.{constant_after}
use Rattle.ombradiec.proofs.Answered.{beside, both_room}
use Rattle.ombradiec.proofs.Counts.{sub_problem_fits}
use Rattle.ombradiec.proofs.ombradiec_sub_problem.Goals as goal

pub pack-requires : goal.pack-requires
pack-requires c = both_room c.sub_problem-answer.ensures (sub_problem_fits _ _ _ _ _)

pub returns : goal.returns
returns c =
    let called = c.sub_problem-answer in
    record {
      exported = record { answer = called.result; number = c.pack.ensures; leaves = called.ensures };
      constant_value = beside called.ensures constant_after c.constant_after.ensures;
    }
