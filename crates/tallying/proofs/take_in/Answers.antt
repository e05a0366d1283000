-- `take_in` takes one field a turn. Assumes nothing.
use native.Mathlib.Omega.{arith}
use Rattle.tallying.proofs.Takes.{taking_done, taking_turn, taking_less, taking_room, taking_over, kept_then}
use Rattle.tallying.proofs.take_in.Goals as goal

pub returns-in_err-next : goal.returns-in_err-next
returns-in_err-next c =
    rw c.from_residual.ensures
    (taking_over c.loop-lists.invariant.taking c.is_enough.ensures c.loop-lists-test.true c.step.ensures.stepped c.in_err-next.was c.requires.most_bound)

pub overflow_add-at : goal.overflow_add-at
overflow_add-at c =
    omega (arith, c.ranges, taking_room c.loop-lists.invariant.taking c.is_enough.ensures c.loop-lists-test.true c.step.ensures.stepped c.in_ok-next.was)

pub loop-lists-smaller : goal.loop-lists-smaller
loop-lists-smaller c = taking_less c.loop-lists.invariant.taking c.is_enough.ensures c.loop-lists-test.true c.step.ensures.stepped c.in_ok-next.was

pub loop-lists-preserved : goal.loop-lists-preserved
loop-lists-preserved c = record {
  taking = taking_turn c.loop-lists.invariant.taking c.is_enough.ensures c.loop-lists-test.true c.step.ensures.stepped c.in_ok-next.was c.requires.most_bound;
  kept = kept_then c.loop-lists.invariant.kept c.step.ensures.kept;
}

pub returns : goal.returns
returns c = taking_done c.loop-lists.invariant.taking c.is_enough.ensures c.loop-lists-test.false
