-- `count` takes a block and a number a turn, until none is left. Assumes nothing.
use Prim.Native.Nat.{◌+◌, ◌-◌}
use mathlib.Core.Path.{◌≡◌}
use native.Mathlib.Omega.{arith}
use lib.ListN.{length}
use Rattle.found.proofs.Fronts.{held_fewer, climbed_fewer}
use Rattle.found.proofs.Loops.{counting_turn, counting_done}
use Rattle.found.proofs.merging.count.Goals as goal

pub gallop-p-requires : goal.gallop-p-requires
gallop-p-requires c = held_fewer c.loop-at.items c.args.held c.args.list.now c.loop-at.invariant.few c.requires.held

pub take_last-taken-requires : goal.take_last-taken-requires
take_last-taken-requires c =
    let l = c.loop-at in
    let a = c.args in
    let place = c.gallop-p in
    let e : l.at - 1 + 1 ≡ l.at = omega (arith, c.loop-at-test.true) in
    record {
      held = held_fewer place.result a.held a.list.now (omega (arith, place.ensures.within, l.invariant.few)) c.requires.held;
      climbed = rw e (climbed_fewer 0 l.at (length a.keys.now) a.keys.now l.invariant.low l.invariant.high c.requires.climbed);
      none_above = place.ensures.below;
    }

pub loop-at-preserved : goal.loop-at-preserved
loop-at-preserved c =
    let pre = c.requires in
    let e : c.loop-at.at - 1 + 1 ≡ c.loop-at.at = omega (arith, c.loop-at-test.true) in
    counting_turn c.loop-at.invariant pre.held pre.climbed c.loop-at-test.true c.gallop-p.ensures (rw e at c.take_last-taken.ensures)

pub returns : goal.returns
returns c = counting_done c.loop-at.invariant c.requires.held c.loop-at-test.false
