-- `lay` moves the block above the last number up, and puts the number in front of it. Assumes nothing.
use Prim.Native.Nat.{◌+◌, ◌-◌}
use mathlib.Core.Path.{◌≡◌}
use native.Mathlib.Omega.{arith}
use lib.ListN.{length}
use Rattle.found.proofs.Fronts.{held_fewer, climbed_fewer}
use Rattle.found.proofs.Loops.{laying_start, laying_held, laying_done, laying_moves, laying_less, laying_step}
use Rattle.found.proofs.merging.lay.Goals as goal

pub loop-at-init : goal.loop-at-init
loop-at-init c =
    let a = c.args in
    laying_start a.held 0 (length a.keys.now) a.keys.now a.list.now a.total c.requires.climbed.keys.order c.requires.total_value

pub gallop-p-requires : goal.gallop-p-requires
gallop-p-requires c = laying_held c.loop-at.invariant c.requires.held

pub take_last-taken-requires : goal.take_last-taken-requires
take_last-taken-requires c =
    let l = c.loop-at in
    let a = c.args in
    let place = c.gallop-p in
    let e : l.at - 1 + 1 ≡ l.at = omega (arith, c.loop-at-test.true) in
    record {
      held = held_fewer place.result l.items l.list place.ensures.within (laying_held l.invariant c.requires.held);
      climbed = rw e (climbed_fewer 0 l.at (length a.keys.now) a.keys.now l.invariant.low l.invariant.high c.requires.climbed);
      none_above = place.ensures.below;
    }

pub move_up-requires : goal.move_up-requires
move_up-requires c =
    let pre = c.requires in
    let both = laying_moves c.loop-at.invariant pre.held pre.climbed pre.total_value pre.total_bound c.loop-at-test.true c.gallop-p.ensures in
    record { low_le_high = both.0; high_le_top = both.1.0; top_in_bounds = both.1.1 }

pub overflow_sub-n-in-loop-at : goal.overflow_sub-n-in-loop-at
overflow_sub-n-in-loop-at c =
    let l = c.loop-at in
    let pre = c.requires in
    let e : l.at - 1 + 1 ≡ l.at = omega (arith, c.loop-at-test.true) in
    laying_less l.invariant pre.held pre.climbed pre.total_value pre.total_bound c.loop-at-test.true c.gallop-p.ensures c.move_up.ensures (rw e at c.take_last-taken.ensures)

pub loop-at-preserved : goal.loop-at-preserved
loop-at-preserved c =
    let l = c.loop-at in
    let pre = c.requires in
    let e : l.at - 1 + 1 ≡ l.at = omega (arith, c.loop-at-test.true) in
    laying_step l.invariant pre.held pre.climbed pre.total_value pre.total_bound c.loop-at-test.true c.gallop-p.ensures c.move_up.ensures (rw e at c.take_last-taken.ensures) c.put_key.ensures

pub returns : goal.returns
returns c = laying_done c.loop-at.invariant c.requires.held c.loop-at-test.false
