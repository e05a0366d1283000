-- `linear_of` goes through the places of i, rising. Assumes nothing.
use mathlib.Core.Path.{refl}
use native.Mathlib.Omega.{arith}
use Rattle.places.proofs.Walk.{walk_turn, turn_entry, turn_other}
use Rattle.enumeration.proofs.Ends.{sum_start, sum_turn, sum_done}
use Rattle.enumeration.proofs.linear.linear_of.Goals as goal

pub loop-p-init : goal.loop-p-init
loop-p-init c =
    sum_start c.requires.held c.requires.i_bound refl refl refl

pub bounds-u-n : goal.bounds-u-n
bounds-u-n c = (walk_turn c.loop-p.invariant.along.walk c.loop-p-test.true).index

pub add_end-sum-requires : goal.add_end-sum-requires
add_end-sum-requires c =
    let turn = walk_turn c.loop-p.invariant.along.walk c.loop-p-test.true in
    let ek = c.entry_in-k.ensures in
    record { valued = record { shaped = c.requires.held.placed.shaped; values_long = c.requires.held.values_long }; k_bound = omega (arith, turn_entry turn ek, c.requires.held.placed.shaped.rows_long); t_value = turn_other turn ek c.end_in-t.ensures }

pub loop-p-preserved : goal.loop-p-preserved
loop-p-preserved c = sum_turn c.loop-p.invariant c.loop-p-test.true c.entry_in-k.ensures c.add_end-sum.ensures

pub returns : goal.returns
returns c = sum_done c.loop-p.invariant c.loop-p-test.false
