-- `link` puts one end in front of its chain a turn. Assumes nothing.
use lib.ListN.{length-set}
use Rattle.literals.proofs.Chains.{link_turn}
use Rattle.literals.proofs.Rules.{mine_below}
use native.Mathlib.Omega.{arith}
use Rattle.literals.proofs.ends.link.Goals as goal

pub overflow_add-at : goal.overflow_add-at
overflow_add-at c = let pre = c.requires in omega (arith, pre.n_bound, c.mine.ensures, mine_below _ pre.listed _ c.loop-x-test.true)

pub offset_bounds-u-at : goal.offset_bounds-u-at
offset_bounds-u-at c = let pre = c.requires in omega (arith, pre.n_bound, c.mine.ensures, mine_below _ pre.listed _ c.loop-x-test.true)

pub bounds-u-at : goal.bounds-u-at
bounds-u-at c =
    let pre = c.requires in omega (arith, pre.list_in_bounds, c.loop-x.invariant.long, c.mine.ensures, mine_below _ pre.listed _ c.loop-x-test.true)

pub offset_bounds-u-at-in-loop-x : goal.offset_bounds-u-at-in-loop-x
offset_bounds-u-at-in-loop-x c =
    let pre = c.requires in omega (arith, pre.n_bound, c.mine.ensures, mine_below _ pre.listed _ c.loop-x-test.true)

pub bounds-u-at-in-loop-x : goal.bounds-u-at-in-loop-x
bounds-u-at-in-loop-x c =
    let pre = c.requires in
    simp length-set (omega (arith, pre.list_in_bounds, c.loop-x.invariant.long, c.mine.ensures, mine_below _ pre.listed _ c.loop-x-test.true))

pub loop-x-preserved : goal.loop-x-preserved
loop-x-preserved c =
    let pre = c.requires in
    link_turn c.loop-x.invariant pre.list_in_bounds c.loop-x-test.true c.mine.ensures (rw c.mine.ensures (mine_below _ pre.listed _
    c.loop-x-test.true))
