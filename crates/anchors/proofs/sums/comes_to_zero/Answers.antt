-- `comes_to_zero` goes along the places of a variable. Assumes nothing.
use mathlib.Core.Path.{refl}
use native.Mathlib.Omega.{arith}
use Rattle.places.proofs.Walk.{walk_turn}
use Rattle.anchors.proofs.Summing.{balance_start, balance_room, balance_turn, balance_done}
use Rattle.anchors.proofs.sums.comes_to_zero.Goals as goal

pub loop-p-init : goal.loop-p-init
loop-p-init c =
    balance_start c.requires.walkable
    (omega (arith, c.requires.q_in_bounds, c.add-sum.auto.parts))
    refl refl c.add-sum.ensures

pub bounds-u-n : goal.bounds-u-n
bounds-u-n c = (walk_turn c.loop-p.invariant.along.walk c.loop-p-test.true).index

pub balance_at-sum-requires : goal.balance_at-sum-requires
balance_at-sum-requires c = record {
  shaped = c.requires.walkable.shaped;
  k_bound = omega (
    arith,
    c.entry_in-k.ensures,
    (walk_turn c.loop-p.invariant.along.walk c.loop-p-test.true).word.entry,
    c.requires.walkable.shaped.rows_long,
  );
  sum_in_bounds = balance_room c.loop-p.invariant c.loop-p-test.true;
}

pub loop-p-preserved : goal.loop-p-preserved
loop-p-preserved c =
    balance_turn c.loop-p.invariant c.loop-p-test.true
    c.entry_in-k.ensures c.balance_at-sum.auto.f c.balance_at-sum.ensures

pub returns : goal.returns
returns c = balance_done c.loop-p.invariant c.loop-p-test.false c.is_zero.ensures
