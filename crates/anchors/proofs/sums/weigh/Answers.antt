-- `weigh` goes along the places of a variable. Assumes nothing.
use mathlib.Core.Path.{refl}
use native.Mathlib.Omega.{arith}
use Rattle.places.proofs.Walk.{walk_turn}
use Rattle.anchors.proofs.Summing.{weigh_start, weigh_turn, weigh_done}
use Rattle.anchors.proofs.sums.weigh.Goals as goal

pub loop-p-init : goal.loop-p-init
loop-p-init c = weigh_start c.requires refl refl

pub bounds-u-n : goal.bounds-u-n
bounds-u-n c = (walk_turn c.loop-p.invariant.along.walk c.loop-p-test.true).index

pub weigh_at-weight-requires : goal.weigh_at-weight-requires
weigh_at-weight-requires c = record {
  shaped = c.requires.shaped;
  k_bound = omega (
    arith,
    c.entry_in-k.ensures,
    (walk_turn c.loop-p.invariant.along.walk c.loop-p-test.true).word.entry,
    c.requires.shaped.rows_long,
  );
}

pub loop-p-preserved : goal.loop-p-preserved
loop-p-preserved c = weigh_turn c.loop-p.invariant c.loop-p-test.true c.entry_in-k.ensures c.weigh_at-weight.ensures

pub returns : goal.returns
returns c = weigh_done c.loop-p.invariant c.loop-p-test.false
