-- `move_terms` is the model's fold over the places of a variable. Assumes nothing.
use mathlib.Core.Path.{refl}
use native.Mathlib.Omega.{arith}
use Rattle.places.proofs.Walk.{walk_turn, turn_entry, turn_other}
use Rattle.probing.proofs.Moving.{moves_start, moves_turn, moves_done}
use Rattle.probing.proofs.refreshing.move_terms.Goals as goal

pub loop-p-init : goal.loop-p-init
loop-p-init c =
    moves_start c.requires.placed c.requires.i_bound refl refl

pub bounds-u-n : goal.bounds-u-n
bounds-u-n c = (walk_turn c.loop-p.invariant.along.walk c.loop-p-test.true).index

pub move_at-requires : goal.move_at-requires
move_at-requires c =
    let moving = c.loop-p.invariant in
    let turn = walk_turn moving.along.walk c.loop-p-test.true in
    let ek = c.entry_in-k.ensures in
    record { placed = moving.kept.placed; k_bound = omega (arith, turn_entry turn ek, c.requires.placed.shaped.rows_long); t_value = turn_other turn ek c.end_in-t.ensures }

pub loop-p-preserved : goal.loop-p-preserved
loop-p-preserved c = moves_turn c.loop-p.invariant c.loop-p-test.true c.entry_in-k.ensures c.move_at.ensures

pub shape_of-f : goal.shape_of-f
shape_of-f c = c.loop-p.invariant.kept.floats_long

pub returns : goal.returns
returns c = moves_done c.loop-p.invariant c.loop-p-test.false
