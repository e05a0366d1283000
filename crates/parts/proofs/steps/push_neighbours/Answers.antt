-- `push_neighbours` is the model's fold over the places of a variable. Assumes nothing.
use mathlib.Core.Path.{refl}
use native.Mathlib.Omega.{arith}
use Rattle.places.proofs.Walk.{walk_turn, turn_entry, turn_other}
use Rattle.parts.proofs.Turns.{serve_start, serve_turn, serve_done}
use Rattle.parts.proofs.steps.push_neighbours.Goals as goal

pub loop-p-init : goal.loop-p-init
loop-p-init c =
    serve_start c.args.zeros c.requires.placed c.requires.i_bound refl refl

pub bounds-u-n : goal.bounds-u-n
bounds-u-n c = (walk_turn c.loop-p.invariant.along.walk c.loop-p-test.true).index

pub visit_at-last-requires : goal.visit_at-last-requires
visit_at-last-requires c =
    let serving = c.loop-p.invariant in
    let turn = walk_turn serving.along.walk c.loop-p-test.true in
    let ek = c.entry_in-k.ensures in
    record { placed = serving.kept.placed; k_bound = omega (arith, turn_entry turn ek, c.requires.placed.shaped.rows_long); j_value = turn_other turn ek c.end_in-j.ensures }

pub loop-p-preserved : goal.loop-p-preserved
loop-p-preserved c = serve_turn c.loop-p.invariant c.loop-p-test.true c.entry_in-k.ensures c.visit_at-last.ensures

pub returns : goal.returns
returns c = serve_done c.loop-p.invariant c.loop-p-test.false
