-- `serve` is the model's fold over the places of a variable. Assumes nothing.
use mathlib.Core.Path.{refl, sym, ◌∙◌}
use native.Mathlib.Omega.{arith}
use Rattle.places.proofs.Walk.{walk_turn, turn_entry, turn_other}
use Rattle.run.proofs.Turns.{serve_start, serve_turn, serve_done}
use Rattle.run.proofs.queue.serve.Goals as goal

pub loop-p-init : goal.loop-p-init
loop-p-init c =
    serve_start c.requires.placed c.requires.i_bound refl refl

pub bounds-u-n : goal.bounds-u-n
bounds-u-n c = (walk_turn c.loop-p.invariant.along.walk c.loop-p-test.true).index

pub serve_at-last-requires : goal.serve_at-last-requires
serve_at-last-requires c =
    let serving = c.loop-p.invariant in
    let turn = walk_turn serving.along.walk c.loop-p-test.true in
    let ek = c.entry_in-k.ensures in
    record { placed = serving.kept.placed; k_bound = omega (arith, turn_entry turn ek, c.requires.placed.shaped.rows_long); t_value = turn_other turn ek c.end_in-t.ensures }

pub loop-p-preserved : goal.loop-p-preserved
loop-p-preserved c = serve_turn c.loop-p.invariant c.loop-p-test.true c.entry_in-k.ensures c.serve_at-last.ensures

pub shape_of-values : goal.shape_of-values
shape_of-values c =
    c.loop-p.invariant.kept.placed.values_long ∙ sym c.requires.placed.values_long

pub shape_of-f : goal.shape_of-f
shape_of-f c = c.loop-p.invariant.kept.floats_long

pub shape_of-u : goal.shape_of-u
shape_of-u c = c.loop-p.invariant.kept.words_long

pub returns : goal.returns
returns c = serve_done c.loop-p.invariant c.loop-p-test.false refl
