-- `work` is the model's queue, a variable at a turn. Assumes nothing.
use mathlib.Core.Path.{refl, sym, ◌∙◌}
use Rattle.run.proofs.Turns.{work_start, next_index, next_below, work_turn, work_done}
use Rattle.run.proofs.queue.work.Goals as goal

pub loop-head-init : goal.loop-head-init
loop-head-init c = work_start c.requires

pub bounds-u-base : goal.bounds-u-base
bounds-u-base c = next_index c.loop-head.invariant c.loop-head-test.true

pub serve-last-requires : goal.serve-last-requires
serve-last-requires c = record { placed = c.loop-head.invariant.kept.placed; i_bound = next_below c.loop-head.invariant c.loop-head-test.true refl }

pub loop-head-preserved : goal.loop-head-preserved
loop-head-preserved c =
    work_turn c.loop-head.invariant
    c.loop-head-test.true
    refl
    c.serve-last.ensures

pub shape_of-values : goal.shape_of-values
shape_of-values c =
    c.loop-head.invariant.kept.placed.values_long ∙ sym c.requires.values_long

pub shape_of-f : goal.shape_of-f
shape_of-f c = c.loop-head.invariant.kept.floats_long

pub shape_of-u : goal.shape_of-u
shape_of-u c = c.loop-head.invariant.kept.words_long

pub returns : goal.returns
returns c = work_done c.loop-head.invariant c.loop-head-test.false
