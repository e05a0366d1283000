-- `serve_until` is the model's `until`, a variable at a turn. Assumes nothing.
use mathlib.Core.Path.{refl, sym, ◌∙◌}
use Rattle.reason.proofs.Halting.{halt_start, halt_index, halt_below, halt_turn, halt_over, halt_set}
use Rattle.reason.proofs.halt.serve_until.Goals as goal

pub loop-head-init : goal.loop-head-init
loop-head-init c = halt_start c.requires.placed

pub shape_of-values-then-values-i-ne2 : goal.shape_of-values-then-values-i-ne2
shape_of-values-then-values-i-ne2 c = c.loop-head.invariant.kept.placed.values_long ∙ sym c.requires.placed.values_long

pub shape_of-f-then-values-i-ne2 : goal.shape_of-f-then-values-i-ne2
shape_of-f-then-values-i-ne2 c = c.loop-head.invariant.kept.floats_long

pub shape_of-u-then-values-i-ne2 : goal.shape_of-u-then-values-i-ne2
shape_of-u-then-values-i-ne2 c = c.loop-head.invariant.kept.words_long

pub returns-then-values-i-ne2 : goal.returns-then-values-i-ne2
returns-then-values-i-ne2 c = halt_set c.loop-head.invariant c.if-values-i-ne2.true

pub bounds-u-base : goal.bounds-u-base
bounds-u-base c = halt_index c.loop-head.invariant c.loop-head-test.true

pub serve-last-requires : goal.serve-last-requires
serve-last-requires c = record { placed = c.loop-head.invariant.kept.placed; i_bound = halt_below c.loop-head.invariant c.loop-head-test.true refl }

pub loop-head-preserved : goal.loop-head-preserved
loop-head-preserved c = halt_turn c.loop-head.invariant c.loop-head-test.true c.if-values-i-ne2.false refl c.serve-last.ensures

pub shape_of-values : goal.shape_of-values
shape_of-values c = c.loop-head.invariant.kept.placed.values_long ∙ sym c.requires.placed.values_long

pub shape_of-f : goal.shape_of-f
shape_of-f c = c.loop-head.invariant.kept.floats_long

pub shape_of-u : goal.shape_of-u
shape_of-u c = c.loop-head.invariant.kept.words_long

pub returns : goal.returns
returns c = halt_over c.loop-head.invariant c.loop-head-test.false
