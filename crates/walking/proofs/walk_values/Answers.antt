-- `walk_values` takes one candidate a turn and forgets the numbers. Assumes nothing.
use mathlib.Core.Path.{refl, sym, ap, ◌∙◌}
use lib.ListN.{length}
use Rattle.walking.proofs.Going.{fits_next, valuing_start, valuing_done, valuing_twin, valuing_turn}
use Rattle.walking.proofs.walk_values.Goals as goal

pub loop-h-init : goal.loop-h-init
loop-h-init c = valuing_start c.requires.walkable c.requires.values_value

pub twin-requires : goal.twin-requires
twin-requires c = let both = valuing_twin c.loop-h.invariant c.loop-h-test.true refl in
    record { twinnable = both.0; end_for = both.1.0; values_value = both.1.1 }

pub overflow_step-h : goal.overflow_step-h
overflow_step-h c =
    record { fits = fits_next c.loop-h-test.true c.requires.walkable.within c.requires.walkable.few }

pub loop-h-preserved : goal.loop-h-preserved
loop-h-preserved c =
    valuing_turn
    c.loop-h.invariant
    c.loop-h-test.true
    refl
    c.twin.auto.u
    c.twin.ensures.values_value_2
    c.twin.ensures.f_value
    c.twin.ensures.twinned

pub shape_of-values : goal.shape_of-values
shape_of-values c = ap length (c.loop-h.invariant.same ∙ sym c.requires.values_value)

pub shape_of-f : goal.shape_of-f
shape_of-f c = ap length c.loop-h.invariant.floats

pub shape_of-u : goal.shape_of-u
shape_of-u c = c.loop-h.invariant.words_long

pub returns : goal.returns
returns c =
    let inv = c.loop-h.invariant in
    record { values_value_2 = inv.same; valued = valuing_done inv c.loop-h-test.false; adjacent = inv.stands.stand.remembers.placed.adjacent }
