-- `walk` makes room, then takes one candidate a turn. Assumes nothing.
use mathlib.Core.Path.{refl, ◌∙◌}
use Rattle.walking.proofs.Going.{fits_next, going_end, going_asks, going_list}
use Rattle.cold.proofs.Walked.{walking_start, walking_done, walking_full, walking_both, walking_turn}
use Rattle.cold.proofs.settling.walk.Goals as goal

pub loop-h-init : goal.loop-h-init
loop-h-init c = walking_start c.requires.begins _ _ _

pub end_after-next-requires : goal.end_after-next-requires
end_after-next-requires c = going_end c.loop-h.invariant.going

pub make_room-requires : goal.make_room-requires
make_room-requires c = let both = going_asks c.loop-h.invariant.going in
    record { held = both.0; keys = both.1 }

pub returns-in_err-held : goal.returns-in_err-held
returns-in_err-held c = rw c.from_residual.ensures (walking_full c.loop-h.invariant c.make_room.ensures c.in_err-held.was)

pub both-end-requires : goal.both-end-requires
both-end-requires c = let both = walking_both c.loop-h.invariant c.make_room.ensures c.loop-h-test.true c.in_ok-held.was
    c.end_after-next.ensures refl c.requires.afresh in
    record { afresh = both.0; variable_bound = both.1.0; end_for = both.1.1 }

pub overflow_step-h : goal.overflow_step-h
overflow_step-h c =
    record { fits = fits_next c.loop-h-test.true c.requires.begins.within c.requires.begins.few }

pub loop-h-preserved : goal.loop-h-preserved
loop-h-preserved c =
    let b = c.both-end in
    walking_turn c.loop-h.invariant c.make_room.ensures c.loop-h-test.true c.in_ok-held.was
    c.end_after-next.ensures refl
    b.auto.values b.auto.f (b.auto.u ∙ c.make_room.auto.u)
    b.ensures.adds b.ensures.adjacent

pub flush-requires : goal.flush-requires
flush-requires c = let both = going_asks c.loop-h.invariant.going in
    record { held = both.0; keys = both.1 }

pub shape_of-values : goal.shape_of-values
shape_of-values c = c.loop-h.invariant.values_long

pub shape_of-list : goal.shape_of-list
shape_of-list c = c.flush.auto.list ∙ going_list c.loop-h.invariant.going

pub shape_of-f : goal.shape_of-f
shape_of-f c = c.loop-h.invariant.floats_long

pub shape_of-u : goal.shape_of-u
shape_of-u c = c.flush.auto.u ∙ c.loop-h.invariant.going.words_long

pub returns : goal.returns
returns c =
    walking_done c.loop-h.invariant c.loop-h-test.false c.flush.ensures
