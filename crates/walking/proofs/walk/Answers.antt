-- `walk` makes room, then takes one candidate a turn. Assumes nothing.
use mathlib.Core.Path.{refl, sym, ap, ◌∙◌}
use lib.ListN.{length}
use Rattle.walking.proofs.Going.{fits_next, going_end, going_asks, going_list, walking_start, walking_done, walking_full, walking_twin, walking_turn}
use Rattle.walking.proofs.walk.Goals as goal

pub loop-h-init : goal.loop-h-init
loop-h-init c = walking_start c.requires.walkable c.requires.values_value _

pub end_after-next-requires : goal.end_after-next-requires
end_after-next-requires c = going_end c.loop-h.invariant.going

pub overflow_step-h : goal.overflow_step-h
overflow_step-h c =
    record { fits = fits_next c.loop-h-test.true c.requires.walkable.within c.requires.walkable.few }

pub flush-requires : goal.flush-requires
flush-requires c = let both = going_asks c.loop-h.invariant.going in
    record { held = both.0; keys = both.1 }

pub shape_of-values : goal.shape_of-values
shape_of-values c =
    ap
    length
    (c.loop-h.invariant.same
    ∙ sym
    c.requires.values_value)

pub shape_of-list : goal.shape_of-list
shape_of-list c = c.flush.auto.list ∙ going_list c.loop-h.invariant.going

pub shape_of-f : goal.shape_of-f
shape_of-f c = ap length c.loop-h.invariant.floats

pub shape_of-u : goal.shape_of-u
shape_of-u c = c.flush.auto.u ∙ c.loop-h.invariant.going.words_long

pub returns : goal.returns
returns c = record {
  values_value_2 = c.loop-h.invariant.same;
  walked = walking_done
      c.loop-h.invariant
      c.loop-h-test.false
      c.flush.ensures;
}

pub make_room-requires : goal.make_room-requires
make_room-requires c = let both = going_asks c.loop-h.invariant.going in record { held = both.0; keys = both.1 }

pub returns-in_err-held : goal.returns-in_err-held
returns-in_err-held c = record {
  values_value_2 = c.loop-h.invariant.same;
  walked = rw c.from_residual.ensures (walking_full c.loop-h.invariant c.make_room.ensures c.in_err-held.was);
}

pub twin-end-requires : goal.twin-end-requires
twin-end-requires c =
    let both = walking_twin c.loop-h.invariant c.make_room.ensures c.loop-h-test.true c.in_ok-held.was c.end_after-next.ensures refl in
    record { twinnable = both.0; end_for = both.1.0; values_value = both.1.1 }

pub loop-h-preserved : goal.loop-h-preserved
loop-h-preserved c =
    walking_turn c.loop-h.invariant c.make_room.ensures c.loop-h-test.true c.in_ok-held.was c.end_after-next.ensures refl
    (c.twin-end.auto.u ∙ c.make_room.auto.u) c.twin-end.ensures.values_value_2 c.twin-end.ensures.f_value c.twin-end.ensures.twinned
