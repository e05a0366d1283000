-- `rounds` does one round a turn. Assumes nothing.
use mathlib.Core.Path.{sym, ◌∙◌}
use Rattle.heavy.proofs.Going.{going_start, going_solved, going_stop, going_turn, going_done}
use Rattle.heavy.proofs.rounds.Goals as goal

pub loop-init : goal.loop-init
loop-init c =
    going_start c.requires.ready c.requires.adjacent c.requires.probed_len c.count_free-free.ensures

pub round-requires : goal.round-requires
round-requires c = record { ready = c.loop.invariant.ready; probed_len = c.loop.invariant.working; grade_value = c.requires.grade_value; adjacent = c.loop.invariant.adjacent }

pub shape_of-values-then-still-eq0 : goal.shape_of-values-then-still-eq0
shape_of-values-then-still-eq0 c =
    c.round.auto.values ∙ c.loop.invariant.ready.sound.start.long ∙ sym c.requires.ready.sound.start.long

pub shape_of-probed-then-still-eq0 : goal.shape_of-probed-then-still-eq0
shape_of-probed-then-still-eq0 c =
    c.round.auto.probed ∙ c.loop.invariant.working ∙ sym c.requires.probed_len

pub shape_of-f-then-still-eq0 : goal.shape_of-f-then-still-eq0
shape_of-f-then-still-eq0 c =
    c.round.auto.f ∙ c.loop.invariant.floats_long

pub shape_of-u-then-still-eq0 : goal.shape_of-u-then-still-eq0
shape_of-u-then-still-eq0 c =
    c.round.auto.u ∙ c.loop.invariant.words_long

pub returns-then-still-eq0 : goal.returns-then-still-eq0
returns-then-still-eq0 c =
    going_solved c.loop.invariant c.loop-test.true c.round.ensures c.count_free-still.ensures c.round.auto.u c.if-still-eq0.true

pub shape_of-values-then-still-free : goal.shape_of-values-then-still-free
shape_of-values-then-still-free c =
    c.round.auto.values ∙ c.loop.invariant.ready.sound.start.long ∙ sym c.requires.ready.sound.start.long

pub shape_of-probed-then-still-free : goal.shape_of-probed-then-still-free
shape_of-probed-then-still-free c =
    c.round.auto.probed ∙ c.loop.invariant.working ∙ sym c.requires.probed_len

pub shape_of-f-then-still-free : goal.shape_of-f-then-still-free
shape_of-f-then-still-free c =
    c.round.auto.f ∙ c.loop.invariant.floats_long

pub shape_of-u-then-still-free : goal.shape_of-u-then-still-free
shape_of-u-then-still-free c =
    c.round.auto.u ∙ c.loop.invariant.words_long

pub returns-then-still-free : goal.returns-then-still-free
returns-then-still-free c =
    going_stop c.loop.invariant c.loop-test.true c.round.ensures c.count_free-still.ensures c.if-still-free.true

pub loop-preserved : goal.loop-preserved
loop-preserved c =
    going_turn c.loop.invariant c.loop-test.true c.round.ensures c.count_free-still.ensures c.if-still-free.false c.round.auto.f c.round.auto.u c.round.auto.probed

pub shape_of-values : goal.shape_of-values
shape_of-values c = c.loop.invariant.ready.sound.start.long ∙ sym c.requires.ready.sound.start.long

pub shape_of-probed : goal.shape_of-probed
shape_of-probed c = c.loop.invariant.working ∙ sym c.requires.probed_len

pub shape_of-f : goal.shape_of-f
shape_of-f c = c.loop.invariant.floats_long

pub shape_of-u : goal.shape_of-u
shape_of-u c = c.loop.invariant.words_long

pub returns : goal.returns
returns c = going_done c.loop.invariant c.loop-test.false
