-- `round` preprocesses, probes where something is free, and lays the probe values over. Assumes nothing.
use mathlib.Core.Path.{◌∙◌}
use Rattle.heavy.proofs.Going.{ready_probe, round_ends, lay_room, round_is}
use Rattle.heavy.proofs.round.Goals as goal

pub work-requires : goal.work-requires
work-requires c = record { ready = c.requires.ready; adjacent = c.requires.adjacent }

pub shape_of-values-then-count_free-eq0 : goal.shape_of-values-then-count_free-eq0
shape_of-values-then-count_free-eq0 c = c.work.auto.values

pub shape_of-f-then-count_free-eq0 : goal.shape_of-f-then-count_free-eq0
shape_of-f-then-count_free-eq0 c = c.work.auto.f

pub shape_of-u-then-count_free-eq0 : goal.shape_of-u-then-count_free-eq0
shape_of-u-then-count_free-eq0 c = c.work.auto.u

pub returns-then-count_free-eq0 : goal.returns-then-count_free-eq0
returns-then-count_free-eq0 c =
    record { values = round_ends c.requires.ready c.work.ensures.values c.count_free.ensures c.if-count_free-eq0.true; adjacent = c.work.ensures.adjacent }

pub probe_values-requires : goal.probe_values-requires
probe_values-requires c = record { ready = ready_probe c.requires.ready c.work.ensures.values c.work.auto.f c.work.auto.u; values_len = c.requires.probed_len; grade_value = c.requires.grade_value; adjacent = c.work.ensures.adjacent }

pub lay-requires : goal.lay-requires
lay-requires c =
    lay_room c.requires.ready c.work.ensures.values (c.probe_values.auto.u ∙ c.work.auto.u)

pub shape_of-values : goal.shape_of-values
shape_of-values c =
    c.lay.auto.values ∙ c.work.auto.values

pub shape_of-probed : goal.shape_of-probed
shape_of-probed c = c.probe_values.auto.values

pub shape_of-f : goal.shape_of-f
shape_of-f c =
    c.probe_values.auto.f ∙ c.work.auto.f

pub shape_of-u : goal.shape_of-u
shape_of-u c =
    c.probe_values.auto.u ∙ c.work.auto.u

pub returns : goal.returns
returns c =
    round_is c.requires.ready c.work.ensures.values _ c.probe_values.ensures c.lay.ensures
