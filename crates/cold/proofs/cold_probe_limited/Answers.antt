-- `cold_probe_limited` tests, and works or refuses. Assumes nothing.
use lib.ListN.{length, take}
use Rattle.field.specs.Field.{lent}
use Rattle.ranking.specs.Ranking.{ranks}
use Rattle.probes.specs.Call.{probe_limited_by}
use Rattle.probes.proofs.Answers.{ready_of, refused_call, room_call, settled_call}
use Rattle.field.proofs.Tried.{err_given}
use Rattle.cold.proofs.cold_probe_limited.Goals as goal

pub returns-in_err-ready : goal.returns-in_err-ready
unfolding probe_limited_by
returns-in_err-ready c = rw (err_given c.from_residual.ensures) (let a = c.args in
    let F = lent a.field in
    refused_call F a.start.now (take a.candidates (ranks F a.start.now))
    a.values.now a.constraints.now a.f.now a.u.now c.ready.ensures c.in_err-ready.was)

pub shape_of-values-then-values-n : goal.shape_of-values-then-values-n
shape_of-values-then-values-n c = c.no_room.auto.values

pub shape_of-constraints-then-values-n : goal.shape_of-constraints-then-values-n
shape_of-constraints-then-values-n c = c.no_room.auto.constraints

pub shape_of-f-then-values-n : goal.shape_of-f-then-values-n
shape_of-f-then-values-n c = c.no_room.auto.f

pub shape_of-u-then-values-n : goal.shape_of-u-then-values-n
shape_of-u-then-values-n c = c.no_room.auto.u

pub returns-then-values-n : goal.returns-then-values-n
unfolding probe_limited_by
returns-then-values-n c =
    let a = c.args in
    let F = lent a.field in
    room_call F a.start.now (take a.candidates (ranks F a.start.now))
    a.values.now a.constraints.now a.f.now a.u.now c.ready.ensures c.in_ok-ready.was c.if-values-n.true c.no_room.ensures

pub probe_some-requires : goal.probe_some-requires
probe_some-requires c =
    let a = c.args in
    let F = lent a.field in
    record { ready = ready_of F a.start.now (length a.f.now) (length a.u.now) c.ready.ensures c.in_ok-ready.was; values_len = c.if-values-n.false }

pub shape_of-values : goal.shape_of-values
shape_of-values c = c.probe_some.auto.values

pub shape_of-constraints : goal.shape_of-constraints
shape_of-constraints c = c.probe_some.auto.constraints

pub shape_of-f : goal.shape_of-f
shape_of-f c = c.probe_some.auto.f

pub shape_of-u : goal.shape_of-u
shape_of-u c = c.probe_some.auto.u

pub returns : goal.returns
unfolding probe_limited_by
returns c =
    let a = c.args in
    let F = lent a.field in
    settled_call F a.start.now (take a.candidates (ranks F a.start.now))
    a.values.now a.constraints.now a.f.now a.u.now c.ready.ensures c.in_ok-ready.was c.probe_some.ensures
