-- `cold_probe` tests, and works or refuses. Assumes nothing.
use lib.ListN.{length}
use Rattle.meaning.specs.Free.{free_to}
use Rattle.field.specs.Field.{lent}
use Rattle.probes.specs.Call.{probe_by}
use Rattle.probes.proofs.Answers.{ready_of, refused_call, room_call, settled_call}
use Rattle.field.proofs.Tried.{err_given}
use Rattle.cold.proofs.cold_probe.Goals as goal

pub returns-in_err-ready : goal.returns-in_err-ready
unfolding probe_by
returns-in_err-ready c = rw (err_given c.from_residual.ensures) (let a = c.args in
    let F = lent a.field in
    refused_call F a.start.now (free_to a.start.now (length a.field.c.now))
    a.values.now a.constraints.now a.f.now a.u.now c.ready.ensures c.in_err-ready.was)

pub shape_of-values-then-values-field : goal.shape_of-values-then-values-field
shape_of-values-then-values-field c = c.no_room.auto.values

pub shape_of-constraints-then-values-field : goal.shape_of-constraints-then-values-field
shape_of-constraints-then-values-field c = c.no_room.auto.constraints

pub shape_of-f-then-values-field : goal.shape_of-f-then-values-field
shape_of-f-then-values-field c = c.no_room.auto.f

pub shape_of-u-then-values-field : goal.shape_of-u-then-values-field
shape_of-u-then-values-field c = c.no_room.auto.u

pub returns-then-values-field : goal.returns-then-values-field
unfolding probe_by
returns-then-values-field c =
    let a = c.args in
    let F = lent a.field in
    room_call F a.start.now (free_to a.start.now (length a.field.c.now))
    a.values.now a.constraints.now a.f.now a.u.now c.ready.ensures c.in_ok-ready.was c.if-values-field.true c.no_room.ensures

pub probe_all-requires : goal.probe_all-requires
probe_all-requires c =
    let a = c.args in
    let F = lent a.field in
    record { ready = ready_of F a.start.now (length a.f.now) (length a.u.now) c.ready.ensures c.in_ok-ready.was; values_len = c.if-values-field.false }

pub shape_of-values : goal.shape_of-values
shape_of-values c = c.probe_all.auto.values

pub shape_of-constraints : goal.shape_of-constraints
shape_of-constraints c = c.probe_all.auto.constraints

pub shape_of-f : goal.shape_of-f
shape_of-f c = c.probe_all.auto.f

pub shape_of-u : goal.shape_of-u
shape_of-u c = c.probe_all.auto.u

pub returns : goal.returns
unfolding probe_by
returns c =
    let a = c.args in
    let F = lent a.field in
    settled_call F a.start.now (free_to a.start.now (length a.field.c.now))
    a.values.now a.constraints.now a.f.now a.u.now c.ready.ensures c.in_ok-ready.was c.probe_all.ensures
