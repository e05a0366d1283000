-- `probe_all` builds the places, lists the free variables and settles. Assumes nothing.
use mathlib.Core.Path.{refl, ◌∙◌}
use native.Mathlib.Omega.{arith}
use Rattle.scratch.specs.Region.{region}
use Rattle.meaning.specs.Free.{free_to}
use Rattle.field.specs.Field.{variables, lent}
use Rattle.workspace.proofs.Begun.{begin_places}
use Rattle.walking.specs.Walk.{candidates_at}
use Rattle.probes.proofs.Chosen.{all_free, free_room, free_are}
use Rattle.probes.proofs.Answers.{settled_as}
use Rattle.cold.proofs.Walked.{lined_of}
use Rattle.cold.proofs.probe_all.Goals as goal

pub build-requires : goal.build-requires
build-requires c = let both = begin_places c.args.f.now c.args.u.now c.requires.ready in
    record { ends_below = both.0; rows_in_bounds = both.1 }

pub list_free-count-requires : goal.list_free-count-requires
list_free-count-requires c = let both = free_room c.requires.ready c.build.ensures.long in
    record { start_len_bound = both.0; start_in_bounds = both.1 }

pub settle-requires : goal.settle-requires
settle-requires c =
    let built = c.build.ensures in
    let listed = c.list_free-count.ensures in
    lined_of c.requires.ready c.requires.values_len refl built.long listed.long built.adjacent listed.front
    (omega (arith, listed.few, c.requires.ready.sound.start.long)) (free_are c.requires.ready listed) (all_free _ _)

pub returns : goal.returns
returns c =
    let a = c.args in
    let F = lent a.field in
    let l = c.list_free-count in
    settled_as F a.start.now a.constraints.now (region (candidates_at F) l.result l.new.u) (free_to a.start.now (variables F))
    a.values.now a.values.now a.f.now a.f.now l.new.u a.u.now c.settle.ensures
    (free_are c.requires.ready l.ensures) refl refl (l.ensures.long ∙ c.build.ensures.long)
