-- `probe_all` prepares, lists the free variables and settles. Assumes nothing.
use mathlib.Core.Path.{◌∙◌}
use Rattle.scratch.specs.Region.{region}
use Rattle.meaning.specs.Free.{free_to}
use Rattle.field.specs.Field.{variables, lent}
use Rattle.walking.specs.Walk.{candidates_at}
use Rattle.probes.proofs.Chosen.{free_room, free_are, free_standing}
use Rattle.probes.proofs.Answers.{settled_as}
use Rattle.probes.proofs.probe_all.Goals as goal

pub list_free-count-requires : goal.list_free-count-requires
list_free-count-requires c = let both = free_room c.requires.ready c.prepare-known.auto.u in
    record { start_len_bound = both.0; start_in_bounds = both.1 }

pub settle-requires : goal.settle-requires
settle-requires c = record {
  standing = free_standing c.requires.ready c.list_free-count.ensures {f = c.prepare-known.new.f}
      c.prepare-known.ensures.remembers c.prepare-known.auto.u;
  values_value = c.prepare-known.ensures.values_value;
}

pub returns : goal.returns
returns c =
    let a = c.args in
    let F = lent a.field in
    let p = c.prepare-known in
    let l = c.list_free-count in
    settled_as F a.start.now a.constraints.now (region (candidates_at F) l.result l.new.u) (free_to a.start.now (variables F))
    p.new.values a.values.now p.new.f a.f.now l.new.u a.u.now c.settle.ensures
    (free_are c.requires.ready l.ensures) p.auto.values p.auto.f (l.auto.u ∙ p.auto.u)
