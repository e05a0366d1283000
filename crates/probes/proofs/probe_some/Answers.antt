-- `probe_some` prepares, chooses the candidates and settles. Assumes nothing.
use mathlib.Core.Path.{◌∙◌}
use lib.ListN.{take}
use Rattle.scratch.specs.Region.{region}
use Rattle.field.specs.Field.{lent}
use Rattle.ranking.specs.Ranking.{ranks}
use Rattle.walking.specs.Walk.{candidates_at}
use Rattle.probes.proofs.Chosen.{ready_same, chosen_standing}
use Rattle.probes.proofs.Answers.{settled_as}
use Rattle.probes.proofs.probe_some.Goals as goal

pub choose-count-requires : goal.choose-count-requires
choose-count-requires c =
    ready_same c.requires.ready c.prepare-known.auto.f c.prepare-known.auto.u

pub settle-requires : goal.settle-requires
settle-requires c =
    let a = c.args in
    let F = lent a.field in
    let p = c.prepare-known in
    let h = c.choose-count in
    record {
      standing = chosen_standing F a.start.now a.candidates p.new.f h.new.f
          p.new.u h.new.u h.ensures c.requires.ready p.ensures.remembers p.auto.u;
      values_value = p.ensures.values_value;
    }

pub returns : goal.returns
returns c =
    let a = c.args in
    let F = lent a.field in
    let p = c.prepare-known in
    let h = c.choose-count in
    settled_as F a.start.now a.constraints.now (region (candidates_at F) h.result h.new.u) (take a.candidates (ranks F a.start.now))
    p.new.values a.values.now h.new.f a.f.now h.new.u a.u.now c.settle.ensures
    h.ensures.are p.auto.values (h.auto.f ∙ p.auto.f) (h.auto.u ∙ p.auto.u)
