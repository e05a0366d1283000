-- `settle` gathers, and hands over what was found, or refuses for want of room. Assumes nothing.
use mathlib.Core.Path.{ap, ◌∙◌}
use native.Mathlib.Omega.{arith}
use lib.ListN.{length}
use Rattle.scratch.specs.Region.{region}
use Rattle.field.specs.Field.{lent}
use Rattle.walking.specs.Walk.{candidates_at}
use Rattle.probes.proofs.Standing.{all_held, none_held, held_bytes}
use Rattle.probes.proofs.Answers.{done_answer, full_answer}
use Rattle.probes.proofs.settling.settle.Goals as goal

pub hand_over-requires : goal.hand_over-requires
hand_over-requires c =
    let a = c.args in
    let g = c.gather in
    let F = lent a.field in
    let cands = region (candidates_at F) a.count a.u.now in
    held_bytes F a.start.now cands a.constraints.now g.new.constraints g.new.u
    (all_held F a.start.now cands a.constraints.now g.new.constraints g.new.u g.ensures c.in-Some.is)
    (g.auto.values ∙ ap length c.requires.values_value ∙ c.requires.standing.remembers.start.long) (omega (arith, c.requires.standing.space, g.auto.u))

pub returns : goal.returns
returns c =
    let a = c.args in
    let g = c.gather in
    let F = lent a.field in
    let cands = region (candidates_at F) a.count a.u.now in
    done_answer F a.start.now cands a.values.now a.constraints.now a.f.now a.u.now (ap length c.requires.values_value ∙ c.requires.standing.remembers.start.long)
    g.new.constraints g.new.u
    (length g.new.values) (length g.new.f) (length g.new.u)
    (all_held F a.start.now cands a.constraints.now g.new.constraints g.new.u g.ensures c.in-Some.is)
    c.requires.standing.remembers.graded
    c.hand_over.ensures.values_value g.auto.values
    c.hand_over.ensures.f_value g.auto.f c.hand_over.ensures.u_value g.auto.u

pub returns-in_default : goal.returns-in_default
returns-in_default c =
    let a = c.args in
    let g = c.gather in
    let F = lent a.field in
    let cands = region (candidates_at F) a.count a.u.now in
    full_answer F a.start.now cands a.values.now a.constraints.now a.f.now a.u.now (ap length c.requires.values_value ∙ c.requires.standing.remembers.start.long)
    (length g.new.values) (length g.new.constraints) (length g.new.f) (length g.new.u)
    (none_held F a.start.now cands a.constraints.now g.new.constraints g.new.u g.ensures c.in_default.is)
    c.no_room.ensures
    g.auto.values g.auto.constraints g.auto.f g.auto.u
