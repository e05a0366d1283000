-- `settle` grades, gathers, and hands over what was found, or refuses for want of room. Assumes nothing.
use mathlib.Core.Path.{◌∙◌}
use native.Mathlib.Omega.{arith}
use lib.ListN.{length}
use Rattle.scratch.specs.Region.{region}
use Rattle.field.specs.Field.{lent}
use Rattle.calls.proofs.Values.{ready_loose}
use Rattle.walking.specs.Walk.{candidates_at}
use Rattle.probes.proofs.Standing.{all_held, none_held, held_bytes}
use Rattle.probes.proofs.Chosen.{space_enough}
use Rattle.probes.proofs.Answers.{done_answer, full_answer}
use Rattle.cold.proofs.settling.settle.Goals as goal

pub graded-grade-requires : goal.graded-grade-requires
graded-grade-requires c = ready_loose c.requires.ready

pub gather-requires : goal.gather-requires
gather-requires c = c.requires

pub hand_over-requires : goal.hand_over-requires
hand_over-requires c =
    let a = c.args in
    let F = lent a.field in
    let g = c.gather in
    let cands = region (candidates_at F) a.count a.u.now in
    let list = c.gather.new.constraints in
    let words = c.gather.new.u in
    held_bytes F a.start.now cands a.constraints.now list words
    (all_held F a.start.now cands a.constraints.now list words g.ensures c.in-Some.is)
    (g.auto.values ∙ c.requires.values_long) (omega (arith, space_enough c.requires.ready, g.auto.u))

pub returns : goal.returns
returns c =
    let a = c.args in
    let F = lent a.field in
    let g = c.gather in
    let cands = region (candidates_at F) a.count a.u.now in
    let list = c.gather.new.constraints in
    let words = c.gather.new.u in
    let handed = c.hand_over in
    done_answer F a.start.now cands a.values.now a.constraints.now a.f.now a.u.now c.requires.values_long
    list words (length g.new.values) (length g.new.f) (length words)
    (all_held F a.start.now cands a.constraints.now list words g.ensures c.in-Some.is)
    c.graded-grade.ensures handed.ensures.values_value g.auto.values
    handed.ensures.f_value g.auto.f handed.ensures.u_value g.auto.u

pub returns-in_default : goal.returns-in_default
returns-in_default c =
    let a = c.args in
    let F = lent a.field in
    let g = c.gather in
    let cands = region (candidates_at F) a.count a.u.now in
    let list = c.gather.new.constraints in
    let words = c.gather.new.u in
    full_answer F a.start.now cands a.values.now a.constraints.now a.f.now a.u.now c.requires.values_long
    (length g.new.values) (length list) (length g.new.f) (length words)
    (none_held F a.start.now cands a.constraints.now list words g.ensures c.in_default.is) c.no_room.ensures
    g.auto.values g.auto.constraints g.auto.f g.auto.u
