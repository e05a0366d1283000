-- `serve_end` goes by what the end says and what the other end has. Assumes nothing.
use Rattle.literals.proofs.Serving.{reads, end_nothing, end_both, end_same, end_clash, end_room, end_forced}
use Rattle.literals.proofs.Rules.{other_below}
use native.Mathlib.Omega.{arith}
use Rattle.literals.proofs.steps.serve_end.Goals as goal

pub returns-then-w-eq2 : goal.returns-then-w-eq2
returns-then-w-eq2 c =
    let pre = c.requires in
    end_nothing pre.listed pre.going pre.x_bound pre.valued c.mine.ensures c.value.ensures c.says-w.ensures c.if-w-eq2.true

pub returns-then-w-eq3 : goal.returns-then-w-eq3
returns-then-w-eq3 c =
    let pre = c.requires in
    end_both pre.listed pre.going pre.x_bound pre.valued c.mine.ensures c.value.ensures c.says-w.ensures c.if-w-eq3.true

pub value-have-requires : goal.value-have-requires
value-have-requires c = let pre = c.requires in let both = reads pre.listed pre.going c.other-j.ensures (other_below _ pre.listed _ pre.x_bound) in
    record { i_in_bounds = both.0; i_bound = both.1 }

pub returns-then-have-w : goal.returns-then-have-w
returns-then-have-w c =
    let pre = c.requires in
    end_same pre.listed pre.going pre.x_bound pre.valued c.mine.ensures c.value.ensures c.says-w.ensures
    c.other-j.ensures c.value-have.ensures c.if-have-w.true

pub returns-then-have-ne2 : goal.returns-then-have-ne2
returns-then-have-ne2 c =
    let pre = c.requires in
    end_clash pre.listed pre.going pre.x_bound pre.valued c.mine.ensures c.value.ensures c.says-w.ensures
    c.if-w-eq2.false c.if-w-eq3.false c.other-j.ensures c.value-have.ensures c.if-have-w.false c.if-have-ne2.true

pub force-requires : goal.force-requires
force-requires c =
    let pre = c.requires in
    let room = end_room pre.listed pre.going pre.x_bound pre.valued c.mine.ensures c.value.ensures c.says-w.ensures
    c.if-w-eq2.false c.if-w-eq3.false c.other-j.ensures c.value-have.ensures c.if-have-w.false c.if-have-ne2.false in
    record { i_lt_n = room.0; n_bound = pre.start_len_bound; tail_in_bounds = omega (arith, room.1, pre.going.long) }

pub returns : goal.returns
returns c =
    let pre = c.requires in
    end_forced pre.listed pre.going pre.x_bound pre.valued c.mine.ensures c.value.ensures c.says-w.ensures
    c.if-w-eq2.false c.if-w-eq3.false c.other-j.ensures c.value-have.ensures c.if-have-w.false c.if-have-ne2.false c.force.ensures.value
    c.force.ensures.u_value
