-- `pop_all` is the model's walk, a pop at a turn. Assumes nothing.
use Rattle.parts.proofs.Turns.{pop_start, pop_ready, pop_turn, pop_done}
use Rattle.parts.proofs.steps.pop_all.Goals as goal

pub loop-last-init : goal.loop-last-init
loop-last-init c = pop_start c.args.zeros c.requires

pub push_neighbours-last-requires : goal.push_neighbours-last-requires
push_neighbours-last-requires c = let both = pop_ready c.loop-last.invariant c.loop-last-test.true c.pop-i.ensures.value c.pop-i.ensures.u_value in
    record { placed = both.0; i_bound = both.1 }

pub loop-last-preserved : goal.loop-last-preserved
loop-last-preserved c =
    pop_turn c.loop-last.invariant c.loop-last-test.true c.pop-i.ensures.value c.pop-i.ensures.u_value c.push_neighbours-last.ensures

pub returns : goal.returns
returns c = pop_done c.loop-last.invariant c.loop-last-test.false
