-- `search` takes one start a turn. Assumes nothing.
use Rattle.anchors.proofs.Searching.{search_start, search_turn, search_done}
use Rattle.anchors.proofs.search.search.Goals as goal

pub loop-i-init : goal.loop-i-init
loop-i-init c = search_start _ c.requires.standing c.requires.u_value

pub loop-i-preserved : goal.loop-i-preserved
loop-i-preserved c =
    search_turn c.loop-i.invariant
    c.loop-i-test.true c.visit-found.ensures
    c.visit-found.auto.list c.visit-found.auto.f
    c.visit-found.auto.u

pub returns : goal.returns
returns c = search_done c.loop-i.invariant c.loop-i-test.false
