-- `list_marked` lists the marks, a variable at a turn. Assumes nothing.
use native.Mathlib.Omega.{arith}
use Rattle.reason.proofs.MarkTurns.{list_start, list_long, list_room, list_turn, list_done}
use Rattle.reason.proofs.marking.list_marked.Goals as goal

pub loop-j-init : goal.loop-j-init
loop-j-init c = list_start c.requires.values_in_bounds

pub push-count-requires : goal.push-count-requires
push-count-requires c = record { count_in_bounds = list_room c.loop-j.invariant c.loop-j-test.true; j_bound = omega (arith, c.loop-j-test.true, c.requires.values_len_bound) }

pub loop-j-preserved : goal.loop-j-preserved
loop-j-preserved c = list_turn c.loop-j.invariant c.loop-j-test.true c.push-count.ensures

pub shape_of-list : goal.shape_of-list
shape_of-list c = list_long c.loop-j.invariant

pub returns : goal.returns
returns c = list_done c.loop-j.invariant c.loop-j-test.false
