-- `take` stores one element a turn. Assumes nothing.
use Rattle.stream.proofs.Taken.{TakenTo}
use Rattle.stream.proofs.lists.take.Given as goal

abbrev pub invariant-loop-i : goal.invariant-loop-i
invariant-loop-i g l = TakenTo (g.T.Element.value_at l.bytes l.at) g.T.Element.past l.initial.list l.list l.i
