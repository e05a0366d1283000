-- `link` puts one end in front of its chain a turn. Assumes nothing.
use Rattle.literals.proofs.Chains.{Linking}
use Rattle.literals.proofs.ends.link.Given as goal

abbrev pub invariant-loop-x : goal.invariant-loop-x
invariant-loop-x l = Linking l.list l.n l.initial.u l.u l.x
