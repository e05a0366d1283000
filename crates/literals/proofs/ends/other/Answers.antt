-- `other` reads one element. Assumes nothing.
use Rattle.literals.specs.Ends.{other}
use borrow.Author.Rules.{rules}
use Rattle.literals.proofs.ends.other.Goals as goal

pub returns : goal.returns
unfolding other
returns c = search rules
