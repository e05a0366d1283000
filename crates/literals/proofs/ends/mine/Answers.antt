-- `mine` reads one element. Assumes nothing.
use Rattle.literals.specs.Ends.{mine}
use borrow.Author.Rules.{rules}
use Rattle.literals.proofs.ends.mine.Goals as goal

pub returns : goal.returns
unfolding mine
returns c = search rules
