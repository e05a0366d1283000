-- What `take_linear` takes lies over the front of the list. Assumes nothing.
use Rattle.cases.proofs.Taken.{linear_taken}
use Rattle.cases.proofs.case.Case.take_linear.Goals as goal

pub returns : goal.returns
returns c = linear_taken c.args.self.head c.args.self.contents.now c.args.c.now c.take.new.list c.requires c.take.ensures
