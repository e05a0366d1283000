-- What `take_columns` takes lies over the front of the list. Assumes nothing.
use Rattle.cases.proofs.Taken.{taken}
use Rattle.cases.proofs.case.Case.take_columns.Goals as goal

pub returns : goal.returns
returns c = taken _ c.args.self.head.columns c.args.cols.now c.take.new.list c.requires c.take.ensures
