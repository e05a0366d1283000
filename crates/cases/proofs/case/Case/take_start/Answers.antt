-- What `take_start` takes lies over the front of the list. Assumes nothing.
use Rattle.cases.proofs.Taken.{start_taken}
use Rattle.cases.proofs.case.Case.take_start.Goals as goal

pub returns : goal.returns
returns c =
    start_taken c.args.self.head c.args.self.contents.now _ c.args.start.now c.take.new.list c.start_at-at.ensures c.requires c.take.ensures
