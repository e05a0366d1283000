-- `take_constraints` takes as many as there are, or fills. Assumes nothing.
use Rattle.cases.proofs.Taken.{constraints_taken, none_taken}
use Rattle.cases.proofs.case.Case.take_constraints.Goals as goal

pub returns-then-list-self : goal.returns-then-list-self
returns-then-list-self c =
    let a = c.constraints_at in
    constraints_taken c.args.self.head c.args.self.contents.now a.result c.args.list.now _ c.if-list-self.true a.ensures c.take.ensures

pub returns-else-list-self : goal.returns-else-list-self
returns-else-list-self c =
    none_taken c.args.self.head c.args.self.contents.now c.args.list.now _ c.if-list-self.false (c.fill.ensures.after (λ y e. e))
