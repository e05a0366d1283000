-- `is_as_taken` tests one element a turn. Assumes nothing.
use Rattle.scratch.proofs.All.{all_start, all_turn, all_stop, all_done}
use borrow.Author.Rules.{rules}
use Rattle.stream.proofs.Alike.{compared}
use Rattle.stream.proofs.lists.is_as_taken.Goals as goal

pub loop-i-init : goal.loop-i-init
loop-i-init g c = all_start _ _

pub returns-then-not-is_same : goal.returns-then-not-is_same
returns-then-not-is_same g c =
    all_stop _ c.loop-i.i (search rules)
    (compared g.T.Element.same c.args.list.now c.loop-i.i _ (search rules) c.index-list-i.is c.read.ensures c.is_same.ensures c.if-not-is_same.true)

pub loop-i-preserved : goal.loop-i-preserved
loop-i-preserved g c =
    all_turn _ c.loop-i.invariant (search rules)
    (compared g.T.Element.same c.args.list.now c.loop-i.i _ (search rules) c.index-list-i.is c.read.ensures c.is_same.ensures c.if-not-is_same.false)

pub returns : goal.returns
returns g c = all_done _ c.loop-i.invariant (search rules)
