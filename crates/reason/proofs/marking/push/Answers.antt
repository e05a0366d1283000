-- `push` lists a marked variable. Assumes nothing.
use borrow.Author.Tests.{eq-eqb}
use Rattle.reason.proofs.MarkTurns.{push_none, push_one}
use Rattle.reason.proofs.marking.push.Goals as goal

pub returns-then-v-ne3 : goal.returns-then-v-ne3
returns-then-v-ne3 c = push_none c.if-v-ne3.true

pub bounds-list-count : goal.bounds-list-count
bounds-list-count c = c.requires.count_in_bounds (eq-eqb _ _ c.if-v-ne3.false)

pub returns : goal.returns
returns c = push_one c.if-v-ne3.false
