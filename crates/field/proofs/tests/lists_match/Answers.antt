-- `lists_match` makes its three comparisons in turn. Assumes nothing.
use mathlib.Core.Path.{refl}
use borrow.Author.Tests.{eq-eqb, ne_eqb}
use Rattle.scratch.proofs.All.{and_yes, and_no}
use Rattle.field.specs.Tests.{lists_match}
use Rattle.field.proofs.tests.lists_match.Goals as goal

pub returns-then-rows-q : goal.returns-then-rows-q
unfolding lists_match
returns-then-rows-q c = and_no _ (ne_eqb _ _ c.if-rows-q.true)

pub returns-then-cols-q : goal.returns-then-cols-q
unfolding lists_match
returns-then-cols-q c = and_yes (eq-eqb _ _ c.if-rows-q.false) (and_no _ (ne_eqb _ _ c.if-cols-q.true))

pub returns : goal.returns
unfolding lists_match
returns c = and_yes (eq-eqb _ _ c.if-rows-q.false) (and_yes (eq-eqb _ _ c.if-cols-q.false) refl)
