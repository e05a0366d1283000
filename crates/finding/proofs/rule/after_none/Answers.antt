-- `after_none` goes through the value of the probe at 1. Assumes nothing.
use borrow.Author.Rules.{rules}
use Rattle.probe.specs.Found.{found}
use Rattle.finding.specs.Finds.{number_of}
use Rattle.finding.proofs.Cases.{after_none_none}
use Rattle.finding.proofs.rule.after_none.Goals as goal

pub returns-in-0 : goal.returns-in-0
unfolding found number_of
returns-in-0 c = rw c.in-0.is c.key.ensures

pub returns-in-1 : goal.returns-in-1
unfolding found number_of
returns-in-1 c = rw c.in-1.is c.key-in-1.ensures

pub returns-in_default : goal.returns-in_default
returns-in_default c = after_none_none _ _ _ (λ e. search rules) (λ e. search rules)
