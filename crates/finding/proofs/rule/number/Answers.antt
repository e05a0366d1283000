-- `number` goes through the value of the probe at 0. Assumes nothing.
use borrow.Author.Rules.{rules}
use Rattle.finding.proofs.Cases.{number_none}
use Rattle.finding.proofs.rule.number.Goals as goal

pub returns-in_default : goal.returns-in_default
returns-in_default c = number_none _ _ _ _ (λ e. search rules) (λ e. search rules) c.after_none.ensures
