-- `fill` clears, marks and closes. Assumes nothing.
use Rattle.meaning.proofs.Implications.{rules_fit}
use Rattle.literals.proofs.Rules.{listed_ends}
use Rattle.arrows.proofs.Filled.{fill_done}
use Rattle.arrows.proofs.fill.Goals as goal

pub returns : goal.returns
returns c =
    fill_done (rules_fit _ (listed_ends c.requires.listed)) c.requires.wide.few (c.fill.ensures.after (λ y e. e)) c.selves.ensures c.bar_all.ensures
    c.close.ensures
