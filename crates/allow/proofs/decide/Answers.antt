-- `decide` is the answer of the rows. Assumes nothing.
use mathlib.Core.Path.{sym}
use native.Mathlib.Omega.{arith}
use Rattle.meaning.proofs.Implications.{rules_fit}
use Rattle.literals.proofs.Freeing.{filled_over}
use Rattle.literals.proofs.Rules.{listed_ends}
use Rattle.allow.proofs.Same.{answer_yes, answer_no}
use Rattle.allow.proofs.decide.Goals as goal

pub returns-in-Some : goal.returns-in-Some
returns-in-Some c =
    answer_no (rules_fit _ (listed_ends c.requires.listed)) c.requires.wide.few c.fill.ensures c.count_all.ensures
    c.in-Some.ensures.1 c.in-Some.ensures.0 (filled_over 2 _ _ (omega (arith, c.requires.n_in_bounds)) (c.fill-in-Some.ensures.after (λ y e. e)))

pub returns : goal.returns
returns c =
    answer_yes (rules_fit _ (listed_ends c.requires.listed)) c.requires.wide.few c.fill.ensures {i = c.args.n} c.count_all.ensures
    (sym c.in_default.ensures) (omega arith) c.choose.ensures
