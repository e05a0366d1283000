-- `winner` asks whether both values are one. Assumes nothing.
use Rattle.finding.proofs.Cases.{winner_none, winner_same, winner_differ}
use Rattle.finding.proofs.rule.winner.Goals as goal

pub returns-then-v-gt1 : goal.returns-then-v-gt1
returns-then-v-gt1 c = winner_none _ _ _ _ _ c.if-v-gt1.true

pub returns-then-v-w : goal.returns-then-v-w
returns-then-v-w c = winner_same _ _ _ _ _ c.if-v-gt1.false c.if-v-w.true

pub returns : goal.returns
returns c = winner_differ _ _ _ _ _ c.if-v-gt1.false c.if-v-w.false
