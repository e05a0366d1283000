-- `value_in` is 1 where the verdict is one. Assumes nothing.
use Rattle.run.proofs.Moves.{one_valued, zero_valued}
use Rattle.run.proofs.steps.value_in.Goals.{in-One, in_default}
use Rattle.run.proofs.steps.value_in.Goals as goal

pub returns : goal.returns
returns c = elim c.match-matches.branch [
  | in-One w ↦ one_valued c.from.ensures w.matches-is w.in-One.is
  | in_default w ↦ zero_valued _ c.requires w.in_default.not-One c.from.ensures w.matches-is
]
