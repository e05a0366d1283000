-- `work` serves the queue. Assumes nothing.
use mathlib.Core.Path.{refl, ◌∙◌}
use Rattle.literals.proofs.Serving.{went_on, went_not, work_turn, work_done, work_clash}
use Rattle.literals.proofs.work.Goals as goal

pub returns-in_default : goal.returns-in_default
returns-in_default c =
    let pre = c.requires in work_clash pre.listed pre.valid (went_not c.serve.ensures c.in_default.is) _

pub loop-head-preserved : goal.loop-head-preserved
loop-head-preserved c =
    let pre = c.requires in
    let served = went_on c.serve.ensures c.in-Some.is in
    (work_turn pre.listed c.loop-head.invariant.0 c.loop-head-test.true refl served, served.kept.long ∙ c.loop-head.invariant.1)

pub returns : goal.returns
returns c = let pre = c.requires in work_done pre.listed c.loop-head.invariant.0 c.loop-head-test.false pre.valid
