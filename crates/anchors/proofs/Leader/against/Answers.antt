-- `against` compares weights, then variables. Assumes nothing.
use mathlib.Core.Path.{sym, ◌∙◌}
use mathlib.Core.Bool.{true≢false}
use borrow.Author.Tests.{ltb-true, ltb-false}
use Rattle.anchors.proofs.Gathering.{heavier, lower, behind, lighter}
use Rattle.anchors.proofs.Leader.against.Goals as goal
use Rattle.anchors.proofs.Leader.against.Goals.{then-self-weight, else-self-weight+then-weight-self, else-self-weight+else-weight-self}

pub returns-then-variable-self : goal.returns-then-variable-self
returns-then-variable-self c =
    let leads = c.if-variable-self.true in
    elim c.if-self-weight.branch [
      | then-self-weight w ↦ heavier _ _ _ w.if-self-weight.true
      | else-self-weight+then-weight-self w ↦ lower _ _ _ w.if-self-weight.false w.if-weight-self.true (ltb-true _ _ (sym w.value-is ∙ leads))
      | else-self-weight+else-weight-self w ↦ absurd (true≢false (sym leads ∙ w.value-is ∙ w.if-weight-self.false))
    ]

pub returns-else-variable-self : goal.returns-else-variable-self
returns-else-variable-self c =
    let leads = c.if-variable-self.false in
    elim c.if-self-weight.branch [
      | then-self-weight w ↦ absurd (true≢false (sym w.if-self-weight.true ∙ sym w.value-is ∙ leads))
      | else-self-weight+then-weight-self w ↦ behind _ _ _ w.if-self-weight.false w.if-weight-self.true (ltb-false _ _ (sym w.value-is ∙ leads))
      | else-self-weight+else-weight-self w ↦ lighter _ _ _ w.if-self-weight.false w.if-weight-self.false
    ]
