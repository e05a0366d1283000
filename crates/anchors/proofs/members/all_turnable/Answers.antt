-- `all_turnable` stops at the first member that may not turn. Assumes nothing.
use mathlib.Core.Path.{refl, ◌∙◌}
use Rattle.anchors.proofs.Gathering.{turning_fixed, turning_tilted, turning_next, turning_done}
use Rattle.anchors.proofs.members.all_turnable.Goals as goal
use Rattle.anchors.proofs.members.all_turnable.Goals.{then-start-i-ne2-via-then-start-i-ne2, then-start-i-ne2-via-else-start-i-ne2+then-not-is_balanced}

pub loop-h-preserved : goal.loop-h-preserved
loop-h-preserved c = (
  turning_next c.loop-h.invariant.0
      c.loop-h-test.true refl
      c.if-start-i-ne2.false c.is_balanced.ensures c.if-not-is_balanced.false,
  c.is_balanced.auto.f ∙ c.loop-h.invariant.1,
)

pub returns : goal.returns
returns c = turning_done c.loop-h.invariant.0 c.loop-h-test.false

pub returns-then-start-i-ne2 : goal.returns-then-start-i-ne2
returns-then-start-i-ne2 c = elim c.then-start-i-ne2.branch [
  | then-start-i-ne2-via-then-start-i-ne2 w ↦ turning_fixed c.loop-h.invariant.0 c.loop-h-test.true refl w.if-start-i-ne2.true
  | then-start-i-ne2-via-else-start-i-ne2+then-not-is_balanced w ↦
      turning_tilted c.loop-h.invariant.0 c.loop-h-test.true refl
      w.if-start-i-ne2.false w.is_balanced.ensures w.if-not-is_balanced.true
]
