-- `carry` takes one part a turn. Assumes nothing.
use mathlib.Core.Path.{sym, ◌∙◌}
use native.Mathlib.Omega.{arith}
use Rattle.expansion.proofs.Carrying.{carry_start, carry_turn, carry_stop, carry_done}
use Rattle.expansion.proofs.carry.Goals as goal

pub loop-i-init : goal.loop-i-init
loop-i-init c = carry_start _ c.requires

pub returns-then-not-is_finite : goal.returns-then-not-is_finite
returns-then-not-is_finite c =
    carry_stop c.loop-i.invariant _ c.loop-i-test.true c.two_sum-split.ensures
    (sym c.is_finite.ensures ∙ c.if-not-is_finite.true)

pub loop-i-preserved : goal.loop-i-preserved
loop-i-preserved c =
    carry_turn c.loop-i.invariant c.loop-i-test.true
    c.two_sum-split.ensures
    (sym c.is_finite.ensures ∙ c.if-not-is_finite.false) c.keep-kept.auto.parts
    c.keep-kept.ensures

pub returns : goal.returns
returns c = carry_done c.loop-i.invariant c.loop-i-test.false c.keep.ensures
