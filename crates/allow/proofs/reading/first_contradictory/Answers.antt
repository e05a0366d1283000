-- `first_contradictory` stops at the first. Assumes nothing.
use mathlib.Core.Path.{sym, ◌∙◌}
use Rattle.allow.proofs.Choosing.{seeking_start, seeking_turn, seeking_found}
use Rattle.allow.proofs.reading.first_contradictory.Goals as goal

pub loop-i-init : goal.loop-i-init
loop-i-init c = seeking_start _ _

pub returns-then-contradicts : goal.returns-then-contradicts
returns-then-contradicts c =
    (c.loop-i-test.true, seeking_found c.loop-i-test.true c.loop-i.invariant (sym c.contradicts.ensures ∙ c.if-contradicts.true))

pub loop-i-preserved : goal.loop-i-preserved
loop-i-preserved c = seeking_turn c.loop-i-test.true c.loop-i.invariant (sym c.contradicts.ensures ∙ c.if-contradicts.false)
