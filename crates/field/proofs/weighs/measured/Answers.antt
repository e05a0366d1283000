-- `measured` reads one weight a turn. Assumes nothing.
use mathlib.Core.Path.{refl}
use Rattle.field.proofs.Means.{all_finite_means}
use Rattle.field.proofs.Measure.{lesser_min, greater_max, measure_start, measure_turn, measure_stop, measure_done}
use borrow.Author.Rules.{rules}
use Rattle.field.proofs.weighs.measured.Goals as goal

pub loop-x-init : goal.loop-x-init
loop-x-init c = measure_start _

pub pattern-b-requires : goal.pattern-b-requires
pattern-b-requires c = (all_finite_means _).0 c.requires _ (search rules)

pub returns-then-beyond-le1053 : goal.returns-then-beyond-le1053
returns-then-beyond-le1053 c =
    measure_stop
    (measure_turn c.loop-x.invariant (search rules) (search rules) c.pattern-b.ensures
    c.beyond.ensures (lesser_min c.min-beyond.ensures) (greater_max c.max-size.ensures)) c.if-beyond-le1053.true

pub loop-x-preserved : goal.loop-x-preserved
loop-x-preserved c =
    measure_turn c.loop-x.invariant (search rules) (search rules) c.pattern-b.ensures
    c.beyond.ensures (lesser_min c.min-beyond.ensures) (greater_max c.max-size.ensures)

pub returns : goal.returns
returns c = measure_done c.loop-x.invariant refl (search rules)
