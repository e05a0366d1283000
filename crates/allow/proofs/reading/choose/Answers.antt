-- `choose` makes one choice a turn. Assumes nothing.
use mathlib.Core.Path.{◌≡◌, sym, ◌∙◌}
use Rattle.allow.proofs.Choosing.{choosing_start, choosing_turn, wants_number}
use Rattle.allow.proofs.reading.choose.Goals as goal

pub loop-i-init : goal.loop-i-init
loop-i-init c = choosing_start _ c.requires.blank

pub loop-i-preserved : goal.loop-i-preserved
loop-i-preserved c =
    let value = (wants_number _ _ _ c.choice-v.ensures c.from.ensures).0 in
    let same : c.from-in-loop-i.result ≡ c.from.result = c.from-in-loop-i.ensures ∙ sym c.from.ensures in
    choosing_turn c.requires.wide.few c.requires.n_in_bounds c.loop-i-test.true c.loop-i.invariant value (rw same at c.join.ensures)
