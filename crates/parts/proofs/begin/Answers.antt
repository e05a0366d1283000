-- `begin` sets the marks and clears what lies behind them. Assumes nothing.
use Rattle.parts.proofs.Marks.{begun}
use Rattle.parts.proofs.begin.Goals as goal

pub returns : goal.returns
returns c =
    begun _ _ _ _ c.requires.values_len c.requires.q_in_bounds c.mark.ensures (c.fill.ensures.after (λ y e. e))
