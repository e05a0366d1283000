-- `work` makes the rows, adds the value to the start values, and runs. Assumes nothing.
use mathlib.Core.Path.{ap, ◌∙◌}
use Rattle.run.specs.Run.{closure}
use Rattle.single.proofs.Set.{runs_on}
use Rattle.single.proofs.work.Goals as goal

pub close_from-requires : goal.close_from-requires
close_from-requires c = let both = runs_on _ _ _ _ _ _ _ _ c.requires.probable c.assume.ensures c.make.ensures in
    record { closable = both.0; filled = both.1 }

pub returns : goal.returns
unfolding closure
returns c = c.close_from.ensures.values ∙ ap (closure _) c.assume.ensures
