-- `fault` looks for the first entry that is not fine, and says what is wrong with it. Assumes nothing.
use mathlib.Core.Path.{ap, ◌∙◌}
use Rattle.field.specs.Tests.{wrong_at, fault_of}
use Rattle.field.proofs.Faults.{walk_stops}
use Rattle.field.proofs.entries.fault.Goals as goal

pub wrong_at-requires : goal.wrong_at-requires
wrong_at-requires c =
    let at = walk_stops _ _ _ c.requires.rows_len c.requires.cols_value c.first_fault.ensures in
    record { rows_len = c.requires.rows_len; k_in_bounds = at.within; k_value = at.fails }

pub returns : goal.returns
unfolding fault_of
returns c = c.wrong_at.ensures ∙ ap (wrong_at _ _ _) c.first_fault.ensures
