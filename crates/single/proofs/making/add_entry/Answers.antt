-- `add_entry` adds one term at each end. Assumes nothing.
use mathlib.Core.Path.{◌∙◌}
use Rattle.rows.specs.Stored.{add_entry}
use Rattle.single.proofs.making.add_entry.Goals as goal

pub returns : goal.returns
unfolding add_entry
returns c =
    c.add_at-2.ensures
    ∙ rw (c.add_at.ensures, c.value_at.ensures, c.value_at-2.ensures, c.half-coeff.ensures, c.from-r.ensures, c.from-t.ensures)
