-- `add_at` reads a row, adds the term, and stores the row. Assumes nothing.
use mathlib.Core.Path.{◌∙◌}
use Rattle.rows.specs.Stored.{add_at}
use Rattle.rows.proofs.fill.add_at.Goals as goal

pub returns : goal.returns
unfolding add_at
returns c = c.put_row.ensures ∙ rw (c.add_term.ensures, c.row_at-row.ensures)
