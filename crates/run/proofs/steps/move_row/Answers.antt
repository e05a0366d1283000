-- `move_row` reads a row, moves its term from free to fixed, and stores the row. Assumes nothing.
use Rattle.run.proofs.steps.move_row.Goals as goal

pub returns : goal.returns
returns c = record { value = rw (c.remove_free.ensures, c.row_at.ensures) at c.add_fixed-row.ensures; f_value = c.put_row.ensures }
