-- `fresh_row` is the fold over the places of a variable. Assumes nothing.
use Rattle.field.specs.Field.{variables, linear_of, lent}
use Rattle.rows.specs.Row.{start_row}
use Rattle.places.proofs.Walk.{Along}
use Rattle.probing.specs.Remembered.{add_places}
use Rattle.probing.proofs.refreshing.fresh_row.Given as goal

abbrev pub invariant-loop-p : goal.invariant-loop-p
invariant-loop-p l = Along (add_places (lent l.field) l.values l.t) (variables (lent l.field)) l.field.rows.now l.field.cols.now l.u l.u l.t l.end l.p (start_row (linear_of (lent l.field) l.t)) l.row
