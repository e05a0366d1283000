-- `store_rows` stores one row a turn. Assumes nothing.
use lib.ListN.{length, get_or}
use Rattle.rows.specs.Stored.{row_on, Written}
use Rattle.kept.specs.Kept.{stored_row}
use Rattle.kept.proofs.storing.store_rows.Given as goal

abbrev pub invariant-loop-t : goal.invariant-loop-t
invariant-loop-t l = Written (length l.values) (λ j. stored_row (get_or l.values j 0) (row_on l.f (length l.values) j)) l.initial.bounds l.bounds l.t
