-- `start_rows` stores one row a turn. Assumes nothing.
use lib.ListN.{length, get_or}
use lib.Ieee.{nan}
use Rattle.rows.specs.Row.{start_row}
use Rattle.rows.specs.Stored.{Written}
use Rattle.rows.proofs.fill.start_rows.Given as goal

abbrev pub invariant-loop-i : goal.invariant-loop-i
invariant-loop-i l = Written (length l.c) (λ k. start_row (get_or l.c k nan)) l.initial.f l.f l.i
