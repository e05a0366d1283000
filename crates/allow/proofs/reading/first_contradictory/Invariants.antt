-- `first_contradictory` stops at the first. Assumes nothing.
use Rattle.bit_rows.specs.Rows.{bit_in}
use Rattle.allow.specs.Choice.{Seeking}
use Rattle.allow.proofs.reading.first_contradictory.Given as goal

abbrev pub invariant-loop-i : goal.invariant-loop-i
invariant-loop-i l = Seeking (bit_in l.w) l.n l.i
