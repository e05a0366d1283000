-- `count_all` counts one row a turn. Assumes nothing.
use Rattle.bit_rows.specs.Rows.{bit_in}
use Rattle.allow.specs.Choice.{Numbering}
use Rattle.allow.proofs.reading.count_all.Given as goal

abbrev pub invariant-loop-a : goal.invariant-loop-a
invariant-loop-a l = Numbering (bit_in l.w) l.m l.initial.counts l.a l.counts
