-- `flat_rows` is the model's count, a variable at a turn. Assumes nothing.
use Rattle.run.proofs.FlatRows.{Counting}
use Rattle.run.proofs.flat.flat_rows.Given as goal

abbrev pub invariant-loop-i : goal.invariant-loop-i
invariant-loop-i l = Counting l.values l.f l.i l.flat
