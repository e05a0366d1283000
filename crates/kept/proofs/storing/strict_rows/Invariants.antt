-- `strict_rows` is the model's count, a variable at a turn. Assumes nothing.
use Rattle.kept.proofs.Strict.{Counting}
use Rattle.kept.proofs.storing.strict_rows.Given as goal

abbrev pub invariant-loop-i : goal.invariant-loop-i
invariant-loop-i l = Counting l.values l.bounds l.i l.strict
