-- `close_entries` closes up one entry a turn. Assumes nothing.
use Rattle.field.specs.Field.{field_of}
use Rattle.sub_problem.proofs.CloseLoops.{Stands}
use Rattle.sub_problem.proofs.closing.close_entries.Given as goal

abbrev pub invariant-loop-k : goal.invariant-loop-k
invariant-loop-k l = Stands (field_of l.c l.initial.rows l.initial.cols l.initial.q) l.start l.k l.rows l.cols l.q l.kept
