-- `close_up` closes up one entry a turn. Assumes nothing.
use Rattle.field.specs.Field.{field_of}
use Rattle.shift.proofs.Loop.{Stands}
use Rattle.shift.proofs.close_up.Given as goal

abbrev pub invariant-loop-k : goal.invariant-loop-k
invariant-loop-k l = Stands (field_of l.initial.c l.initial.rows l.initial.cols l.initial.q) l.k (field_of l.c l.rows l.cols l.q) l.kept
