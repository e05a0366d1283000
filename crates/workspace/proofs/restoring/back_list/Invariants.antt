-- `back_list` puts back the neighbours of one variable a turn. Assumes nothing.
use Rattle.field.specs.Field.{lent}
use Rattle.workspace.proofs.Restored.{Backs}
use Rattle.workspace.proofs.restoring.back_list.Given as goal

abbrev pub invariant-loop-h : goal.invariant-loop-h
invariant-loop-h l = Backs (lent l.field) l.start l.u l.from l.count l.h l.initial.f l.f
