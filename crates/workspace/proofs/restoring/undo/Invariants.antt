-- `undo` puts one value back a turn. Assumes nothing.
use Rattle.workspace.proofs.Backed.{Undoing}
use Rattle.workspace.proofs.restoring.undo.Given as goal

abbrev pub invariant-loop-h : goal.invariant-loop-h
invariant-loop-h l = Undoing l.start l.u l.from l.count l.h l.values
