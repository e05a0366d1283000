-- `walk` makes room, then takes one candidate a turn. Assumes nothing.
use Rattle.field.specs.Field.{lent}
use Rattle.cold.proofs.Walked.{Walking}
use Rattle.cold.proofs.settling.walk.Given as goal

abbrev pub invariant-loop-h : goal.invariant-loop-h
invariant-loop-h l =
    Walking (lent l.field) l.start l.count l.initial.list l.initial.values l.initial.f l.initial.u l.list l.values l.f l.u l.held l.end l.h
