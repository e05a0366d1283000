-- `walk` makes room, then takes one candidate a turn. Assumes nothing.
use Rattle.field.specs.Field.{lent}
use Rattle.walking.proofs.Going.{Walking}
use Rattle.walking.proofs.walk.Given as goal

abbrev pub invariant-loop-h : goal.invariant-loop-h
invariant-loop-h l = Walking (lent l.field) l.start l.known l.count l.initial.list l.initial.f l.initial.u l.values l.list l.f l.u l.held l.end l.h
