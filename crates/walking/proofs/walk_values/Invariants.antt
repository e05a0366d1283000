-- `walk_values` takes one candidate a turn and forgets the numbers. Assumes nothing.
use Rattle.field.specs.Field.{lent}
use Rattle.walking.proofs.Going.{Valuing}
use Rattle.walking.proofs.walk_values.Given as goal

abbrev pub invariant-loop-h : goal.invariant-loop-h
invariant-loop-h l = Valuing (lent l.field) l.start l.known l.count l.initial.f l.initial.u l.values l.f l.u l.h
