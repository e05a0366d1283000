-- `list_column` lists the terms of each row. Assumes nothing.
use Rattle.scratch.specs.Region.{region}
use Rattle.field.specs.Field.{lent}
use Rattle.masks.specs.Listed.{lists}
use Rattle.enumeration.specs.Terms.{column_terms}
use Rattle.enumeration.proofs.Filling.{Filling}
use Rattle.enumeration.proofs.pairs.list_column.Given as goal

abbrev pub invariant-loop-a : goal.invariant-loop-a
invariant-loop-a l = Filling l.count (column_terms (lent l.field) (region l.at l.count l.u) l.b) (lists l.from l.initial.terms l.initial.required) (lists l.end l.terms l.required) l.a
