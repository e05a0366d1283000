-- `list_pairs` lists the terms of each column. Assumes nothing.
use Rattle.scratch.specs.Region.{region}
use Rattle.field.specs.Field.{lent}
use Rattle.masks.specs.Listed.{lists}
use Rattle.enumeration.specs.Terms.{pair_terms}
use Rattle.enumeration.proofs.Filling.{Filling}
use Rattle.enumeration.proofs.pairs.list_pairs.Given as goal

abbrev pub invariant-loop-b : goal.invariant-loop-b
invariant-loop-b l = Filling l.count (pair_terms (lent l.field) (region l.at l.count l.u)) (lists l.from l.initial.terms l.initial.required) (lists l.end l.terms l.required) l.b
