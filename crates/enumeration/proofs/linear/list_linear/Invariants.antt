-- `list_linear` lists a term for each member. Assumes nothing.
use Rattle.scratch.specs.Region.{region}
use Rattle.field.specs.Field.{lent}
use Rattle.masks.specs.Listed.{lists}
use Rattle.enumeration.specs.Terms.{linear_terms}
use Rattle.enumeration.proofs.Filling.{Filling}
use Rattle.enumeration.proofs.linear.list_linear.Given as goal

abbrev pub invariant-loop-b : goal.invariant-loop-b
invariant-loop-b l = Filling l.count (linear_terms (lent l.field) l.values (region l.at l.count l.u)) (lists 0 l.initial.terms l.initial.required) (lists l.end l.terms l.required) l.b
