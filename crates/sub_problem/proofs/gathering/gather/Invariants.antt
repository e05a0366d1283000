-- `gather` takes one entry a turn. Assumes nothing.
use Rattle.field.specs.Field.{lent}
use Rattle.sub_problem.proofs.GatherLoops.{Gathering}
use Rattle.sub_problem.proofs.gathering.gather.Given as goal

abbrev pub invariant-loop-k : goal.invariant-loop-k
invariant-loop-k l = Gathering (lent l.field) l.start l.initial.f l.k l.f l.sum
