-- `all_fit` tests one record a turn. Assumes nothing.
use Rattle.propagation.specs.Tests.{fits}
use Rattle.constraints.specs.Record.{room, record_at}
use Rattle.scratch.specs.All.{Passing}
use Rattle.propagation.proofs.tests.all_fit.Given as goal

abbrev pub invariant-loop-record : goal.invariant-loop-record
invariant-loop-record l = Passing (λ j. fits l.n (record_at l.list j)) (room l.list) l.record-index
