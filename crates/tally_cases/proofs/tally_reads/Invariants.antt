-- `tally_reads` reads on, and each read comes nearer to the end. Assumes nothing.
use Prim.Native.Nat.{◌≤◌}
use lib.ListN.{length}
use Rattle.tallying.specs.Reads.{to_go}
use Rattle.record_program.proofs.Loop.{Reading}
use Rattle.tally_cases.proofs.tally_reads.Given as goal

abbrev pub invariant-loop-next : goal.invariant-loop-next
invariant-loop-next l = Reading l.initial.buffer l.buffer l.reached × (l.at ≤ length l.input)

abbrev pub decreases-loop-next : goal.decreases-loop-next
decreases-loop-next l = to_go (length l.initial.buffer) l.reached.totals l.reached.at
