-- `take_in` takes one field a turn. Assumes nothing.
use Prim.Native.Nat.{◌-◌}
use lib.ListN.{length}
use Rattle.tally.specs.Counting.{Kept}
use Rattle.tallying.proofs.Takes.{Taking}
use Rattle.tallying.proofs.take_in.Given as goal

abbrev pub invariant-loop-lists : goal.invariant-loop-lists
invariant-loop-lists l = record {
  taking : Taking l.last l.most l.initial.totals l.bytes l.totals l.at;
  kept : Kept l.initial.lists l.lists;
}

abbrev pub decreases-loop-lists : goal.decreases-loop-lists
decreases-loop-lists l = length l.bytes - l.at
