-- `parse` notes one record a turn. Assumes nothing.
use Prim.Native.Nat.{◌-◌}
use lib.ListN.{length}
use Rattle.records.specs.Parsing.{told_by, SameLent}
use Rattle.records.proofs.Loop.{Reads}
use Rattle.records.proofs.parsing.parse.Given as goal

abbrev pub invariant-loop-next : goal.invariant-loop-next
invariant-loop-next l = record {
  same_lent : SameLent l.initial.lists l.lists;
  reads : Reads l.bytes (told_by l.initial.lists) (told_by l.lists) l.t;
}

abbrev pub decreases-loop-next : goal.decreases-loop-next
decreases-loop-next l = length l.bytes - l.t.at
