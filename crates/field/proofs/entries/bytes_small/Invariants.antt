-- `bytes_small` tests one byte a turn. Assumes nothing.
use lib.Dec.{leb}
use lib.ListN.{length, get_or}
use Rattle.scratch.specs.All.{Testing}
use Rattle.field.proofs.entries.bytes_small.Given as goal

abbrev pub invariant-loop-byte : goal.invariant-loop-byte
invariant-loop-byte l = Testing (λ j. leb (get_or l.s j 0) 2) (length l.s) l.byte-index l.small
