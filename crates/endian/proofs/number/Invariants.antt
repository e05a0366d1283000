-- `number` reads one byte a turn, the highest first. Assumes nothing.
use Rattle.endian.proofs.Numbers.{Gathered}
use Rattle.endian.proofs.number.Given as goal

abbrev pub invariant-loop-i : goal.invariant-loop-i
invariant-loop-i l = Gathered l.bytes l.at l.width l.value l.i
