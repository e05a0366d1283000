-- `join` sets one word a turn. Assumes nothing.
use Rattle.bit_rows.specs.Rows.{Joining}
use Rattle.bit_rows.proofs.join.Given as goal

abbrev pub invariant-loop-t : goal.invariant-loop-t
invariant-loop-t l = Joining l.a l.k l.initial.w l.t l.w
