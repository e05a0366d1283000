-- `pass` goes over the rows. Assumes nothing.
use Rattle.bit_rows.specs.Rows.{bit_in, Staging}
use Rattle.bit_rows.proofs.pass.Given as goal

abbrev pub invariant-loop-a : goal.invariant-loop-a
invariant-loop-a l = Staging (bit_in l.initial.w) l.k l.n l.initial.w l.a l.w
