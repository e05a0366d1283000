-- `close` goes over the stages. Assumes nothing.
use Rattle.bit_rows.specs.Rows.{bit_in, Closing}
use Rattle.bit_rows.proofs.close.Given as goal

abbrev pub invariant-loop-k : goal.invariant-loop-k
invariant-loop-k l = Closing (bit_in l.initial.w) l.n l.initial.w l.k l.w
