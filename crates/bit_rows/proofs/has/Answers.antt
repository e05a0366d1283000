-- `has` reads a binary digit. Assumes nothing.
use Prim.Native.Nat.{◌%◌}
use lib.ListN.{get_or}
use Rattle.bit_rows.specs.Rows.{word_of, bit_in}
use Rattle.bit_rows.proofs.Bits.{read_digit}
use Rattle.bit_rows.proofs.has.Goals as goal

pub returns : goal.returns
unfolding bit_in
returns c = read_digit (get_or c.args.w.now (word_of c.args.a c.args.b) 0) (c.args.b % 64)
