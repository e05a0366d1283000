-- `add_block` leaves the sums where the last mask of the block lacks a required bit, and else goes by the last five bits. Assumes nothing.
use Rattle.masks.proofs.Summing.{none_has, by_low}
use Rattle.masks.proofs.add_block.Goals as goal

pub returns-then-base-bits : goal.returns-then-base-bits
returns-then-base-bits c = none_has c.requires.sums_len c.requires.base_value c.if-base-bits.true

pub returns : goal.returns
returns c = by_low c.requires.base_value c.if-base-bits.false c.add_low.ensures
