-- `plus` adds the value if the mask has the required bits. Assumes nothing.
use Rattle.masks.proofs.Summing.{plus_has, plus_lacks}
use Rattle.masks.proofs.plus.Goals as goal

pub returns-then-mask-bits : goal.returns-then-mask-bits
returns-then-mask-bits c = plus_has _ _ _ _ c.if-mask-bits.true

pub returns : goal.returns
returns c = plus_lacks _ _ _ _ c.if-mask-bits.false
