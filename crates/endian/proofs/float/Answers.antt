-- `float` reads 8 bytes, a NaN as an infinity less itself. Assumes nothing.
use mathlib.Core.Path.{ap, ◌∙◌}
use lib.Ieee.{binary64, of_bits, nan_bits}
use Rattle.endian.specs.Bytes.{float_at}
use Rattle.endian.proofs.Numbers.{read_at_lem, nan_read, no_nan}
use Rattle.endian.proofs.float.Goals as goal

pub float_from_bits-top : goal.float_from_bits-top
unfolding nan_bits
float_from_bits-top c = tt

pub returns-then-bits-gt-TOP : goal.returns-then-bits-gt-TOP
returns-then-bits-gt-TOP c = nan_read _ _ (c.from_le_bytes-bits.ensures ∙ read_at_lem 7 _ _ c.requires c.bytes_at.ensures) c.if-bits-gt-TOP.true

pub float_from_bits-result : goal.float_from_bits-result
float_from_bits-result c = no_nan _ c.if-bits-gt-TOP.false

pub returns : goal.returns
unfolding float_at
returns c = ap (of_bits binary64) (c.from_le_bytes-bits.ensures ∙ read_at_lem 7 _ _ c.requires c.bytes_at.ensures)
