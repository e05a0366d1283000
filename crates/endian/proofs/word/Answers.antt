-- `word` reads four bytes as the library does. Assumes nothing.
use mathlib.Core.Path.{◌∙◌}
use Rattle.endian.proofs.Numbers.{read_at_lem}
use Rattle.endian.proofs.word.Goals as goal

pub returns : goal.returns
returns c = c.from_le_bytes.ensures ∙ read_at_lem 3 _ _ c.requires c.bytes_at.ensures
