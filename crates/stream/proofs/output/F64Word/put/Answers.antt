-- The bits are read of a weight that is no NaN. Assumes nothing.
use Rattle.stream.proofs.NotNan.{not_nan}
use Rattle.stream.proofs.output.F64Word.put.Goals as goal

pub float_to_bits-bits : goal.float_to_bits-bits
float_to_bits-bits c = not_nan _ c.if-self.false
