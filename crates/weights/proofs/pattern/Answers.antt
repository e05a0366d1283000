-- `weights::pattern` meets its contract. Assumes nothing.
use Rattle.weights.proofs.GrainLaws.{finite_not_nan}
use Rattle.weights.proofs.PatternLaws.{pattern_some}
use Rattle.weights.proofs.pattern.Goals as goal

pub float_to_bits-result : goal.float_to_bits-result
float_to_bits-result c = finite_not_nan _ c.requires

pub returns : goal.returns
returns c = pattern_some _ c.requires
