-- Two weights are compared by cases. Assumes nothing.
use mathlib.Core.Path.{refl}
use Rattle.stream.specs.Lists.{same_weight}
use Rattle.stream.proofs.NotNan.{not_nan}
use Rattle.stream.proofs.lists.F64Element.is_same.Goals as goal

pub returns-then-self : goal.returns-then-self
returns-then-self c = unfold same_weight in (rw c.if-self.true)

pub returns-then-other : goal.returns-then-other
returns-then-other c = unfold same_weight in (rw c.if-self.false (rw c.if-other.true refl))

pub float_to_bits-result : goal.float_to_bits-result
float_to_bits-result c = not_nan _ c.if-self.false

pub float_to_bits-result-2 : goal.float_to_bits-result-2
float_to_bits-result-2 c = not_nan _ c.if-other.false

pub returns : goal.returns
returns c = unfold same_weight in (rw c.if-self.false (rw c.if-other.false refl))
