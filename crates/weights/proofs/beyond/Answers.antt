-- `weights::beyond` meets its contract. Assumes nothing.
use mathlib.Core.Path.{ap}
use Prim.Native.Nat.{ℕ, ◌+◌, ◌/◌, ◌%◌}
use native.Mathlib.Omega.{arith}
use lib.Count.{count_trailing_zeros, trailing_le}
use Rattle.weights.specs.Pattern.{lead, beyond}
use Rattle.weights.proofs.PatternLaws.{at_zero_small}
use Rattle.weights.proofs.beyond.Goals as goal

pub overflow_cast-result : goal.overflow_cast-result
overflow_cast-result c = omega (arith, trailing_le 64 (c.args.b % lead + lead))

pub overflow_add-result-2 : goal.overflow_add-result-2
overflow_add-result-2 c = omega (arith, trailing_le 64 (c.args.b % lead + lead))

pub overflow_add-result-3 : goal.overflow_add-result-3
overflow_add-result-3 c = omega (arith, trailing_le 64 (c.args.b % lead + lead), at_zero_small c.args.b, c.at_zero.ensures)

pub returns : goal.returns
unfolding beyond
returns c = ap (λ (z : ℕ). c.args.b / lead + count_trailing_zeros 64 (c.args.b % lead + lead) + z) c.at_zero.ensures
