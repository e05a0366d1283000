-- `add_end` passes over a free other end. Assumes nothing.
use native.Mathlib.Omega.{arith}
use Rattle.places.proofs.Shape.{other_end_below}
use Rattle.enumeration.proofs.Ends.{end_free, end_fixed}
use Rattle.enumeration.proofs.linear.add_end.Goals as goal

pub bounds-values-t : goal.bounds-values-t
bounds-values-t c =
    omega (arith, other_end_below c.requires.valued.shaped _ c.requires.k_bound c.requires.t_value, c.requires.valued.values_long)

pub returns-then-v-eq2 : goal.returns-then-v-eq2
returns-then-v-eq2 c = end_free _ _ _ _ _ c.requires.t_value c.if-v-eq2.true

pub returns : goal.returns
returns c = end_fixed _ _ _ _ _ c.requires.t_value c.half.ensures c.if-v-eq2.false
