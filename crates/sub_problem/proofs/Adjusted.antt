-- What the new linear weights are worth where c is a whole number of units and q of double units. Assumes nothing.
use Prim.Native.Nat.{ℕ, ◌<◌, ◌^◌}
use mathlib.Core.List.{List}
use native.Mathlib.Omega.{arith}
use Rattle.whole.specs.Whole.{◌⊕◌, sum}
use Rattle.whole.proofs.Sums.{sum_under}
use Rattle.weights.specs.Worth.{Worth, read}
use Rattle.weights.proofs.Worth.{add_worth}
use Rattle.field.specs.Field.{Field, variables, entries, linear_of, Shaped, StartFor}
use Rattle.field.proofs.Exact.{weighs_read, weighs_under}
use Rattle.shift.specs.Shifted.{WholeIn}
use Rattle.sub_problem.specs.Reduced.{adjusted}
use Rattle.sub_problem.proofs.Worths.{part, part_under, gathered_worth}

module _ {u : ℕ} {F : Field} {s : List ℕ} (S : Shaped F) (w : WholeIn u F) (start : StartFor (variables F) s) where
  -- THE NEW WEIGHTS: what the entries put in, and c
  pub adjusted_worth : (i : ℕ) → i < variables F → Worth u (adjusted F s i) (sum (entries F) (part u F s i) ⊕ read u (linear_of F i))
  unfolding adjusted
  adjusted_worth i l =
      let under = sum_under (2 ^ 32) (entries F) (part u F s i) (λ j b. part_under S w start i j b) in
      let c = weighs_under (w.linear i l) in
      add_worth (gathered_worth S w start (entries F) (omega arith) i l) (weighs_read (w.linear i l)) (omega (arith, S.few_entries))
