-- The theorems about the error-free sum, each in one statement. Assumes nothing.
use Prim.Native.Nat.{ℕ, ◌≤◌}
use mathlib.Core.Path.{◌≡◌}
use mathlib.Core.Logic.{◌↔◌}
use mathlib.Core.Bool.{true}
use mathlib.Core.List.{List, []}
use lib.Dec.{T}
use lib.ListN.{length}
use lib.Ieee.{Float, binary64, fits}
use Rattle.whole.specs.Whole.{Whole, ◌⊕◌, Zero}
use Rattle.weights.specs.Worth.{Worth, Small, read}
use Rattle.expansion.specs.Sum.{Expansion, parts, invalid, plus, comes_to_zero}
use Rattle.expansion.specs.Exact.{AllHeld, total, add_all, Totals, Plain}
use Rattle.expansion.specs.Overflow.{Overflows}
use Rattle.expansion.proofs.Exact as exact
use Rattle.expansion.proofs.Ladder as ladder
use Rattle.expansion.proofs.Overflow as overflow

-- One add: the parts, as whole numbers of the unit 2^-1074, come to x more, or a sum has overflowed.
pub one_add : (x : Float) {e : Expansion} {a : Whole} → T (fits binary64 x) → Totals e a → Totals (plus x e) (a ⊕ read 0 x)
one_add = exact.plus_totals

-- Theorem. The parts add up to the true sum of what was added, while no sum has overflowed.
pub parts_add_up : {l : List Float} → AllHeld l → Totals (add_all (parts []) l) (total l)
parts_add_up = ladder.sum_from_none

-- No part is left only where that sum is 0, and where no sum has overflowed exactly there: a rounded sum of zero is not called zero, and a true one is.
pub zero_certain : {l : List Float} → AllHeld l → comes_to_zero (add_all (parts []) l) ≡ true → Zero (total l)
zero_certain = ladder.sum_certain

-- Theorem. Where no sum has overflowed, no part is left exactly if what was added comes to 0.
pub zero_exactly : {l r : List Float} → AllHeld l → add_all (parts []) l ≡ parts r → (comes_to_zero (add_all (parts []) l) ≡ true) ↔ Zero (total l)
zero_exactly = ladder.sum_exactly

-- Theorem. It is invalid exactly if a number added, or an f64 sum on its way, is not finite: nothing else makes it so, and nothing hides it.
pub invalid_exactly : (l : List Float) → (add_all (parts []) l ≡ invalid) ↔ Overflows l
invalid_exactly = overflow.invalid_when

-- Theorem. There is at most one part for each number added.
pub one_part_each : (l : List Float) {r : List Float} → add_all (parts []) l ≡ parts r → length r ≤ length l
one_part_each = overflow.parts_few

-- Where every sum is exact in a unit, as on an exact field, there is never more than one part and no overflow.
pub exact_add : {u : ℕ} {x : Float} {e : Expansion} {a b : Whole} → Plain u e a → Worth u x b → Small a → Small b → Small (a ⊕ b) → Plain u (plus x e) (a ⊕ b)
exact_add = exact.plus_plain

pub exact_zero : {u : ℕ} {e : Expansion} {a : Whole} → Plain u e a → (comes_to_zero e ≡ true) ↔ Zero a
exact_zero = exact.plain_zero
