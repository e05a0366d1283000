-- Laws of terms that tests pick, beyond those of `whole`. Assumes nothing.
use mathlib.Core.Path.{◌≡◌, refl}
use mathlib.Core.Bool.{Bool, true, false}
use Prim.Native.Nat.{ℕ}
use native.Mathlib.Omega.{arith}
use Rattle.whole.specs.Whole.{Whole, ◌⊕◌, only, sum, ◌≈◌}
use Rattle.whole.proofs.Sums.{sum_nothing}

pub only_swap : (a b : Bool) (q : Whole) → only a (only b q) ≡ only b (only a q)
only_swap true b q = refl
only_swap false true q = refl
only_swap false false q = refl

pub only_add : (b : Bool) (p q : Whole) → only b (p ⊕ q) ≡ only b p ⊕ only b q
only_add true p q = refl
only_add false p q = refl

pub only_sum : (b : Bool) (n : ℕ) (g : ℕ → Whole) → only b (sum n g) ≈ sum n (λ k. only b (g k))
only_sum true n g = omega arith
only_sum false n g = omega (arith, sum_nothing n)
