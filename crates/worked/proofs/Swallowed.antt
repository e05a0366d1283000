-- The swallowed rate over whole numbers: 1,0,1,0 is a best completion, and 0,0,1,1, which the closure gives, is none. Assumes nothing.
use Prim.Native.Nat.{ℕ, zero, suc, ◌<◌}
use mathlib.Core.Path.{◌≡◌, refl}
use mathlib.Core.Logic.{◌⊎◌, inl, inr, ⊎_elim}
use mathlib.Core.List.{List}
use native.Mathlib.Omega.{arith}
use lib.ListN.{get_or}
use Rattle.whole.specs.Whole.{◌⊑◌, sum}
use Rattle.weights.specs.Counts.{plus, minus}
use Rattle.meaning.specs.Field.{twice_f, Best}
use Rattle.worked.specs.Swallowed.{rates, free, best, forced}

zero_or_one : (a : ℕ) → a < 2 → (a ≡ 0) ⊎ (a ≡ 1)
zero_or_one zero h = inl refl
zero_or_one (suc zero) h = inr refl
zero_or_one (suc (suc a)) h = absurd (omega arith)

-- f is linear in the others once the first value is known
least : (y : List ℕ) → ((i : ℕ) → get_or y i 0 < 2) → twice_f rates best ⊑ twice_f rates y
unfolding sum plus minus
least y full =
    ⊎_elim (λ e. rw e (omega (arith, full 1, full 2, full 3))) (λ e. rw e (omega (arith, full 1, full 2, full 3))) (zero_or_one (get_or y 0 0) (full 0))

-- Theorem. 1,0,1,0 is a best completion.
pub swallowed_best : Best rates free best
swallowed_best = record {
  completion = record { extends = record { as_long = refl; kept = kept }; full = full };
  least = λ y c. least y c.full;
}
  where
    kept : (i : ℕ) → (get_or free i 0 ≡ 2) ⊎ (get_or best i 0 ≡ get_or free i 0)
    kept zero = inl refl
    kept (suc zero) = inl refl
    kept (suc (suc zero)) = inl refl
    kept (suc (suc (suc zero))) = inl refl
    kept (suc (suc (suc (suc i)))) = inr refl

    full : (i : ℕ) → get_or best i 0 < 2
    full zero = omega arith
    full (suc zero) = omega arith
    full (suc (suc zero)) = omega arith
    full (suc (suc (suc zero))) = omega arith
    full (suc (suc (suc (suc i)))) = omega arith

-- Theorem. The values that the running sum forces are no best completion's.
pub swallowed_forced : Best rates free forced → ⊥
unfolding sum plus minus
swallowed_forced b = let h = b.least best swallowed_best.completion in omega (arith, h)
