-- What it is for a pair of values to be forbidden. Assumes nothing.
use mathlib.Core.Path.{◌≡◌, ap}
use mathlib.Core.Logic.{◌⊎◌, inl, inr, ⊎_elim}
use mathlib.Core.List.Memᴰ
use mathlib.Core.List.{[], ◌∷◌, Memᴰ}
use Prim.Native.Nat.{◌<◌}
use native.Mathlib.Omega.{arith}
use Rattle.meaning.specs.Kinds.{Kind, at_least_one, exactly_one, no_more_than_one, greater_than, less_than, equal, Pair, forbidden}

-- p has the values of q
pub record Same (p q : Pair) : Type 0 where
  pub first : p.first ≡ q.first
  pub second : p.second ≡ q.second

same : {p q : Pair} → p ≡ q → Same p q
same e = record { first = ap (λ (z : Pair). z.first) e; second = ap (λ (z : Pair). z.second) e }

pub only_pair : {p q : Pair} → Memᴰ p (q ∷ []) → Same p q
only_pair m = same (Memᴰ.eq_of_singleton m)

pub either_pair : {p q r : Pair} → Memᴰ p (q ∷ r ∷ []) → Same p q ⊎ Same p r
either_pair m = ⊎_elim (λ e. inl (same e)) (λ l. inr (only_pair l)) (Memᴰ.cases_cons m)

-- each value of a forbidden pair is 0 or 1
pub record Small (p : Pair) : Type 0 where
  pub first : p.first < 2
  pub second : p.second < 2

pub forbidden_small : (k : Kind) {p : Pair} → Memᴰ p (forbidden k) → Small p
forbidden_small at_least_one m = let e = only_pair m in record { first = omega arith; second = omega arith }
forbidden_small exactly_one m = ⊎_elim (λ e. record { first = omega arith; second = omega arith }) (λ e. record { first = omega arith; second = omega arith }) (either_pair m)
forbidden_small no_more_than_one m = let e = only_pair m in record { first = omega arith; second = omega arith }
forbidden_small greater_than m = let e = only_pair m in record { first = omega arith; second = omega arith }
forbidden_small less_than m = let e = only_pair m in record { first = omega arith; second = omega arith }
forbidden_small equal m = ⊎_elim (λ e. record { first = omega arith; second = omega arith }) (λ e. record { first = omega arith; second = omega arith }) (either_pair m)
