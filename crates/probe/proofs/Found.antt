-- What two probes find holds in every best completion. Assumes nothing.
use Prim.Native.Nat.{ℕ, zero, suc, ◌<◌, ◌≤◌}
use mathlib.Core.Path.{◌≡◌}
use mathlib.Core.List.{List}
use native.Mathlib.Omega.{arith}
use lib.ListN.{length, get_or}
use Rattle.meaning.specs.Field as meaning
use Rattle.meaning.specs.Kinds.{Kind, at_least_one, exactly_one, no_more_than_one, greater_than, less_than, equal, Constraint, joining, Meets}
use Rattle.meaning.specs.Probe.{Probed, Found, both_equal, both_differ, zero_gives_0, zero_gives_1, one_gives_0, one_gives_1}
use Rattle.meaning.proofs.Probe.{probe_value, probe_constraint}
use Rattle.probe.specs.Found.{nothing, value, constraint, found}

same_value : {v w : ℕ} → value v ≡ value w → v ≡ w
same_value e = cc

same_constraint : {c d : Constraint} → constraint c ≡ constraint d → c ≡ d
same_constraint e = cc

-- what is not a value
pub none_value : {w : ℕ} {A : Type 0} → nothing ≡ value w → A
none_value e = let z : ◌≡◌ {A = ℕ} 0 1 = cc in absurd (omega arith)

other_value : {c : Constraint} {w : ℕ} {A : Type 0} → constraint c ≡ value w → A
other_value e = let z : ◌≡◌ {A = ℕ} 0 1 = cc in absurd (omega arith)

pub none_constraint : {c : Constraint} {A : Type 0} → nothing ≡ constraint c → A
none_constraint e = let z : ◌≡◌ {A = ℕ} 0 1 = cc in absurd (omega arith)

value_constraint : {w : ℕ} {c : Constraint} {A : Type 0} → value w ≡ constraint c → A
value_constraint e = let z : ◌≡◌ {A = ℕ} 0 1 = cc in absurd (omega arith)

-- a value is found exactly where both probes give it
pub found_value : (i j v₀ v₁ w : ℕ) → found i j v₀ v₁ ≡ value w → (v₀ ≡ w) × ((v₁ ≡ w) × (w < 2))
unfolding found
found_value i j zero zero w e = let z = same_value e in (z, (z, omega arith))
found_value i j zero (suc zero) w e = other_value e
found_value i j zero (suc (suc b)) w e = other_value e
found_value i j (suc zero) zero w e = other_value e
found_value i j (suc zero) (suc zero) w e = let z = same_value e in (z, (z, omega arith))
found_value i j (suc zero) (suc (suc b)) w e = other_value e
found_value i j (suc (suc a)) zero w e = other_value e
found_value i j (suc (suc a)) (suc zero) w e = other_value e
found_value i j (suc (suc a)) (suc (suc b)) w e = none_value e

-- each finding is one of the table's, between i and j
meets_found : (x : List ℕ) (i j v₀ v₁ : ℕ) → v₀ ≤ 2 → v₁ ≤ 2 → ((k : Kind) → Found v₀ v₁ k → Meets x (joining k i j))
    → (c : Constraint) → found i j v₀ v₁ ≡ constraint c → Meets x c
unfolding found
meets_found x i j zero zero s₀ s₁ met c e = value_constraint e
meets_found x i j zero (suc zero) s₀ s₁ met c e = rw (← same_constraint e) (met equal both_equal)
meets_found x i j zero (suc (suc b)) s₀ s₁ met c e = let z : suc (suc b) ≡ 2 = omega arith in rw (← same_constraint e) (met greater_than (rw z zero_gives_0))
meets_found x i j (suc zero) zero s₀ s₁ met c e = rw (← same_constraint e) (met exactly_one both_differ)
meets_found x i j (suc zero) (suc zero) s₀ s₁ met c e = value_constraint e
meets_found x i j (suc zero) (suc (suc b)) s₀ s₁ met c e =
    let z : suc (suc b) ≡ 2 = omega arith in rw (← same_constraint e) (met at_least_one (rw z zero_gives_1))
meets_found x i j (suc (suc a)) zero s₀ s₁ met c e =
    let z : suc (suc a) ≡ 2 = omega arith in rw (← same_constraint e) (met no_more_than_one (rw z one_gives_0))
meets_found x i j (suc (suc a)) (suc zero) s₀ s₁ met c e = let z : suc (suc a) ≡ 2 = omega arith in rw (← same_constraint e) (met less_than (rw z one_gives_1))
meets_found x i j (suc (suc a)) (suc (suc b)) s₀ s₁ met c e = none_constraint e

-- ---- over whole numbers, in every best completion

module _ {F : meaning.Field} {s x : List ℕ} (st : meaning.Standard F) (long : length s ≡ F.n) (b : meaning.Best F s x) (i : ℕ) (free : get_or s i 0 ≡ 2)
    {t₀ t₁ : List ℕ} (p₀ : Probed F s i 0 t₀) (p₁ : Probed F s i 1 t₁) (j : ℕ) where
  -- a value that both probes give is there
  pub value_holds : (w : ℕ) → found i j (get_or t₀ j 0) (get_or t₁ j 0) ≡ value w → get_or x j 0 ≡ w
  value_holds w e = let z = found_value i j (get_or t₀ j 0) (get_or t₁ j 0) w e in probe_value st long b i free p₀ p₁ j w z.1.1 z.0 z.1.0

  -- a constraint that they give is met
  pub constraint_holds : get_or t₀ j 0 ≤ 2 → get_or t₁ j 0 ≤ 2 → (c : Constraint) → found i j (get_or t₀ j 0) (get_or t₁ j 0) ≡ constraint c → Meets x c
  constraint_holds s₀ s₁ c e = meets_found x i j (get_or t₀ j 0) (get_or t₁ j 0) s₀ s₁ (λ k f. probe_constraint st long b i free p₀ p₁ j f) c e
