-- What two probes of a variable say of every best completion. Assumes nothing.
use mathlib.Core.Path.{◌≡◌, ◌∙◌}
use mathlib.Core.Logic.{◌⊎◌, ⊎_elim}
use mathlib.Core.List.{List}
use Prim.Native.Nat.{ℕ, ◌<◌}
use native.Mathlib.Omega.{arith}
use lib.ListN.{length, get_or, set, length-set}
use Rattle.meaning.specs.Steps.{Extends}
use Rattle.meaning.specs.Field.{Field, Standard, Best}
use Rattle.meaning.specs.Kinds.{Kind, Forbids, Meets}
use Rattle.meaning.specs.Probe.{Probed, Found, both_equal, both_differ, zero_gives_0, zero_gives_1, one_gives_0, one_gives_1}
use Rattle.meaning.proofs.Values.{zero_or_one, fixed, extends_trans, extends_set, extends_fixed}
use Rattle.meaning.proofs.Forbidden.{only_pair, either_pair}
use Rattle.meaning.proofs.Sound.{best_has_closure}

-- the probes give j the values a and b, x has c at i and d at j, and obeys the probe at its value: no pair forbidden by what is found
impossible : {a b c d : ℕ} {k : Kind} → Found a b k → (c ≡ 0 → (a ≡ 2) ⊎ (d ≡ a)) → (c ≡ 1 → (b ≡ 2) ⊎ (d ≡ b)) → Forbids k c d → ⊥
impossible both_equal h₀ h₁ m = ⊎_elim (λ e. omega (arith, fixed (h₀ e.first) (omega arith))) (λ e. omega (arith, fixed (h₁ e.first) (omega arith))) (either_pair m)
impossible both_differ h₀ h₁ m = ⊎_elim (λ e. omega (arith, fixed (h₀ e.first) (omega arith))) (λ e. omega (arith, fixed (h₁ e.first) (omega arith))) (either_pair m)
impossible zero_gives_0 h₀ h₁ m = let e = only_pair m in omega (arith, fixed (h₀ e.first) (omega arith))
impossible zero_gives_1 h₀ h₁ m = let e = only_pair m in omega (arith, fixed (h₀ e.first) (omega arith))
impossible one_gives_0 h₀ h₁ m = let e = only_pair m in omega (arith, fixed (h₁ e.first) (omega arith))
impossible one_gives_1 h₀ h₁ m = let e = only_pair m in omega (arith, fixed (h₁ e.first) (omega arith))

module _ {F : Field} {s x : List ℕ} (st : Standard F) (long : length s ≡ F.n) (b : Best F s x) (i : ℕ) (free : get_or s i 0 ≡ 2) where
  -- a best completion is best among those that share its value at i
  best_there : (v : ℕ) → get_or x i 0 ≡ v → Best F (set s i v) x
  best_there v e =
      record {
        completion = record { extends = extends_fixed b.completion.extends i v free e; full = b.completion.full };
        least = λ y c. b.least y (record { extends = extends_trans (extends_set s i v free) c.extends; full = c.full });
      }

  -- a best completion with v at i has each value of the probe of i at v
  pub best_has_probe : (v : ℕ) {t : List ℕ} → Probed F s i v t → get_or x i 0 ≡ v → Extends t x
  best_has_probe v p e = best_has_closure st (length-set s i v ∙ long) p.reached (best_there v e)

  module _ {t₀ t₁ : List ℕ} (p₀ : Probed F s i 0 t₀) (p₁ : Probed F s i 1 t₁) (j : ℕ) where
    -- where both probes give j one value, every best completion has it
    pub probe_value : (w : ℕ) → w < 2 → get_or t₀ j 0 ≡ w → get_or t₁ j 0 ≡ w → get_or x j 0 ≡ w
    probe_value w small e₀ e₁ = ⊎_elim (at p₀ e₀) (at p₁ e₁) (zero_or_one (b.completion.full i))
      where
        at : {v : ℕ} {t : List ℕ} → Probed F s i v t → get_or t j 0 ≡ w → get_or x i 0 ≡ v → get_or x j 0 ≡ w
        at {v = v} p e h = fixed ((best_has_probe v p h).kept j) (omega arith) ∙ e

    -- every best completion meets each constraint found
    pub probe_constraint : {k : Kind} → Found (get_or t₀ j 0) (get_or t₁ j 0) k → Meets x (record { first = i; second = j; kind = k })
    probe_constraint f = impossible f (λ e. (best_has_probe 0 p₀ e).kept j) (λ e. (best_has_probe 1 p₁ e).kept j)
