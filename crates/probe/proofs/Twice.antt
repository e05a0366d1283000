-- What two calls of `probe_one`, at 0 and at 1, find on an exact field holds in every best completion. Assumes nothing.
use Prim.Native.Nat.{ℕ, ◌<◌}
use mathlib.Core.Path.{◌≡◌, sym, ◌∙◌}
use mathlib.Core.Logic.{◌≢◌}
use mathlib.Core.List.{List}
use native.Mathlib.Decide.{ℕ_discrete}
use lib.ListN.{get_or, set}
use lib.Ieee.{Float}
use Rattle.meaning.specs.Field.{Best}
use Rattle.meaning.specs.Kinds.{Constraint, Meets}
use Rattle.meaning.specs.Probe.{Probed}
use Rattle.field.specs.declared.Grade.TheVariants.{Exact}
use Rattle.field.specs.Field.{Field, variables}
use Rattle.field.specs.Grade.{Serves}
use Rattle.field.specs.Reading.{whole_of}
use Rattle.run.specs.Run.{closure}
use Rattle.run.proofs.Theorems as run
use Rattle.probe.specs.Call.{probe_one_call}
use Rattle.probe.specs.Found.{nothing, value, constraint, found}
use Rattle.probe.proofs.Found.{none_value, none_constraint, value_holds, constraint_holds}
use Rattle.probe.proofs.Demands.{exact_field, probable, start_with, found_at, start_left_out}
use Rattle.std.specs.Prelude.{Ok}

-- where neither probe gives a value nothing is found
none_found : (i j : ℕ) {v₀ v₁ : ℕ} → v₀ ≡ 2 → v₁ ≡ 2 → found i j v₀ v₁ ≡ nothing
unfolding found
none_found i j e₀ e₁ = rw (e₀, e₁)

module _ (F : Field) (s : List ℕ) (i : ℕ) (t₀ t₁ : List ℕ) (f₀ f₁ : List Float) (u₀ u₁ : List ℕ)
    (e₀ : (probe_one_call F s i 0 t₀ f₀ u₀).answer ≡ Ok Exact) (e₁ : (probe_one_call F s i 1 t₁ f₁ u₁).answer ≡ Ok Exact)
    {unit : ℕ} (serving : Serves unit F) {x : List ℕ} (best : Best (whole_of unit F) s x) (j : ℕ) (below : j < variables F) where
  probed₀ : Probed (whole_of unit F) s i 0 (closure F (set s i 0))
  probed₀ = let y = exact_field F s i 0 t₀ f₀ u₀ e₀ in run.closure_is_closure y.0 serving.exact (start_with F s i 0 t₀ f₀ u₀ Exact e₀)

  probed₁ : Probed (whole_of unit F) s i 1 (closure F (set s i 1))
  probed₁ = let y = exact_field F s i 1 t₁ f₁ u₁ e₁ in run.closure_is_closure y.0 serving.exact (start_with F s i 1 t₁ f₁ u₁ Exact e₁)

  -- the value of a free variable is the closure's
  same_found : get_or s j 0 ≡ 2 → found i j (get_or (probe_one_call F s i 0 t₀ f₀ u₀).lent.values j 0) (get_or (probe_one_call F s i 1 t₁ f₁ u₁).lent.values j 0)
      ≡ found i j (get_or (closure F (set s i 0)) j 0) (get_or (closure F (set s i 1)) j 0)
  same_found h = rw (found_at F s i 0 t₀ f₀ u₀ Exact e₀ j below h, found_at F s i 1 t₁ f₁ u₁ Exact e₁ j below h)

  -- at a start value nothing is found
  no_found : get_or s j 0 ≢ 2 → found i j (get_or (probe_one_call F s i 0 t₀ f₀ u₀).lent.values j 0) (get_or (probe_one_call F s i 1 t₁ f₁ u₁).lent.values j 0) ≡ nothing
  no_found ne = none_found i j (start_left_out F s i 0 t₀ f₀ u₀ Exact e₀ j below ne) (start_left_out F s i 1 t₁ f₁ u₁ Exact e₁ j below ne)

  pub best_has_value : (w : ℕ) → found i j (get_or (probe_one_call F s i 0 t₀ f₀ u₀).lent.values j 0) (get_or (probe_one_call F s i 1 t₁ f₁ u₁).lent.values j 0) ≡ value w → get_or x j 0 ≡ w
  best_has_value w e = go (ℕ_discrete (get_or s j 0) 2)
    where
      go : Dec (get_or s j 0 ≡ 2) → get_or x j 0 ≡ w
      go (yes h) =
          let p = probable F s i 0 t₀ f₀ u₀ Exact e₀ in
          value_holds serving.exact.standard p.ready.sound.start.long best i p.free probed₀ probed₁ j w (sym (same_found h) ∙ e)
      go (no ne) = none_value (sym (no_found ne) ∙ e)

  pub best_meets : (c : Constraint) → found i j (get_or (probe_one_call F s i 0 t₀ f₀ u₀).lent.values j 0) (get_or (probe_one_call F s i 1 t₁ f₁ u₁).lent.values j 0) ≡ constraint c → Meets x c
  best_meets c e = go (ℕ_discrete (get_or s j 0) 2)
    where
      go : Dec (get_or s j 0 ≡ 2) → Meets x c
      go (yes h) =
          let p = probable F s i 0 t₀ f₀ u₀ Exact e₀ in
          constraint_holds serving.exact.standard p.ready.sound.start.long best i p.free probed₀ probed₁ j
          ((run.closure_valid F (start_with F s i 0 t₀ f₀ u₀ Exact e₀)).small j) ((run.closure_valid F (start_with F s i 1 t₁ f₁ u₁ Exact e₁)).small j) c (sym (same_found h) ∙ e)
      go (no ne) = none_constraint (sym (no_found ne) ∙ e)
