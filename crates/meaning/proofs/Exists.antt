-- Every list of values has a best completion. Assumes nothing.
use mathlib.Core.Path.{◌≡◌, refl, ap}
use mathlib.Core.Logic.{◌⊎◌, inl, inr, ⊎_elim}
use mathlib.Core.List.{List, [], ◌∷◌}
use Prim.Native.Nat.{ℕ, zero, suc, ◌+◌, ◌<◌}
use native.Mathlib.Decide.{dec_le}
use native.Mathlib.Nat.{suc_inj}
use native.Mathlib.Omega.{arith}
use lib.ListN.{get_or}
use Rattle.whole.specs.Whole.{Whole, ◌⊑◌}
use Rattle.meaning.specs.Steps.{Valid}
use Rattle.meaning.specs.Field.{Field, twice_f, Completion, Best}
use Rattle.meaning.proofs.Values.{extends_refl}

-- a completion of v ∷ s is a value for v, and a completion of s
build : {v w : ℕ} {s x : List ℕ} → (v ≡ 2) ⊎ (w ≡ v) → w < 2 → Completion s x → Completion (v ∷ s) (w ∷ x)
build {v} {w} {s} {x} h small c = record { extends = record { as_long = ap suc c.extends.as_long; kept = kept }; full = full }
  where
    kept : (i : ℕ) → (get_or (v ∷ s) i 0 ≡ 2) ⊎ (get_or (w ∷ x) i 0 ≡ get_or (v ∷ s) i 0)
    kept zero = h
    kept (suc i) = c.extends.kept i

    full : (i : ℕ) → get_or (w ∷ x) i 0 < 2
    full zero = small
    full (suc i) = c.full i

rest : {v w : ℕ} {s x : List ℕ} → Completion (v ∷ s) (w ∷ x) → Completion s x
rest c = record { extends = record { as_long = suc_inj c.extends.as_long; kept = λ i. c.extends.kept (suc i) }; full = λ i. c.full (suc i) }

-- x is a completion of s, and none has a smaller g
pub record Least (g : List ℕ → Whole) (s x : List ℕ) : Type 0 where
  pub completion : Completion s x
  pub least : (y : List ℕ) → Completion s y → g x ⊑ g y

module _ (g : List ℕ → Whole) (s : List ℕ) where
  -- at a fixed place
  at_fixed : {v : ℕ} {x : List ℕ} → v < 2 → Least (λ y. g (v ∷ y)) s x → Least g (v ∷ s) (v ∷ x)
  at_fixed {v} {x} small l = record { completion = build (inr refl) small l.completion; least = least }
    where
      least : (y : List ℕ) → Completion (v ∷ s) y → g (v ∷ x) ⊑ g y
      least [] c = omega (arith, c.extends.as_long)
      least (w ∷ y) c = ⊎_elim (λ e. omega arith) (λ e. rw e (l.least y (rest c))) (c.extends.kept zero)

  -- at a free place, from the better of two
  at_free : {x₀ x₁ : List ℕ} → Least (λ y. g (0 ∷ y)) s x₀ → Least (λ y. g (1 ∷ y)) s x₁ → (x : List ℕ) × Least g (2 ∷ s) x
  at_free {x₀} {x₁} l₀ l₁ = go (dec_le ((g (0 ∷ x₀)).plus + (g (1 ∷ x₁)).less) ((g (1 ∷ x₁)).plus + (g (0 ∷ x₀)).less))
    where
      one_of : (x : List ℕ) → g x ⊑ g (0 ∷ x₀) → g x ⊑ g (1 ∷ x₁) → (y : List ℕ) → Completion (2 ∷ s) y → g x ⊑ g y
      one_of x a b [] c = omega (arith, c.extends.as_long)
      one_of x a b (zero ∷ y) c = omega (arith, l₀.least y (rest c))
      one_of x a b (suc zero ∷ y) c = omega (arith, l₁.least y (rest c))
      one_of x a b (suc (suc w) ∷ y) c = omega (arith, c.full zero)

      go : Dec (g (0 ∷ x₀) ⊑ g (1 ∷ x₁)) → (x : List ℕ) × Least g (2 ∷ s) x
      go (yes h) = (0 ∷ x₀, record { completion = build (inl refl) (omega arith) l₀.completion; least = one_of _ (omega arith) h })
      go (no h) = (1 ∷ x₁, record { completion = build (inl refl) (omega arith) l₁.completion; least = one_of _ (omega arith) (omega arith) })

least_exists : (s : List ℕ) → Valid s → (g : List ℕ → Whole) → (x : List ℕ) × Least g s x
least_exists [] valid g = ([], record { completion = record { extends = extends_refl []; full = λ i. omega arith }; least = least })
  where
    least : (y : List ℕ) → Completion [] y → g [] ⊑ g y
    least [] c = omega arith
    least (w ∷ y) c = omega (arith, c.extends.as_long)
least_exists (zero ∷ s) valid g = let r = least_exists s (λ i. valid (suc i)) (λ y. g (0 ∷ y)) in (0 ∷ r.0, at_fixed g s (omega arith) r.1)
least_exists (suc zero ∷ s) valid g = let r = least_exists s (λ i. valid (suc i)) (λ y. g (1 ∷ y)) in (1 ∷ r.0, at_fixed g s (omega arith) r.1)
least_exists (suc (suc zero) ∷ s) valid g = at_free g s (least_exists s (λ i. valid (suc i)) (λ y. g (0 ∷ y))).1 (least_exists s (λ i. valid (suc i)) (λ y. g (1 ∷ y))).1
least_exists (suc (suc (suc v)) ∷ s) valid g = absurd (omega (arith, valid zero))

pub best_exists : (F : Field) (s : List ℕ) → Valid s → (x : List ℕ) × Best F s x
best_exists F s valid = let r = least_exists s valid (twice_f F) in (r.0, record { completion = r.1.completion; least = r.1.least })
