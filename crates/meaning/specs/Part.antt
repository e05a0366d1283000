-- A part K of the variables that can be completed by itself, and values that some best completion has. Assumes nothing.
use Rattle.std.specs.Prelude.{◌≡◌, ◌⊎◌, ◌≢◌, Bool, false, cond, List, [], ◌∷◌, ℕ, zero, suc, ◌<◌, get_or}
use Rattle.whole.specs.Whole.{◌⊑◌, Zero}
use Rattle.meaning.specs.Steps.{Extends}
use Rattle.meaning.specs.Field.{Field, twice_f, Completion, Best}

-- y on K, x elsewhere
abbrev pub mix : (ℕ → Bool) → List ℕ → List ℕ → List ℕ
mix K [] [] = []
mix K [] (x ∷ xs) = []
mix K (y ∷ ys) [] = []
mix K (y ∷ ys) (x ∷ xs) = cond (K zero) y x ∷ mix (λ i. K (suc i)) ys xs

-- an entry that leaves K ends in a place that s fixes
abbrev pub Separate : Field → List ℕ → (ℕ → Bool) → Type 0
Separate F s K = (k : ℕ) → k < F.m → (K (F.row k) ≡ K (F.column k)) ⊎ ((get_or s (F.row k) 0 ≢ 2) ⊎ (get_or s (F.column k) 0 ≢ 2))

-- y is a completion, and none that differs from it on K alone has a smaller objective
pub record LeastOn (F : Field) (s : List ℕ) (K : ℕ → Bool) (y : List ℕ) : Type 0 where
  pub completion : Completion s y
  pub least : (z : List ℕ) → Completion s z → ((i : ℕ) → K i ≡ false → get_or z i 0 ≡ get_or y i 0) → twice_f F y ⊑ twice_f F z

-- some best completion has all values of t
pub record Safe (F : Field) (s t : List ℕ) : Type 0 where
  pub extends : Extends s t
  pub witness : List ℕ
  pub best : Best F s witness
  pub agrees : Extends t witness

-- no entry is at i, and its weight is 0 (rule 5.9)
pub record NoEffect (F : Field) (i : ℕ) : Type 0 where
  pub weightless : Zero (F.linear i)
  pub apart : (k : ℕ) → k < F.m → (F.row k ≢ i) × (F.column k ≢ i)
