-- A part K of the free variables on which the objective is the same for opposite values. Assumes nothing.
use Rattle.std.specs.Prelude.{◌≡◌, ◌⊎◌, Bool, true, List, map, ℕ, ◌-◌, ◌<◌, get_or, eqb}
use Rattle.whole.specs.Whole.{Whole, ◌⊕◌, only, sum, Zero}
use Rattle.meaning.specs.Field.{Field}

-- What entry k adds to the balance of i: q for each of its ends that is i, and so 2q on the diagonal.
abbrev pub at_ends : Field → ℕ → ℕ → Whole
at_ends F i k = only (eqb (F.row k) i) (F.weight k) ⊕ only (eqb (F.column k) i) (F.weight k)

-- 4c of i plus q of each entry at it, 2q on the diagonal, in units: 0 at every variable of a symmetric part (rule 9.2).
abbrev pub balance : Field → ℕ → Whole
balance F i = F.linear i ⊕ F.linear i ⊕ sum F.m (at_ends F i)

-- The opposite of a choice of values: 1 for each 0, and 0 for each 1.
abbrev pub opposite : List ℕ → List ℕ
opposite = map (λ x. 1 - x)

-- Every member of K is free, no entry but one of weight 0 leaves K, and every balance is 0.
pub record Symmetric (F : Field) (s : List ℕ) (K : ℕ → Bool) : Type 0 where
  pub free : (i : ℕ) → K i ≡ true → get_or s i 0 ≡ 2
  pub inward : (k : ℕ) → k < F.m → (K (F.row k) ≡ K (F.column k)) ⊎ Zero (F.weight k)
  pub balanced : (i : ℕ) → K i ≡ true → Zero (balance F i)
