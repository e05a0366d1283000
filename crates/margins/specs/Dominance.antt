-- What a pair's bounds and constraints say of f (rules 8.6 to 8.8). A pattern (a, b) is a value of i and one of j, where true stands for 1;
-- f at the pattern less f at the opposite is counted in units of u, the other values being those of a completion of the start values. Assumes nothing.
use Rattle.std.specs.Prelude.{ℕ, Bool, true, false, List, Float}
use Rattle.whole.specs.Whole.{◌⊑◌}
use Rattle.weights.specs.Worth.{Worth}
use Rattle.meaning.specs.Field.{Completion}
use Rattle.meaning.specs.Pair.{difference, Always}
use Rattle.field.specs.Field.{Field}
use Rattle.field.specs.Reading.{whole_of}
use Rattle.margins.specs.declared.bounds.Bounds.{Bounds}
use Rattle.margins.specs.Exceeds.{Exceeds}
use Rattle.margins.specs.Model.{tolerance}

-- f at the pattern less f at the opposite is above the tolerance whatever the other free variables are
abbrev pub Dominates : ℕ → Field → List ℕ → ℕ → ℕ → Bool → Bool → Type 0
Dominates u F s i j a b = Always (Exceeds u (tolerance F i j)) a b (whole_of u F) s i j

module _ (u : ℕ) (F : Field) (s : List ℕ) (i j : ℕ) where
  -- y is f at the pattern less f at the opposite for some values of the other free variables, and no values give less
  pub record Least (a b : Bool) (y : Float) : Type 0 where
    pub at : List ℕ
    pub completion : Completion s at
    pub worth : Worth u y (difference a b (whole_of u F) at i j)
    pub least : (x : List ℕ) → Completion s x → difference a b (whole_of u F) at i j ⊑ difference a b (whole_of u F) x i j

  -- y is f at the pattern less f at the opposite for some values of the other free variables, and no values give more.
  pub record Greatest (a b : Bool) (y : Float) : Type 0 where
    pub at : List ℕ
    pub completion : Completion s at
    pub worth : Worth u y (difference a b (whole_of u F) at i j)
    pub greatest : (x : List ℕ) → Completion s x → difference a b (whole_of u F) x i j ⊑ difference a b (whole_of u F) at i j

  -- the four bounds: the least and the greatest of f at 11 less f at 00, and of f at 10 less f at 01
  pub record Four (b : Bounds) : Type 0 where
    pub sumLow : Least true true b.sumLow
    pub sumHigh : Greatest true true b.sumHigh
    pub diffLow : Least true false b.diffLow
    pub diffHigh : Greatest true false b.diffHigh
