-- What the lists of the probe calls mean (rules 7.4 to 7.6), over whole numbers, and over the floats of any field. Assumes nothing.
use Rattle.std.specs.Prelude.{ℕ, ◌<◌, ◌≡◌, ◌≢◌, get_or}
use mathlib.Core.List.{List, Memᴰ}
use Rattle.meaning.specs.Field as meaning
use Rattle.meaning.specs.Kinds.{Kind, Pair, Constraint, joining}
use Rattle.meaning.specs.Records.{Excludes}
use Rattle.meaning.specs.Probe.{Probed, Found}
use Rattle.field.specs.Field.{Field, variables}
use Rattle.probe.specs.Found.{value, constraint}
use Rattle.finding.specs.Finds.{finding}

-- every candidate is free
abbrev pub FreeCandidates : List ℕ → List ℕ → Type 0
FreeCandidates s cands = (i : ℕ) → Memᴰ i cands → get_or s i 0 ≡ 2

-- c is the constraint of a kind of the table, where the probes of i give j a and b
pub record Tabled (i j a b : ℕ) (c : Constraint) : Type 0 where
  pub kind : Kind
  pub finds : Found a b kind
  pub is : c ≡ joining kind i j

-- ---- over whole numbers

-- j is a free variable other than i, and the probes of i at 0 and at 1 give it a and b, 2 for none
pub record BothGive (G : meaning.Field) (s : List ℕ) (i j a b : ℕ) : Type 0 where
  pub other : i ≢ j
  pub below : j < G.n
  pub free : get_or s j 0 ≡ 2
  pub closed₀ : List ℕ
  pub closed₁ : List ℕ
  pub probed₀ : Probed G s i 0 closed₀
  pub probed₁ : Probed G s i 1 closed₁
  pub gives₀ : get_or closed₀ j 0 ≡ a
  pub gives₁ : get_or closed₁ j 0 ≡ b

-- the constraint that the probes of a candidate find with another variable forbids that i and j, the lower first, have the values p, where C
-- says what a candidate is
pub record Given (G : meaning.Field) (s : List ℕ) (C : ℕ → Type 0) (i j : ℕ) (p : Pair) : Type 0 where
  pub candidate : ℕ
  pub chosen : C candidate
  pub variable : ℕ
  pub at_zero : ℕ
  pub at_one : ℕ
  pub both : BothGive G s candidate variable at_zero at_one
  pub kind : Kind
  pub finds : Found at_zero at_one kind
  pub order : i < j
  pub excludes : Excludes (joining kind candidate variable) i p.first j p.second

-- where both probes of i give another variable j the same value, that is a probe value
pub record GivesValue (G : meaning.Field) (s : List ℕ) (i j w : ℕ) : Type 0 where
  pub small : w < 2
  pub both : BothGive G s i j w w

-- ---- over the floats of any field

-- a constraint that the executable rule finds forbids that i and j, the lower first, have the values p
pub record Finds (F : Field) (s cands : List ℕ) (i j : ℕ) (p : Pair) : Type 0 where
  pub candidate : ℕ
  pub chosen : Memᴰ candidate cands
  pub variable : ℕ
  pub below : variable < variables F
  pub said : Constraint
  pub finds : finding F s candidate variable ≡ constraint said
  pub order : i < j
  pub excludes : Excludes said i p.first j p.second

-- i gives j the value w by the executable rule
abbrev pub FindsValue : Field → List ℕ → ℕ → ℕ → ℕ → Type 0
FindsValue F s i j w = finding F s i j ≡ value w

-- ---- the later one wins

-- of the first `count` candidates the last that gives a value gives w, where R i v says that i gives v
pub record LastGives (R : ℕ → ℕ → Type 0) (cands : List ℕ) (count w : ℕ) : Type 0 where
  pub turn : ℕ
  pub within : turn < count
  pub gives : R (get_or cands turn 0) w
  pub later_none : (k v : ℕ) → turn < k → k < count → R (get_or cands k 0) v → ⊥

-- None of the first `count` candidates gives any value.
pub record NoneGives (R : ℕ → ℕ → Type 0) (cands : List ℕ) (count : ℕ) : Type 0 where
  pub none : (k v : ℕ) → k < count → R (get_or cands k 0) v → ⊥

-- where the candidates are all free variables, rising: the greatest that gives a value gives w
pub record GreatestGives (R : ℕ → ℕ → Type 0) (s : List ℕ) (w : ℕ) : Type 0 where
  pub candidate : ℕ
  pub free : get_or s candidate 0 ≡ 2
  pub gives : R candidate w
  pub later_none : (i v : ℕ) → candidate < i → get_or s i 0 ≡ 2 → R i v → ⊥

-- no free variable gives any
pub record NoFreeGives (R : ℕ → ℕ → Type 0) (s : List ℕ) : Type 0 where
  pub none : (i v : ℕ) → get_or s i 0 ≡ 2 → R i v → ⊥
