-- What a component is: the variables that a start reaches through entries that join, by way of open variables. Assumes nothing.
use Rattle.std.specs.Prelude.{ℕ, ◌<◌, ◌≤◌, ◌≡◌, ◌⊎◌, ◌≢◌, Bool, true, false, ◌||◌, List, [], ◌∷◌, eqb, length, get_or}
use Rattle.field.specs.Field.{Field, variables, entries, row_end, column_end}
use Rattle.parts.specs.Walk.{joins}

-- Whether variable i is in the list.
unfoldable pub has : List ℕ → ℕ → Bool
has [] i = false
has (j ∷ l) i = eqb j i || has l i

-- No element stands in the list twice.
unfoldable pub Apart : List ℕ → Type 0
Apart [] = Unit {0}
Apart (j ∷ l) = (has l j ≡ false) × Apart l

-- Variable i is open in the marks: not seen, and not barred.
abbrev pub Open : List ℕ → ℕ → Type 0
Open marks i = get_or marks i 0 ≡ 2

-- an entry that joins has the ends i and j
pub record Joined (F : Field) (zeros : Bool) (i j : ℕ) : Type 0 where
  pub entry : ℕ
  pub below : entry < entries F
  pub joining : joins F zeros entry ≡ true
  pub ends : ((row_end F entry ≡ i) × (column_end F entry ≡ j)) ⊎ ((row_end F entry ≡ j) × (column_end F entry ≡ i))

-- i is the start, or an entry that joins leads to it from a variable that is reached; all of them are open
pub data Reaches (F : Field) (zeros : Bool) (marks : List ℕ) (start : ℕ) : ℕ → Type 0 where
  here : {i : ℕ} → i ≡ start → Open marks start → Reaches F zeros marks start i
  there : {i j : ℕ} → Reaches F zeros marks start i → Joined F zeros i j → Open marks j → Reaches F zeros marks start j

-- the members are the component of the start, each once
pub record Component (F : Field) (zeros : Bool) (marks : List ℕ) (start : ℕ) (members : List ℕ) : Type 0 where
  pub apart : Apart members
  pub reached : (i : ℕ) → has members i ≡ true → Reaches F zeros marks start i
  pub all : (i : ℕ) → Reaches F zeros marks start i → has members i ≡ true

-- ---- one component after another

-- marks are what walks from one start after another leave of marks₀: whole components are closed
pub record Rest (F : Field) (zeros : Bool) (marks₀ marks : List ℕ) : Type 0 where
  pub long : length marks ≡ variables F
  pub fewer : (i : ℕ) → Open marks i → Open marks₀ i
  pub shut : (i j : ℕ) → Joined F zeros i j → Open marks₀ i → get_or marks i 0 ≢ 2 → Open marks₀ j → get_or marks j 0 ≢ 2

-- a component and its lowest variable, the start
pub record Found (F : Field) (zeros : Bool) (marks : List ℕ) (members : List ℕ) : Type 0 where
  pub start : ℕ
  pub opens : Open marks start
  pub component : Component F zeros marks start members
  pub lowest : (i : ℕ) → has members i ≡ true → start ≤ i
  pub first : get_or members 0 0 ≡ start

-- every part is a component, each open variable is in exactly one, and their starts rise
pub record Partition (F : Field) (zeros : Bool) (marks : List ℕ) (parts : List (List ℕ)) : Type 0 where
  pub each : (p : ℕ) → p < length parts → Found F zeros marks (get_or parts p [])
  pub one : (i : ℕ) → Open marks i → (p : ℕ) × ((p < length parts) × (has (get_or parts p []) i ≡ true))
  pub disjoint : (p q i : ℕ) → p < length parts → q < length parts → has (get_or parts p []) i ≡ true → has (get_or parts q []) i ≡ true → p ≡ q
  pub rising : (p q : ℕ) → p < q → q < length parts → get_or (get_or parts p []) 0 0 < get_or (get_or parts q []) 0 0
