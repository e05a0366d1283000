-- The flat list that holds records, three numbers each. Assumes nothing.
use Rattle.std.specs.Prelude.{ℕ, ◌+◌, ◌*◌, ◌/◌, ◌<◌, List, [], ◌∷◌, length, get_or, set}
use Rattle.scratch.specs.Over.{over}
use Rattle.meaning.specs.Records.{Record, record_on, Proper}

-- the flat list of the items
unfoldable pub flat : List Record → List ℕ
flat [] = []
flat (x ∷ items) = x.lower ∷ x.higher ∷ x.set ∷ flat items

-- how many records a list has room for
abbrev pub room : List ℕ → ℕ
room list = length list / 3

-- Record number t of a flat list, read from its three elements.
abbrev pub record_at : List ℕ → ℕ → Record
record_at list t = record_on (get_or list (3 * t) 0) (get_or list (3 * t + 1) 0) (get_or list (3 * t + 2) 0)

-- the whole records of a list
unfoldable pub records : List ℕ → List Record
records [] = []
records (a ∷ []) = []
records (a ∷ b ∷ []) = []
records (a ∷ b ∷ c ∷ list) = record_on a b c ∷ records list

-- the items at the front; what stands behind the last is as it was
unfoldable pub filled : List Record → List ℕ → List ℕ
filled items list = over (flat items) list

-- the list with x as record number t
unfoldable pub stored : List ℕ → ℕ → Record → List ℕ
stored list t x = set (set (set list (3 * t) x.lower) (3 * t + 1) x.higher) (3 * t + 2) x.set

-- what propagation takes for n variables: a set from 1 to 15, ends that rise, and both below n (rule 6.3)
pub record Fit (n : ℕ) (x : Record) : Type 0 where
  pub proper : Proper x
  pub rising : x.lower < x.higher
  pub below : x.higher < n
