-- The records at the front of an answer list together with those that numbers stand for. Assumes nothing.
use Rattle.std.specs.Prelude.{ℕ, ◌+◌, ◌/◌, ◌<◌, ◌≤◌, ◌≡◌, take}
use mathlib.Core.List.{List, [], ◌∷◌, ◌++◌, map, Memᴰ}
use Rattle.std.proofs.Math.Seq.{slice}
use Rattle.meaning.specs.Records.{Record}
use Rattle.meaning.specs.Rising.{Rising, merged_list}
use Rattle.constraints.specs.Record.{room, record_at, records}
use Rattle.constraints.specs.Keys.{key_of, unkey, Small}
use Rattle.sorting.specs.Numbers.{Keys}

-- the first n records of a list
unfoldable pub front : ℕ → List ℕ → List Record
front n list = take n (records list)

-- they are records in order, one for each pair
pub record Held (n : ℕ) (list : List ℕ) : Type 0 where
  pub fits : n ≤ room list
  pub rising : Rising (front n list)
  pub small : (x : Record) → Memᴰ x (front n list) → Small x

-- the words from lo to hi are numbers of records in order, one for each pair
pub record Climbed (lo hi : ℕ) (u : List ℕ) : Type 0 where
  pub keys : Keys lo hi u
  pub rising : Rising (map unkey (slice lo hi u))

-- The first records of the list and those that the numbers stand for, merged by pair.
unfoldable pub joint : ℕ → ℕ → ℕ → List ℕ → List ℕ → List Record
joint items lo keys list u = merged_list (map unkey (slice lo keys u) ++ front items list)

-- of the first n records none has a pair above that of the number y
abbrev pub NoneAbove : ℕ → ℕ → List ℕ → Type 0
NoneAbove n y list = (t : ℕ) → t < n → key_of (record_at list t) / 16 ≤ y / 16

-- of the first `items` records none before low has a pair above that of the number y, and all from high on have
pub record Between (low high items y : ℕ) (list : List ℕ) : Type 0 where
  pub order : low ≤ high
  pub within : high ≤ items
  pub below : NoneAbove low y list
  pub above : (t : ℕ) → high ≤ t → t < items → y / 16 < key_of (record_at list t) / 16

-- key is the number of the last of both together, and fewer of either are left
pub record Taking (items lo keys : ℕ) (list u : List ℕ) (key items' keys' : ℕ) : Type 0 where
  pub fewer : items' ≤ items
  pub low : lo ≤ keys'
  pub high : keys' ≤ keys
  pub less : items' + keys' < items + keys
  pub small : key < 268435456
  pub is : joint items lo keys list u ≡ joint items' lo keys' list u ++ unkey key ∷ []
