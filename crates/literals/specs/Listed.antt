-- What is asked of start values and of a list of records. Assumes nothing.
use Rattle.std.specs.Prelude.{ℕ, ◌+◌, ◌*◌, ◌<◌, ◌≤◌, ◌≡◌, List, length, get_or}
use Rattle.constraints.specs.Record.{room, record_at, Fit}

-- a list of whole records, not too many, each of which fits; they need be neither sorted nor merged
pub record Listed (n : ℕ) (list : List ℕ) : Type 0 where
  pub few : length list ≤ 196608
  pub whole : length list ≡ 3 * room list
  pub fit : (t : ℕ) → t < room list → Fit n (record_at list t)

-- What propagation starts from: few variables, values of 0, 1 or 2, a list of fitting records, and words enough.
pub record Ready (s list : List ℕ) (words : ℕ) : Type 0 where
  pub few : length s ≤ 4096
  pub small : (i : ℕ) → get_or s i 0 ≤ 2
  pub listed : Listed (length s) list
  pub words_room : 16 * length s + 8 * room list + 16 ≤ words
