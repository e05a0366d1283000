-- What a flush answers and leaves, as one function of what it is given. Assumes nothing.
use Rattle.std.specs.Prelude.{ℕ, Option, Some, None, Bool, true, false, List, leb, length}
use Rattle.meaning.specs.Records.{Record}
use Rattle.constraints.specs.Record.{room, filled}
use Rattle.sorting.specs.Numbers.{distinct_at}
use Rattle.found.specs.Joint.{joint}

-- The answer of a flush, and the list of records and the words afterwards.
pub record Left : Type 0 where
  pub answer : Option ℕ
  pub list : List ℕ
  pub words : List ℕ

-- What a flush leaves, made of its answer, the list of records and the words.
abbrev pub left : Option ℕ → List ℕ → List ℕ → Left
left r list u = record { answer = r; list = list; words = u }

-- what stands behind the last item is as it was; where the items do not fit nothing is written
unfoldable pub settled_if : Bool → List Record → List ℕ → List ℕ → Left
settled_if true items list u = left (Some (length items)) (filled items list) u
settled_if false items list u = left None list u

-- the records go in where the list has room for them (rule 3.7)
unfoldable pub settled : List Record → List ℕ → List ℕ → Left
settled items list u = settled_if (leb (length items) (room list)) items list u

-- the list takes in what the words from lo to hi stand for; they are left sorted, one for each pair
unfoldable pub flushed : List ℕ → ℕ → List ℕ → ℕ → ℕ → Left
flushed list held u lo hi = settled (joint held lo hi list u) list (distinct_at lo hi u)
