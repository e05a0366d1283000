-- The pairs that are examined (rule 8.1), and the records that they give (rule 8.6). Assumes nothing.
use Rattle.std.specs.Prelude.{ℕ, suc, ◌+◌, ◌*◌, ◌-◌, ◌/◌, min, cond, List, [], ◌∷◌, ◌++◌, map, ◌≡◌, eqb, ltb, length, take}
use Rattle.meaning.specs.Kinds.{Kind, Pair, pair, joining}
use Rattle.meaning.specs.Records.{Record, record_of}
use Rattle.meaning.specs.Rising.{merged_list}
use Rattle.meaning.specs.Free.{free_to}
use Rattle.field.specs.Field.{Field}
use Rattle.margins.specs.Model.{pair_kinds}
use Rattle.constraints.specs.Record.{room, filled, stored}
use Rattle.constraints.specs.Keys.{key_of, unkey}

-- ---- the pairs

-- All free variables of the start values, those whose value is 2, in rising order.
abbrev pub free_of : List ℕ → List ℕ
free_of s = free_to s (length s)

-- The pairs of i with each of js, in their order.
unfoldable pub with_each : ℕ → List ℕ → List Pair
with_each i [] = []
with_each i (j ∷ js) = pair i j ∷ with_each i js

-- The pairs of each variable of the list with each that comes later.
unfoldable pub pairs_of : List ℕ → List Pair
pairs_of [] = []
pairs_of (i ∷ is) = with_each i is ++ pairs_of is

-- the pairs of free variables, the lower first, in rising order
abbrev pub free_pairs : List ℕ → List Pair
free_pairs s = pairs_of (free_of s)

-- a limit above 250,000 acts as 250,000
abbrev pub allowed : ℕ → ℕ
allowed limit = min limit 250000

-- The pairs that the call examines: the first of the free pairs, as many as the limit allows.
abbrev pub examined : ℕ → List ℕ → List Pair
examined limit s = take (allowed limit) (free_pairs s)

-- how many are examined, of k free variables
abbrev pub pair_count : ℕ → ℕ → ℕ
pair_count limit k = min (allowed limit) (k * (k - 1) / 2)

-- ---- the records

-- the record of a kind on i and j
abbrev pub record_for : ℕ → ℕ → Kind → Record
record_for i j k = record_of (joining k i j)

-- what a pair gives, in one record, or none
unfoldable pub pair_records : Field → List ℕ → Pair → List Record
pair_records F s p = merged_list (map (record_for p.first p.second) (pair_kinds F s p.first p.second))

-- The records that a list of pairs gives, in the order of the pairs.
unfoldable pub found_in : Field → List ℕ → List Pair → List Record
found_in F s [] = []
found_in F s (p ∷ rest) = pair_records F s p ++ found_in F s rest

-- all that the examined pairs give, in their order
unfoldable pub found : Field → List ℕ → ℕ → List Record
found F s limit = found_in F s (examined limit s)

-- ---- numbers

-- the number of the first record, 0 where there is none
abbrev pub first_key : List Record → ℕ
first_key [] = 0
first_key (x ∷ l) = key_of x

-- the record that a number stands for; 0 stands for none
unfoldable pub standing : ℕ → List Record
standing k = cond (eqb k 0) [] (unkey k ∷ [])

-- ---- into the list

-- item number `at`, where the list has room for it
unfoldable pub append_one : List ℕ → ℕ → Record → List ℕ
append_one list at x = cond (ltb at (room list)) (stored list at x) list

-- The list with these records written from item number `at` on, as far as it has room.
unfoldable pub append_all : List ℕ → ℕ → List Record → List ℕ
append_all list at [] = list
append_all list at (x ∷ xs) = append_all (append_one list at x) (suc at) xs

-- the list afterwards, and the number of the next item
pub record Appended (xs : List Record) (l : List ℕ) (at : ℕ) (l' : List ℕ) (r : ℕ) : Type 0 where
  pub list : l' ≡ append_all l at xs
  pub next : r ≡ at + length xs

-- The list with as many of the items at its front as it has room for.
unfoldable pub written : List Record → List ℕ → List ℕ
written items list = filled (take (room list) items) list
