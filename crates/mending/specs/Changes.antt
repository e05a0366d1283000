-- What mending reports, in input order (rule 10.11). Assumes nothing.
use Rattle.std.specs.Prelude.{ℕ, zero, suc, Bool, cond, List, [], ◌∷◌, ◌++◌, eqb, length}
use Rattle.field.specs.Field.{Field, entries}
use Rattle.mending.specs.Places.{is_inside, place_of, entries_to, is_empty, places_to}

-- an entry dropped, moved or joined, with its input position and, but for one dropped, its output position
pub data Change : Type 0 where
  dropped : ℕ → Change
  moved : ℕ → ℕ → Change
  joined : ℕ → ℕ → Change

-- a change as three numbers: input position, kind, output position; 65,535, which is no position, where there is none
abbrev pub numbers_of : Change → List ℕ
numbers_of (dropped k) = k ∷ 0 ∷ 65535 ∷ []
numbers_of (moved k o) = k ∷ 1 ∷ o ∷ []
numbers_of (joined k o) = k ∷ 2 ∷ o ∷ []

-- the output position of place p: before it stand the named places below p
abbrev pub position_of : Field → ℕ → ℕ
position_of F p = length (places_to F p)

-- no earlier entry of the input is at the place of entry k
abbrev pub is_first : Field → ℕ → Bool
is_first F k = is_empty (entries_to F (place_of F k) k)

-- the change of entry k, if there is one: joined where an earlier entry of the input has its place, moved where it is neither dropped nor
-- joined and its output position is not its input position
unfoldable pub change_at : Field → ℕ → List Change
change_at F k =
    let o = position_of F (place_of F k) in
    cond (is_inside F k) (cond (is_first F k) (cond (eqb o k) [] (moved k o ∷ [])) (joined k o ∷ [])) (dropped k ∷ [])

-- The changes of the first k entries of the input, in their order.
unfoldable pub changes_to : Field → ℕ → List Change
changes_to F zero = []
changes_to F (suc k) = changes_to F k ++ change_at F k

-- the changes of all entries, in input order
unfoldable pub changes_of : Field → List Change
changes_of F = changes_to F (entries F)

-- the numbers of a list of changes, one change behind the other
unfoldable pub numbered : List Change → List ℕ
numbered [] = []
numbered (x ∷ l) = numbers_of x ++ numbered l
