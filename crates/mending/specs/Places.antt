-- The places that an entry list names inside the field, and the sum of the weights at each (rules 10.9 and 10.10). Assumes nothing.
use Rattle.std.specs.Prelude.{ℕ, zero, suc, ◌+◌, ◌*◌, ◌/◌, ◌%◌, Bool, true, false, cond, ◌&&◌, List, [], ◌∷◌, ◌++◌, map, ltb, eqb, Float}
use Rattle.std.specs.Float.{binary64}
use Rattle.std.specs.Float.Ieee.{add}
use Rattle.std.specs.Float.Ieee.Scale.{finite}
use Rattle.weights.specs.Worth.{zero64}
use Rattle.scratch.specs.All.{all_below}
use Rattle.field.specs.Field.{Field, field_of, variables, entries, row_end, column_end, quad_of}

-- an entry whose row or column is not below n is outside the field; one on the diagonal is inside
abbrev pub is_inside : Field → ℕ → Bool
is_inside F k = ltb (row_end F k) (variables F) && ltb (column_end F k) (variables F)

-- the places of a field are numbered by column, then row, from 0 on; this is how many there are
abbrev pub all_places : Field → ℕ
all_places F = variables F * variables F

-- the place of entry k; the number after the last place, which is none, where it lies outside
unfoldable pub place_of : Field → ℕ → ℕ
place_of F k = cond (is_inside F k) (column_end F k * variables F + row_end F k) (all_places F)

-- of the first k entries, the positions of those at place p, in input order
unfoldable pub entries_to : Field → ℕ → ℕ → List ℕ
entries_to F p zero = []
entries_to F p (suc k) = cond (eqb (place_of F k) p) (entries_to F p k ++ k ∷ []) (entries_to F p k)

-- The positions of all entries at place p, in input order.
abbrev pub entries_at : Field → ℕ → List ℕ
entries_at F p = entries_to F p (entries F)

-- The sum in f64 of weights added one after another to x.
unfoldable pub onto : Float → List Float → Float
onto x [] = x
onto x (y ∷ l) = onto (add binary64 x y) l

-- from the first weight on, so that a lone -0.0 stays; of no weights the sum is 0.0
unfoldable pub added : List Float → Float
added [] = zero64
added (x ∷ l) = onto x l

-- the weights at one place added in the order given, in f64
unfoldable pub sum_at : Field → ℕ → Float
sum_at F p = added (map (quad_of F) (entries_at F p))

-- 18: the sum at every place of the field is finite
unfoldable pub sums_finite : Field → Bool
sums_finite F = all_below (λ p. finite (sum_at F p)) (all_places F)

-- Whether a list has no element, as that of the entries at a place that no entry names.
abbrev pub is_empty : {A : Type 0} → List A → Bool
is_empty [] = true
is_empty (x ∷ l) = false

-- every place that is named inside the field, of the places below p, rising
unfoldable pub places_to : Field → ℕ → List ℕ
places_to F zero = []
places_to F (suc p) = cond (is_empty (entries_at F p)) (places_to F p) (places_to F p ++ p ∷ [])

-- Every place inside the field that some entry names, rising by column, then row.
unfoldable pub places_of : Field → List ℕ
places_of F = places_to F (all_places F)

-- The row of place p in a field of n variables: its remainder by n.
abbrev pub row_in : ℕ → ℕ → ℕ
row_in n p = p % n

-- The column of place p in a field of n variables: its quotient by n.
abbrev pub column_in : ℕ → ℕ → ℕ
column_in n p = p / n

-- the mended field: each named place once, in order, with its sum
unfoldable pub mended : Field → Field
mended F =
    field_of
    F.linear
    (map (row_in (variables F)) (places_of F))
    (map (column_in (variables F)) (places_of F))
    (map (sum_at F) (places_of F))
