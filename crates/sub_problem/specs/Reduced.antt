-- A field without its given variables: the free ones renumbered, their entries, their new weights, the constant and the map back (rules 10.3 to 10.5).
-- A new weight takes the entries first, in order, and c last. Assumes nothing.
use Rattle.std.specs.Prelude.{ℕ, zero, suc, Bool, cond, not, ◌&&◌, List, map, pos, length, get_or, set, replicate, Float}
use Rattle.std.specs.Float.{nan, binary64}
use Rattle.std.specs.Float.Ieee.{add, mul, of_int}
use Rattle.meaning.specs.Free.{is_free}
use Rattle.weights.specs.Worth.{zero64, half64}
use Rattle.field.specs.Field.{Field, field_of, variables, entries, linear_of, row_end, column_end, quad_of}
use Rattle.shift.specs.Picked.{picked}

-- ---- the variables

-- the map back: the free variables, rising
abbrev pub back : List ℕ → List ℕ
back s = picked (is_free s) (length s)

-- the new number of i: how many free variables stand before it
abbrev pub new_index : List ℕ → ℕ → ℕ
new_index s i = length (picked (is_free s) i)

-- the value of a given variable, as a float
abbrev pub value_of : List ℕ → ℕ → Float
value_of s i = of_int binary64 (pos (get_or s i 0))

-- ---- the entries: both ends free, one, or none

-- Whether both ends of entry k are free, so that it stays an entry of the smaller problem.
abbrev pub stays_at : Field → List ℕ → ℕ → Bool
stays_at F s k = is_free s (row_end F k) && is_free s (column_end F k)

-- Whether one of two tests passes and the other does not, whichever it is.
abbrev pub lone : Bool → Bool → Bool
lone a b = cond a (not b) b

-- Whether one end of entry k is free and the other given, so that it goes into a linear weight.
abbrev pub lone_at : Field → List ℕ → ℕ → Bool
lone_at F s k = lone (is_free s (row_end F k)) (is_free s (column_end F k))

-- Whether both ends of entry k are given, so that it goes into the constant.
abbrev pub given_at : Field → List ℕ → ℕ → Bool
given_at F s k = not (is_free s (row_end F k)) && not (is_free s (column_end F k))

-- The free end of an entry k that has one free end and one given end.
abbrev pub free_end : Field → List ℕ → ℕ → ℕ
free_end F s k = cond (is_free s (row_end F k)) (row_end F k) (column_end F k)

-- The given end of an entry k that has one free end and one given end.
abbrev pub given_end : Field → List ℕ → ℕ → ℕ
given_end F s k = cond (is_free s (row_end F k)) (column_end F k) (row_end F k)

-- Half of q of entry k in f64, which is what it counts in f where both its ends are 1.
abbrev pub half_of : Field → ℕ → Float
half_of F k = mul binary64 half64 (quad_of F k)

-- ---- what goes where

-- an entry with one free end: 0.5q times the other's value goes to the free one
abbrev pub into_gathered : Field → List ℕ → ℕ → List Float → List Float
into_gathered F s k g = set g (free_end F s k) (add binary64 (get_or g (free_end F s k) nan) (mul binary64 (half_of F k) (value_of s (given_end F s k))))

-- by variable, what the first k entries put in, from 0.0
unfoldable pub gathered_to : Field → List ℕ → ℕ → List Float
gathered_to F s zero = replicate (variables F) zero64
gathered_to F s (suc k) = cond (lone_at F s k) (into_gathered F s k (gathered_to F s k)) (gathered_to F s k)

-- the new linear weight: c is added last
unfoldable pub adjusted : Field → List ℕ → ℕ → Float
adjusted F s i = add binary64 (get_or (gathered_to F s (entries F)) i nan) (linear_of F i)

-- What an entry with both ends given puts into the constant x: 0.5q times both values.
abbrev pub into_constant : Field → List ℕ → ℕ → Float → Float
into_constant F s k x = add binary64 x (mul binary64 (mul binary64 (half_of F k) (value_of s (row_end F k))) (value_of s (column_end F k)))

-- what the first k entries put into the constant, where both ends are given
unfoldable pub given_to : Field → List ℕ → ℕ → Float
given_to F s zero = zero64
given_to F s (suc k) = cond (given_at F s k) (into_constant F s k (given_to F s k)) (given_to F s k)

-- and then the first i variables: c times the value of each that is given
unfoldable pub with_given : List Float → List ℕ → Float → ℕ → Float
with_given c s x zero = x
with_given c s x (suc i) = cond (is_free s i) (with_given c s x i) (add binary64 (with_given c s x i) (mul binary64 (get_or c i nan) (value_of s i)))

-- The constant after all entries and the first i variables: what the given ones add to f by themselves.
abbrev pub constant_to : Field → List ℕ → ℕ → Float
constant_to F s i = with_given F.linear s (given_to F s (entries F)) i

-- The constant: what the given variables and the entries between them add to f (rule 10.5).
abbrev pub constant : Field → List ℕ → Float
constant F s = constant_to F s (variables F)

-- the positions of the entries that stay
abbrev pub stays : Field → List ℕ → List ℕ
stays F s = picked (stays_at F s) (entries F)

-- THE SMALLER PROBLEM: the free variables renumbered, adjusted linear weights, and the entries that stay.
abbrev pub reduced : Field → List ℕ → Field
reduced F s =
    field_of
    (map (adjusted F s) (back s))
    (map (λ k. new_index s (row_end F k)) (stays F s))
    (map (λ k. new_index s (column_end F k)) (stays F s))
    (map (quad_of F) (stays F s))
