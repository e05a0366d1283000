-- A small part enumerated (rules 5.4 to 5.7): its terms in their order, and the values of the mask that wins. Assumes nothing.
use Rattle.std.specs.Prelude.{ℕ, zero, suc, ◌/◌, ◌%◌, ◌^◌, Bool, cond, ◌&&◌, List, [], ◌∷◌, ◌++◌, eqb, ltb, pos, length, get_or, set, Float}
use Rattle.std.specs.Int.Bits.{bit_or}
use Rattle.std.specs.Float.{binary64}
use Rattle.std.specs.Float.Ieee.{add, mul, of_int}
use Rattle.meaning.specs.Free.{is_free}
use Rattle.field.specs.Field.{Field, entries, linear_of}
use Rattle.rows.specs.Model.{coeff_of}
use Rattle.places.specs.Places.{places, other_end}
use Rattle.masks.specs.Masks.{Term, term, objective, lowest}

-- ---- the linear part of variable i at the values s: c, then 0.5q times its value for each fixed other end, in the order of the entries

-- The linear part with entry k counted: 0.5q times the value of its other end, unless that is free.
unfoldable pub linear_at : Field → List ℕ → ℕ → Float → ℕ → Float
linear_at F s i sum k =
    let j = other_end F.rows F.cols i k in
    cond (is_free s j) sum (add binary64 sum (mul binary64 (coeff_of F k) (of_int binary64 (pos (get_or s j 0)))))

-- The linear part of i with each of these entries counted, from a sum on.
unfoldable pub linear_from : Field → List ℕ → ℕ → Float → List ℕ → Float
linear_from F s i sum [] = sum
linear_from F s i sum (k ∷ ks) = linear_from F s i (linear_at F s i sum k) ks

-- The linear part of i: c, then 0.5q times value for each place of i with a fixed other end.
unfoldable pub linear_part : Field → List ℕ → ℕ → Float
linear_part F s i = linear_from F s i (linear_of F i) (places F.rows F.cols i)

-- ---- the entry (i, j): the first among the places of i, or the number of entries where there is none

-- Whether entry k is the entry of row i and column j, in this order of its ends.
unfoldable pub stands : List ℕ → List ℕ → ℕ → ℕ → ℕ → Bool
stands rows cols i j k = eqb (get_or rows k 0) i && eqb (get_or cols k 0) j

-- The first of these places that is the entry (i, j), or the number of entries where none is.
unfoldable pub entry_from : Field → ℕ → ℕ → List ℕ → ℕ
entry_from F i j [] = entries F
entry_from F i j (k ∷ ks) = cond (stands F.rows F.cols i j k) k (entry_from F i j ks)

-- The entry of row i and column j, or the number of entries where the field has none.
unfoldable pub entry_of : Field → ℕ → ℕ → ℕ
entry_of F i j = entry_from F i j (places F.rows F.cols i)

-- ---- the terms: members are in pop order, linear terms come first, then those of pairs by column and row

-- the linear terms of the first members
unfoldable pub linear_terms : Field → List ℕ → List ℕ → ℕ → List Term
linear_terms F s members zero = []
linear_terms F s members (suc b) = linear_terms F s members b ++ (term (2 ^ b) (linear_part F s (get_or members b 0)) ∷ [])

-- The term of entry k for bits a and b, where there is such an entry: a stored zero is one.
unfoldable pub term_at : Field → ℕ → ℕ → ℕ → List Term
term_at F a b k = cond (ltb k (entries F)) (term (bit_or (2 ^ a) (2 ^ b)) (coeff_of F k) ∷ []) []

-- The term of the entry whose row is member a and whose column is member b, if there is one.
unfoldable pub pair_term : Field → List ℕ → ℕ → ℕ → List Term
pair_term F members b a = term_at F a b (entry_of F (get_or members a 0) (get_or members b 0))

-- The terms of the entries in the column of member b, of its first rows in the order of the members.
unfoldable pub column_terms : Field → List ℕ → ℕ → ℕ → List Term
column_terms F members b zero = []
column_terms F members b (suc a) = column_terms F members b a ++ pair_term F members b a

-- The terms of the entries in the columns of the first members, column by column.
unfoldable pub pair_terms : Field → List ℕ → ℕ → List Term
pair_terms F members zero = []
pair_terms F members (suc b) = pair_terms F members b ++ column_terms F members b (length members)

-- All terms of a part in the order in which they are added: the linear ones, then those of its entries.
unfoldable pub terms_of : Field → List ℕ → List ℕ → List Term
terms_of F s members = linear_terms F s members (length members) ++ pair_terms F members (length members)

-- ---- the mask that wins, and its values

-- The mask that wins among all masks of the members: the lowest of those with the least objective.
unfoldable pub mask_of : Field → List ℕ → List ℕ → ℕ
mask_of F s members = lowest (objective (terms_of F s members)) (2 ^ length members)

-- bit b of the mask is the value of member b, for the first members
unfoldable pub put_to : List ℕ → List ℕ → ℕ → ℕ → List ℕ
put_to s members mask zero = s
put_to s members mask (suc b) = set (put_to s members mask b) (get_or members b 0) (mask / 2 ^ b % 2)

-- The values s with each member of the part at its bit of the mask that wins.
unfoldable pub solved : Field → List ℕ → List ℕ → List ℕ
solved F s members = put_to s members (mask_of F s members) (length members)
