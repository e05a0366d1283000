-- The fields of the values worked by hand. Assumes nothing.
use Rattle.std.specs.Prelude.{ℕ, true, false, List, [], ◌∷◌, pos, negsuc, Float, length, replicate}
use Rattle.std.specs.Float.{fin}
use Rattle.field.specs.Field.{Field, field_of}
use Rattle.margins.specs.Model.{tiny64}

-- ---- weights

-- The weight 0.0, of a variable or of a stored entry that adds nothing.
abbrev pub nought : Float
nought = fin false 0 (pos 0)

-- The weight 0.5, which forces the one variable of case c to 0.
abbrev pub half : Float
half = fin false 1 (negsuc 0)

-- The weight -0.5, which forces the one variable of case d to 1.
abbrev pub minus_half : Float
minus_half = fin true 1 (negsuc 0)

-- The weight 1.0, as of the first variable of `feared` and of `cancelling`.
abbrev pub one : Float
one = fin false 1 (pos 0)

-- The weight -1.0, as the linear weight of both variables of cases i and j.
abbrev pub minus_one : Float
minus_one = fin true 1 (pos 0)

-- The weight 2.0, as of the entry of case e, where a lower bound is exactly 0, and of case m.
abbrev pub two : Float
two = fin false 1 (pos 1)

-- The weight -2.0, as of the entry of case f, where an upper bound is exactly 0.
abbrev pub minus_two : Float
minus_two = fin true 1 (pos 1)

-- The weight 4.0, as of the entry that joins the two variables of cases g, h, i and n.
abbrev pub four : Float
four = fin false 1 (pos 2)

-- The weight -5.0, as the linear weight of the first variable of cases g and h.
abbrev pub minus_five : Float
minus_five = fin true 5 (pos 0)

-- The weight 6.0, as of the entry of case j, at which pairs give a constraint.
abbrev pub six : Float
six = fin false 3 (pos 1)

-- The weight 3.0, as the linear weight of the third variable of `crossed`.
abbrev pub three : Float
three = fin false 3 (pos 0)

-- The weight -3.0, as an upper bound of the record of `edited`.
abbrev pub minus_three : Float
minus_three = fin true 3 (pos 0)

-- The weight -4.0, as a lower bound of the record of `edited` with x0 pinned at 1.
abbrev pub minus_four : Float
minus_four = fin true 1 (pos 2)

-- The weight -6.0, as the pair weight of the entry (0,2) of `crossed`.
abbrev pub minus_six : Float
minus_six = fin true 3 (pos 1)

-- The weight 7.0, as c of the last variable of `crossed` with x1 given 1.
abbrev pub seven : Float
seven = fin false 7 (pos 0)

-- The weight 8.0, as the pair weight of the entry (1,2) of `crossed`.
abbrev pub eight : Float
eight = fin false 1 (pos 3)

-- The weight 2^30, the largest c of which 2c is at most 2^31 of the unit 1.
abbrev pub limit : Float
limit = fin false 1 (pos 30)

-- The weight -0.25, the small rate beside 2^61 of the swallowed rate.
abbrev pub minus_quarter : Float
minus_quarter = fin true 1 (negsuc 1)

-- The weight 1/16, which is exact since 2c is whole in every unit up to 1/8.
abbrev pub sixteenth : Float
sixteenth = fin false 1 (negsuc 3)

-- The weight -0.0, which is a whole number of every unit, as 0.0 is.
abbrev pub minus_nought : Float
minus_nought = fin true 0 (pos 0)

-- The least finite f64, minus its largest number.
abbrev pub least : Float
least = fin true 9007199254740991 (pos 971)

-- The weight 1e308, two of which have a sum that is not finite.
abbrev pub huge : Float
huge = fin false 156575653125701 (pos 976)

-- The weight -1e308, which comes too late to mend a sum that has overflowed.
abbrev pub minus_huge : Float
minus_huge = fin true 156575653125701 (pos 976)

-- The weight 2^30 + 0.5, which was exact in halves and is so in no unit now.
abbrev pub above_limit : Float
above_limit = fin false 2147483649 (negsuc 0)

-- ---- fields

-- The field of these linear weights and no entry.
abbrev pub alone : List Float → Field
alone c = field_of c [] [] []

-- The field of these linear weights and the one entry (0,1) of weight q.
abbrev pub joined : List Float → Float → Field
joined c q = field_of c (0 ∷ []) (1 ∷ []) (q ∷ [])

-- case i, c=(-1,-1), (0,1) 4, beside a third variable without entries
abbrev pub apart : Field
apart = joined (minus_one ∷ minus_one ∷ minus_one ∷ []) four

-- c=(-1,2), (1,0) 4, (0,1) -4: bounded one by one both rows are open; merged, the entries would cancel and force both
abbrev pub opposed : Field
opposed = field_of (minus_one ∷ two ∷ []) (1 ∷ 0 ∷ []) (0 ∷ 1 ∷ []) (four ∷ fin true 1 (pos 2) ∷ [])

-- the swallowed rate (rule 18.3): c=(-1, 2^61, -2, -0.25), entries (0,1) -2^61, (0,2) 1, (0,3) 2
abbrev pub swallowing : Field
swallowing =
    field_of
    (minus_one ∷ fin false 1 (pos 61) ∷ minus_two ∷ minus_quarter ∷ [])
    (0 ∷ 0 ∷ 0 ∷ [])
    (1 ∷ 2 ∷ 3 ∷ [])
    (fin true 1 (pos 61) ∷ one ∷ two ∷ [])

-- c=(2^60, -0.25, 2^60), (0,1) 1, (0,2) -2^62: at variable 0 the sum of an anchor's test is 2^62 + 1 - 2^62, and with rounding it would be 0
abbrev pub unbalanced : Field
unbalanced =
    field_of
    (fin false 1 (pos 60) ∷ minus_quarter ∷ fin false 1 (pos 60) ∷ [])
    (0 ∷ 0 ∷ [])
    (1 ∷ 2 ∷ [])
    (one ∷ fin true 1 (pos 62) ∷ [])

-- c=(2^58,0,2^58), (1,0) -1, (0,1) 1, (0,2) -2^60: at variable 0 the sum is 2^60 - 1 + 1 - 2^60, which takes two parts and comes to 0
abbrev pub two_parts : Field
two_parts =
    field_of
    (fin false 1 (pos 58) ∷ nought ∷ fin false 1 (pos 58) ∷ [])
    (1 ∷ 0 ∷ 0 ∷ [])
    (0 ∷ 1 ∷ 2 ∷ [])
    (minus_one ∷ one ∷ fin true 1 (pos 60) ∷ [])

-- c=(2^1022,2^1022), (1,0) -2^1023, (0,1) -2^1023: the sum is 0, and 4c overflows
abbrev pub overflowing : Field
overflowing =
    field_of
    (fin false 1 (pos 1022) ∷ fin false 1 (pos 1022) ∷ [])
    (1 ∷ 0 ∷ [])
    (0 ∷ 1 ∷ [])
    (fin true 1 (pos 1023) ∷ fin true 1 (pos 1023) ∷ [])

-- c=(-0.5), (0,0) 1: 4c + 2q is 0, and 4c + q is not
abbrev pub on_diagonal : Field
on_diagonal = field_of (minus_half ∷ []) (0 ∷ []) (0 ∷ []) (one ∷ [])

-- c=(-0.5,-0.5,0), (0,1) 2, and a stored zero at (1,2)
abbrev pub with_zero : Field
with_zero = field_of (minus_half ∷ minus_half ∷ nought ∷ []) (0 ∷ 1 ∷ []) (1 ∷ 2 ∷ []) (two ∷ nought ∷ [])

-- c=(-5,-1,0), (0,1) 4, (2,1) -2: where variable 1 is given, it parts the two others
abbrev pub parted : Field
parted = field_of (minus_five ∷ minus_one ∷ nought ∷ []) (0 ∷ 2 ∷ []) (1 ∷ 1 ∷ []) (four ∷ minus_two ∷ [])

-- c=(1,-0.5,-0.5), (0,1) 0, (0,2) 0, (1,2) 2: from variable 0 the stack holds 1 and then 2
abbrev pub popped : Field
popped = field_of (one ∷ minus_half ∷ minus_half ∷ []) (0 ∷ 0 ∷ 1 ∷ []) (1 ∷ 2 ∷ 2 ∷ []) (nought ∷ nought ∷ two ∷ [])

-- c=(0.5,-1,-2), (2,0) 2, (0,1) -1, (2,1) 2^61, (1,2) -2^61: where variable 2 is 1, the linear part of 1 is -1 + 2^60 - 2^60, which rounds to 0
abbrev pub one_term : Field
one_term =
    field_of
    (half ∷ minus_one ∷ minus_two ∷ [])
    (2 ∷ 0 ∷ 2 ∷ 1 ∷ [])
    (0 ∷ 1 ∷ 1 ∷ 2 ∷ [])
    (two ∷ minus_one ∷ fin false 1 (pos 61) ∷ fin true 1 (pos 61) ∷ [])

-- three variables, which stored zeros at (0,1) and (1,2) make one component, in this order
abbrev pub in_chain : List Float → Field
in_chain c = field_of c (0 ∷ 1 ∷ []) (1 ∷ 2 ∷ []) (nought ∷ nought ∷ [])

-- c=(4,0.5,4), (2,0) -8, (0,1) 1, (1,2) -6: the probes forbid three pairs of values of 1 and 2
abbrev pub three_pairs : Field
three_pairs = field_of (four ∷ half ∷ four ∷ []) (2 ∷ 0 ∷ 1 ∷ []) (0 ∷ 1 ∷ 2 ∷ []) (fin true 1 (pos 3) ∷ one ∷ fin true 3 (pos 1) ∷ [])

-- c=(4,-0.5,0.5), (0,1) -1, (2,1) 2^62, (0,2) 1, (1,2) -2^62: large weights swallow small ones, and the probes forbid all four pairs of values of 1 and 2
abbrev pub four_pairs : Field
four_pairs =
    field_of
    (four ∷ minus_half ∷ half ∷ [])
    (0 ∷ 2 ∷ 0 ∷ 1 ∷ [])
    (1 ∷ 1 ∷ 2 ∷ 2 ∷ [])
    (minus_one ∷ fin false 1 (pos 62) ∷ one ∷ fin true 1 (pos 62) ∷ [])

-- c=(-1,-1,-1,-1), (0,1) 4, (2,3) 8: two pairs, the second with the greater mass
abbrev pub two_pairs : Field
two_pairs = field_of (minus_one ∷ minus_one ∷ minus_one ∷ minus_one ∷ []) (0 ∷ 2 ∷ []) (1 ∷ 3 ∷ []) (four ∷ fin false 1 (pos 3) ∷ [])

-- eleven variables in one component: the probes of 0 fix all others, and these then fix it
abbrev pub linked : Field
linked =
    field_of
    (nought ∷ fin true 3 (pos 0) ∷ replicate 9 minus_one)
    (0 ∷ 0 ∷ 1 ∷ 2 ∷ replicate 7 3)
    (1 ∷ 2 ∷ 3 ∷ 3 ∷ 4 ∷ 5 ∷ 6 ∷ 7 ∷ 8 ∷ 9 ∷ 10 ∷ [])
    (four ∷ fin true 1 (pos 3) ∷ replicate 9 four)

-- c=(1e-10,0), no entries
abbrev pub at_tolerance : Field
at_tolerance = alone (tiny64 ∷ nought ∷ [])

-- n variables with c = 0, and entries of weight 2 at these rows and columns
abbrev pub placed : ℕ → List ℕ → List ℕ → Field
placed n rows cols = field_of (replicate n nought) rows cols (replicate (length rows) two)

-- c=(1,2^61), (1,0) 2^61, (0,1) -2^61: the bounds of row 0 swallow its weight while variable 1 is free, and end at 0
abbrev pub cancelling : Field
cancelling = field_of (one ∷ fin false 1 (pos 61) ∷ []) (1 ∷ 0 ∷ []) (0 ∷ 1 ∷ []) (fin false 1 (pos 61) ∷ fin true 1 (pos 61) ∷ [])

-- c=(1,0), (0,1) -2^61: taken out of the remembered lower bound 1 - 2^60, which is -2^60, the term would leave 0
abbrev pub feared : Field
feared = joined (one ∷ nought ∷ []) (fin true 1 (pos 61))

-- c=(1,2^61,0), (0,1) -2^61, (1,2) -2^63: with variable 2 at 0 the run forces variable 1 to 0, and its term, taken out of row 0, leaves 0 in place of 1
abbrev pub staying : Field
staying = field_of (one ∷ fin false 1 (pos 61) ∷ nought ∷ []) (0 ∷ 1 ∷ []) (1 ∷ 2 ∷ []) (fin true 1 (pos 61) ∷ fin true 1 (pos 63) ∷ [])

-- c=(-5,-1), (1,0) 4, (0,1) 1: the run forces variable 1 at the first of the two entries that join it to 0
abbrev pub both_ways : Field
both_ways = field_of (minus_five ∷ minus_one ∷ []) (1 ∷ 0 ∷ []) (0 ∷ 1 ∷ []) (four ∷ one ∷ [])

-- c=(-5,-5,-1), (0,2) 4, (1,2) 4: variable 1 waits in the queue where 0 forces 2
abbrev pub waiting : Field
waiting = field_of (minus_five ∷ minus_five ∷ minus_one ∷ []) (0 ∷ 1 ∷ []) (2 ∷ 2 ∷ []) (four ∷ four ∷ [])

-- -2^40: no unit below 2^10 serves
abbrev pub heavy_rate : Float
heavy_rate = fin true 1 (pos 40)

-- n variables with c = 0, and an entry list as it stands
abbrev pub listed : ℕ → List ℕ → List ℕ → List Float → Field
listed n rows cols q = field_of (replicate n nought) rows cols q

-- The weight 2^53, above which f64 does not hold every whole number.
abbrev pub whole_limit : Float
whole_limit = fin false 1 (pos 53)

-- The weight 2^53 + 4, as the sum of 5 and 2^53 and 1 added in this order.
abbrev pub past_whole : Float
past_whole = fin false 2251799813685249 (pos 2)

-- The weight 5.0, the first of a sum that rounds at each step.
abbrev pub five : Float
five = fin false 5 (pos 0)

-- c=(-5,-1,3), (1,0) 2, (0,1) 4, (0,2) -6, (1,2) 8
abbrev pub crossed : Field
crossed = field_of (minus_five ∷ minus_one ∷ three ∷ []) (1 ∷ 0 ∷ 0 ∷ 1 ∷ []) (0 ∷ 1 ∷ 2 ∷ 2 ∷ []) (two ∷ four ∷ minus_six ∷ eight ∷ [])

-- c=(1,2), (0,0) 4, (1,1) 6
abbrev pub on_both_diagonals : Field
on_both_diagonals = field_of (one ∷ two ∷ []) (0 ∷ 1 ∷ []) (0 ∷ 1 ∷ []) (four ∷ six ∷ [])

-- three variables for a kept record: (0,1) 4, (1,2) -2
abbrev pub edited : Field
edited = field_of (minus_one ∷ minus_five ∷ half ∷ []) (0 ∷ 1 ∷ []) (1 ∷ 2 ∷ []) (four ∷ minus_two ∷ [])
