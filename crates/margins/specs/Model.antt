-- One pair (rules 8.2 to 8.6), on lists and floats, for every field in standard form. Assumes nothing.
use Rattle.std.specs.Prelude.{ℕ, zero, suc, Bool, not, ◌&&◌, cond, List, [], ◌∷◌, ◌++◌, eqb, pos, get_or, Float}
use Rattle.std.specs.Float.{binary64}
use Rattle.std.specs.Float.Ieee.{add, sub, mul, neg, lt, le, eq, of_int, of_bits}
use Rattle.weights.specs.Worth.{zero64, magnitude}
use Rattle.meaning.specs.Free.{is_free}
use Rattle.meaning.specs.Kinds.{Kind, no_more_than_one, at_least_one, less_than, greater_than}
use Rattle.meaning.specs.Pair.{third}
use Rattle.field.specs.Field.{Field, variables, entries, linear_of, row_end, column_end}
use Rattle.rows.specs.Model.{coeff_of}
use Rattle.margins.specs.declared.bounds.Bounds.{Bounds}
use Rattle.margins.specs.declared.bounds.Sign.{Sign}
use Rattle.margins.specs.declared.bounds.Sign.TheVariants.{Above, Below, Neither}

-- The float 1.0, below which the masses of a pair do not lower its tolerance.
abbrev pub one64 : Float
one64 = of_bits binary64 0x3ff0_0000_0000_0000

-- The float nearest to 1e-10, by which the masses of a pair become its tolerance.
abbrev pub tiny64 : Float
tiny64 = of_bits binary64 0x3ddb_7cdf_d9d7_bdbb

-- min(x, 0) in f64: x where it is below 0, and 0.0 elsewhere, also where x is no number.
abbrev pub below_zero : Float → Float
below_zero x = cond (lt x zero64) x zero64

-- max(x, 0) in f64: x where it is above 0, and 0.0 elsewhere, also where x is no number.
abbrev pub above_zero_of : Float → Float
above_zero_of x = cond (lt zero64 x) x zero64

-- ---- the entries at a variable: `op` takes what stands so far, a coefficient and the variable at the other end

-- What is done at an entry: from the sum so far, its coefficient and its other end, the new sum.
abbrev pub Op : Type 0
Op = Float → Float → ℕ → Float

-- The operation done with one end of an entry, where that end is variable i; nothing elsewhere.
unfoldable pub at_end : Op → ℕ → ℕ → ℕ → Float → Float → Float
at_end op i end other a x = cond (eqb end i) (op x a other) x

-- the entries below k at variable i, in entry order
unfoldable pub over_ends : Op → Field → ℕ → Float → ℕ → Float
over_ends op F i start zero = start
over_ends op F i start (suc k) =
    at_end op i (column_end F k) (row_end F k) (coeff_of F k)
    (at_end op i (row_end F k) (column_end F k) (coeff_of F k) (over_ends op F i start k))

-- The operation done at every entry at variable i, in entry order, from a first value on.
abbrev pub over_all : Op → Field → ℕ → Float → Float
over_all op F i start = over_ends op F i start (entries F)

-- Coefficient times value of an entry whose other end has a value; a free end adds nothing.
abbrev pub add_fixed_end : List ℕ → Op
add_fixed_end s x a j = cond (is_free s j) x (add binary64 x (mul binary64 a (of_int binary64 (pos (get_or s j 0)))))

-- The linear part of i: c, and coefficient times value of each entry whose other end has a value.
abbrev pub linear_part : Field → List ℕ → ℕ → Float
linear_part F s i = over_all (add_fixed_end s) F i (linear_of F i)

-- An entry's |0.5q|, added to a mass whether its other end is free or not.
abbrev pub add_magnitude : Op
add_magnitude x a j = add binary64 x (magnitude a)

-- The mass of i: |c|, and |0.5q| of every entry at it, whether the other end has a value or not.
abbrev pub mass : Field → ℕ → Float
mass F i = over_all add_magnitude F i (magnitude (linear_of F i))

-- The coefficient of an entry whose other end is k; every other entry adds nothing.
abbrev pub add_between : ℕ → Op
add_between k x a j = cond (eqb j k) (add binary64 x a) x

-- a sum that is a zero is not kept in the row: it reads as 0.0
abbrev pub kept : Float → Float
kept x = cond (eq x zero64) zero64 x

-- The weight of k in the row of i: the coefficients of all entries between the two, merged.
unfoldable pub merged_weight : Field → ℕ → ℕ → Float
merged_weight F i k = kept (over_all (add_between k) F i zero64)

-- The larger of x and 1 in f64, and 1.0 where x is no number, as a NaN is none.
abbrev pub at_least_one_of : Float → Float
at_least_one_of x = cond (lt one64 x) x one64

-- The tolerance from two masses, in f64: 1e-10 times the larger of their sum and 1.
abbrev pub tolerance_from : Float → Float → Float
tolerance_from m m₂ = mul binary64 tiny64 (at_least_one_of (add binary64 m m₂))

-- The tolerance of the pair (i, j), from the masses of its variables; no value is in it.
abbrev pub tolerance : Field → ℕ → ℕ → Float
tolerance F i j = tolerance_from (mass F i) (mass F j)

-- ---- the four bounds

-- The four bounds before any neighbour, from both linear parts and the pair's own merged weight.
abbrev pub start_from : Float → Float → Float → Bounds
start_from l l₂ w =
    let sum = add binary64 (add binary64 l l₂) w in
    let diff = sub binary64 l l₂ in
    record { sumLow = sum; sumHigh = sum; diffLow = diff; diffHigh = diff }

-- a neighbour that weighs wi at i and wj at j: they are added before their signs are asked for
unfoldable pub widen : Bounds → Float → Float → Bounds
widen b wi wj = record {
  sumLow = add binary64 b.sumLow (below_zero (add binary64 wi wj));
  sumHigh = add binary64 b.sumHigh (above_zero_of (add binary64 wi wj));
  diffLow = add binary64 b.diffLow (below_zero (sub binary64 wi wj));
  diffHigh = add binary64 b.diffHigh (above_zero_of (sub binary64 wi wj));
}

-- k is a neighbour of i or of j
abbrev pub meets : Float → Float → Bool
meets wi wj = not (eq wi zero64 && eq wj zero64)

-- a neighbour that is free, and is neither i nor j
unfoldable pub neighbour : Field → List ℕ → ℕ → ℕ → ℕ → Bounds → Bounds
neighbour F s i j k b =
    cond (third s i j k && meets (merged_weight F i k) (merged_weight F j k)) (widen b (merged_weight F i k) (merged_weight F j k)) b

-- The four bounds of the pair (i, j) after its free neighbours below k, in rising order.
unfoldable pub bounds_to : Field → List ℕ → ℕ → ℕ → ℕ → Bounds
bounds_to F s i j zero = start_from (linear_part F s i) (linear_part F s j) (merged_weight F i j)
bounds_to F s i j (suc k) = neighbour F s i j k (bounds_to F s i j k)

-- The four bounds of the pair (i, j), widened by all of its free neighbours in rising order.
unfoldable pub bounds_of : Field → List ℕ → ℕ → ℕ → Bounds
bounds_of F s i j = bounds_to F s i j (variables F)

-- ---- what they say

-- the lower end is above the tolerance, or the upper end below its negative; an end that is equal gives nothing
unfoldable pub sign_of : Float → Float → Float → Sign
sign_of t low high = cond (lt t low) Above (cond (lt high (neg t)) Below Neither)

-- What the bounds of a pair say: the sign of f at 11 less f at 00, and that of f at 10 less f at 01.
pub record Signs : Type 0 where
  pub sum : Sign
  pub diff : Sign

-- What four bounds say against the tolerance t, of the sum and of the difference.
unfoldable pub signs_of : Float → Bounds → Signs
signs_of t b = record { sum = sign_of t b.sumLow b.sumHigh; diff = sign_of t b.diffLow b.diffHigh }

-- f at 11 less f at 00: always above gives NoMoreThanOne, always below the negative AtLeastOne
unfoldable pub sum_kinds : Sign → List Kind
sum_kinds Above = no_more_than_one ∷ []
sum_kinds Below = at_least_one ∷ []
sum_kinds Neither = []

-- f at 10 less f at 01, whether or not the other gave one: LessThan or GreaterThan likewise
unfoldable pub diff_kinds : Sign → List Kind
diff_kinds Above = less_than ∷ []
diff_kinds Below = greater_than ∷ []
diff_kinds Neither = []

-- The constraints that two signs give: at most one from the sum, then at most one from the difference.
abbrev pub kinds_of : Signs → List Kind
kinds_of x = sum_kinds x.sum ++ diff_kinds x.diff

-- What the four bounds of the pair (i, j) say against its tolerance.
unfoldable pub pair_signs : Field → List ℕ → ℕ → ℕ → Signs
pair_signs F s i j = signs_of (tolerance F i j) (bounds_of F s i j)

-- The kinds of constraint that the pair (i, j) gives at the values s: none, one or two.
unfoldable pub pair_kinds : Field → List ℕ → ℕ → ℕ → List Kind
pair_kinds F s i j = kinds_of (pair_signs F s i j)

-- ---- the source's early break: no bound can give a constraint any more

-- Whether a low and a high bound say neither: not all above t, and not all below its negative.
unfoldable pub between : Float → Float → Float → Bool
between t low high = le low t && le (neg t) high

-- Whether neither the sum nor the difference gives a constraint, nor will when the bounds have widened.
unfoldable pub hopeless : Float → Bounds → Bool
hopeless t b = between t b.sumLow b.sumHigh && between t b.diffLow b.diffHigh
