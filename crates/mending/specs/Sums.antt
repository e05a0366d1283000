-- What the test of the sums goes by (rule 10.9, refusal 18). Assumes nothing.
use Rattle.std.specs.Prelude.{ℕ, Bool, true, cond, List, eqb, ltb, length, get_or, Float, Option, Some, None}
use Rattle.std.specs.Float.{nan, binary64}
use Rattle.std.specs.Float.Ieee.{add, le, of_bits}
use Rattle.std.specs.Float.Ieee.Scale.{finite}
use Rattle.weights.specs.Worth.{magnitude}
use Rattle.scratch.specs.All.{all_below}
use Rattle.field.specs.Field.{Field, quad_of}
use Rattle.mending.specs.Places.{all_places, place_of, sum_at}

-- 2^1008: as many as 32,768 weights of at most this size add up to a finite sum, in whatever order
abbrev pub limit64 : Float
limit64 = of_bits binary64 0x7ef0_0000_0000_0000

-- Whether every weight is at most 2^1008 in magnitude, so that no sum of them can overflow.
unfoldable pub all_small : List Float → Bool
all_small q = all_below (λ k. le (magnitude (get_or q k nan)) limit64) (length q)

-- The sum so far with the weight x, which is x itself where it is the first.
abbrev pub with_one : Option Float → Float → Float
with_one (Some y) x = add binary64 y x
with_one None x = x

-- the sum at place p with entry k, if it is there, from the first weight on
unfoldable pub part_with : Field → ℕ → ℕ → Option Float → Option Float
part_with F p k s = cond (eqb (place_of F k) p) (Some (with_one s (quad_of F k))) s

-- entry k lies outside the field, or the sum at its place is finite
unfoldable pub finite_at : Field → ℕ → Bool
finite_at F k = cond (ltb (place_of F k) (all_places F)) (finite (sum_at F (place_of F k))) true
