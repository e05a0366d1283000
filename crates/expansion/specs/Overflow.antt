-- What overflow is of (rule 9.4): every number that is added, and every f64 sum that is made on the way. Assumes nothing.
use Rattle.std.specs.Prelude.{◌≡◌, Bool, true, false, ◌&&◌, List, [], ◌∷◌, ◌++◌, Float}
use Rattle.std.specs.Float.{binary64}
use Rattle.std.specs.Float.Ieee.{add}
use Rattle.std.specs.Float.Ieee.Scale.{finite}
use Rattle.expansion.specs.Sum.{split_of, kept}

-- x is carried through the parts: x itself, and the f64 sum with each part in turn
unfoldable pub sums_along : Float → List Float → List Float
sums_along x [] = x ∷ []
sums_along x (y ∷ ys) = x ∷ sums_along (add binary64 x y) ys

-- the parts that this leaves: what rounding left over of each sum, and the last sum
unfoldable pub parts_along : Float → List Float → List Float
parts_along x [] = kept x []
parts_along x (y ∷ ys) = kept (split_of x y).low (parts_along (add binary64 x y) ys)

-- all sums of adding the second list to the parts of the first, in order
unfoldable pub sums_from : List Float → List Float → List Float
sums_from ps [] = []
sums_from ps (x ∷ l) = sums_along x ps ++ sums_from (parts_along x ps) l

-- Whether every float of the list is finite, so that none of these sums has overflowed.
unfoldable pub all_finite : List Float → Bool
all_finite [] = true
all_finite (x ∷ l) = finite x && all_finite l

-- what is added to no parts, and every sum on the way, is finite
abbrev pub Valid : List Float → Type 0
Valid l = all_finite (sums_from [] l) ≡ true

-- A number that is added to no parts, or a sum on the way, is not finite.
abbrev pub Overflows : List Float → Type 0
Overflows l = all_finite (sums_from [] l) ≡ false
