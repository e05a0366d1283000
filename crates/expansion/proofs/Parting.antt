-- One number that is carried through the parts leaves parts, or nothing where a sum on its way is not finite. Assumes nothing.
use mathlib.Core.Path.{◌≡◌, refl}
use mathlib.Core.Bool.{Bool, true, false, cond}
use mathlib.Core.List.{List, [], ◌∷◌}
use lib.Ieee.{Float, binary64, add, lt}
use lib.Ieee.Scale.{finite}
use Rattle.weights.specs.Worth.{magnitude}
use Rattle.expansion.specs.Sum.{Expansion, parts, invalid, two_sum, split_of, kept, in_front, carried, plus}
use Rattle.expansion.specs.Overflow.{sums_along, parts_along, all_finite}
use Rattle.expansion.proofs.Rounding.{add_swap}

-- parts, or invalid
abbrev pub parted : Bool → List Float → Expansion
parted b l = cond b (parts l) invalid

pub first_not : (x : Float) (ys : List Float) → finite x ≡ false → all_finite (sums_along x ys) ≡ false
unfolding sums_along all_finite
first_not x [] e = rw e refl
first_not x (y ∷ ys) e = rw e refl

-- whichever is first
split_high : (x y : Float) → (split_of x y).high ≡ add binary64 x y
unfolding split_of
split_high x y = go (lt (magnitude x) (magnitude y))
  where
    go : (b : Bool) → (cond b (two_sum y x) (two_sum x y)).high ≡ add binary64 x y
    go true = add_swap binary64 y x
    go false = refl

-- one number, carried
carried_parted : (x : Float) (l : List Float) → finite x ≡ true → carried x l ≡ parted (all_finite (sums_along x l)) (parts_along x l)
unfolding carried sums_along parts_along all_finite in_front
carried_parted x [] e = rw e refl
carried_parted x (y ∷ ys) e = rw (e, split_high x y) (go (finite (add binary64 x y)) refl (carried_parted (add binary64 x y) ys))
  where
    h : Float
    h = add binary64 x y

    low : Float
    low = (split_of x y).low

    front : (b : Bool) (p : List Float) → in_front low (parted b p) ≡ parted b (kept low p)
    front true p = refl
    front false p = refl

    go : (b : Bool) → finite h ≡ b → (finite h ≡ true → carried h ys ≡ parted (all_finite (sums_along h ys)) (parts_along h ys))
        → cond b (in_front low (carried h ys)) invalid ≡ parted (all_finite (sums_along h ys)) (kept low (parts_along h ys))
    go true t rest = rw (rest t) (front (all_finite (sums_along h ys)) (parts_along h ys))
    go false t rest = rw (first_not h ys t) refl

pub plus_parted : (x : Float) (l : List Float) → plus x (parts l) ≡ parted (all_finite (sums_along x l)) (parts_along x l)
unfolding plus
plus_parted x l = go (finite x) refl
  where
    go : (b : Bool) → finite x ≡ b → cond b (carried x l) invalid ≡ parted (all_finite (sums_along x l)) (parts_along x l)
    go true e = carried_parted x l e
    go false e = rw (first_not x l e) refl
