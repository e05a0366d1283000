-- The order of records by their pair of variables: of two that are on different pairs, one stands before the other. Assumes nothing.
use Prim.Native.Nat.{◌<◌}
use mathlib.Core.Path.{◌≡◌, refl, sym, ◌∙◌}
use mathlib.Core.Logic.{◌⊎◌, inl, inr, ⊎_elim}
use mathlib.Core.Bool.{Bool, true, false, ◌||◌}
use native.Mathlib.Decide.{dec_lt}
use native.Mathlib.Omega.{arith}
use lib.Dec.{ltb}
use borrow.Author.Tests.{lt-ltb, le-ltb, eq-eqb, ne_eqb}
use Rattle.meaning.specs.Records.{Record}
use Rattle.meaning.specs.Rising.{Before, by_lower, by_higher, before}

-- both are on one pair of variables
pub record OnePair (x y : Record) : Type 0 where
  pub lower : x.lower ≡ y.lower
  pub higher : x.higher ≡ y.higher

pub pair_refl : (x : Record) → OnePair x x
pair_refl x = record { lower = refl; higher = refl }

pub pair_sym : {x y : Record} → OnePair x y → OnePair y x
pair_sym e = record { lower = sym e.lower; higher = sym e.higher }

pub pair_trans : {x y z : Record} → OnePair x y → OnePair y z → OnePair x z
pair_trans e f = record { lower = e.lower ∙ f.lower; higher = e.higher ∙ f.higher }

pub before_trans : {x y z : Record} → Before x y → Before y z → Before x z
before_trans (by_lower h) (by_lower k) = by_lower (omega arith)
before_trans (by_lower h) (by_higher e k) = by_lower (omega arith)
before_trans (by_higher e h) (by_lower k) = by_lower (omega arith)
before_trans (by_higher e h) (by_higher f k) = by_higher (omega arith) (omega arith)

-- the order is one of pairs
pub before_as : {x y z w : Record} → OnePair x z → OnePair y w → Before x y → Before z w
before_as e f (by_lower h) = by_lower (omega (arith, e.lower, f.lower))
before_as e f (by_higher g h) = by_higher (omega (arith, e.lower, f.lower)) (omega (arith, e.higher, f.higher))

pub before_apart : {x y : Record} → Before x y → OnePair x y → ⊥
before_apart (by_lower h) e = omega (arith, e.lower)
before_apart (by_higher g h) e = omega (arith, e.higher)

-- x stands before y, or on its pair, or after it
pub data Way (x y : Record) : Type 0 where
  front : Before x y → Way x y
  there : OnePair x y → Way x y
  past : Before y x → Way x y

pub way : (x y : Record) → Way x y
way x y = first (dec_lt x.lower y.lower) (dec_lt y.lower x.lower)
  where
    second : x.lower ≡ y.lower → Dec (x.higher < y.higher) → Dec (y.higher < x.higher) → Way x y
    second e (yes h) d = front (by_higher e h)
    second e (no h) (yes k) = past (by_higher (sym e) k)
    second e (no h) (no k) = there (record { lower = e; higher = omega arith })

    first : Dec (x.lower < y.lower) → Dec (y.lower < x.lower) → Way x y
    first (yes h) d = front (by_lower h)
    first (no h) (yes k) = past (by_lower k)
    first (no h) (no k) = second (omega arith) (dec_lt x.higher y.higher) (dec_lt y.higher x.higher)

-- ---- the test

or_true : (b : Bool) → (b || true) ≡ true
or_true true = refl
or_true false = refl

pub is_before : {x y : Record} → Before x y → before x y ≡ true
unfolding before
is_before {x} {y} (by_lower h) = rw (lt-ltb x.lower y.lower h)
is_before {x} {y} (by_higher e h) = rw (eq-eqb x.lower y.lower e, lt-ltb x.higher y.higher h) (or_true (ltb x.lower y.lower))

not_lower : (x y : Record) → y.lower < x.lower → before x y ≡ false
unfolding before
not_lower x y h = rw (le-ltb x.lower y.lower (omega arith), ne_eqb x.lower y.lower (λ e. omega arith))

not_higher : (x y : Record) → x.lower ≡ y.lower → y.higher < x.higher ⊎ (x.higher ≡ y.higher) → before x y ≡ false
unfolding before
not_higher x y e h =
    rw (le-ltb x.lower y.lower (omega arith), eq-eqb x.lower y.lower e, le-ltb x.higher y.higher (⊎_elim (λ z. omega arith) (λ z. omega arith) h))

pub not_before : {x y : Record} → Before y x → before x y ≡ false
not_before {x} {y} (by_lower h) = not_lower x y h
not_before {x} {y} (by_higher e h) = not_higher x y (sym e) (inl h)

pub not_there : {x y : Record} → OnePair x y → before x y ≡ false
not_there {x} {y} e = not_higher x y e.lower (inr e.higher)
