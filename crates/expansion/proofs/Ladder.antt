-- THE PARTS DO NOT OVERLAP: each lies below a power of two of which all later ones are multiples. So a sum that is 0 leaves no part. Assumes nothing.
-- The idea. A number x that is carried past a part y leaves two floats in place of both: their rounded sum, which is carried on, and what rounding
-- left over, which stays as a part. Nothing is lost, and what is left over lies below a power of two of which the rounded sum is a multiple; it is
-- also not larger than y, and both are multiples of whatever power of two x and y were multiples of. So the parts stay a ladder: each of them
-- is below a power of two, its rung, of which every later part is a multiple.
-- Suppose that the parts of a ladder add up to 0. Then the first is as large as the sum of the others, which is a multiple of its rung. But it is
-- below its rung, so it is 0, and no part is. So there is no part: the test for no parts says exactly whether what was added comes to 0.
use mathlib.Core.Path.{◌≡◌, refl, sym, ◌∙◌}
use mathlib.Core.Logic.{◌⊎◌, inl, inr, ◌↔◌}
use mathlib.Core.Bool.{Bool, true, false, cond, false≢true}
use mathlib.Core.List.{List, [], ◌∷◌}
use Prim.Native.Nat.{ℕ, zero, suc, ◌+◌, ◌-◌, ◌*◌, ◌^◌, ◌<◌, ◌≤◌}
use native.Mathlib.Nat.{suc-mul, zero-mul}
use native.Mathlib.Omega.{arith}
use lib.Dec.{T}
use lib.Ieee.{Float, binary64, ne, size, fits}
use lib.Ieee.Digits.{size-lt}
use lib.Ieee.Scale.{finite}
use Rattle.whole.specs.Whole.{Whole, nothing, ◌⊕◌, Zero}
use Rattle.weights.specs.Worth.{read, zero64}
use Rattle.expansion.specs.Sum.{Expansion, parts, invalid, split_of, kept, in_front, carried, plus, comes_to_zero}
use Rattle.expansion.specs.Exact.{Number, Numbers, none, more, AllHeld, none_held, more_held, total, add_all, Totals, adds_up, overflown}
use Rattle.expansion.proofs.Nearby.{gap, order, Multiple, finer, gap_multiple, add_multiple}
use Rattle.expansion.proofs.Exact.{zero_test, number_worth, size_of, Exactly, split_exact, totals_as, plus_totals, sum_totals, no_parts}

-- ---- multiples of a power of two

pub data OnGrid (j : ℕ) : List Float → Type 0 where
  no_more : OnGrid j []
  and_more : {x : Float} {l : List Float} → Multiple (2 ^ j) (size_of x) → OnGrid j l → OnGrid j (x ∷ l)

grid_finer : (i j : ℕ) {l : List Float} → i ≤ j → OnGrid j l → OnGrid i l
grid_finer i j h no_more = no_more
grid_finer i j h (and_more m g) = and_more (finer i j h m) (grid_finer i j h g)

data Grids (j : ℕ) : Expansion → Type 0 where
  grids : {l : List Float} → OnGrid j l → Grids j (parts l)
  gridless : Grids j invalid

grid_front : {j : ℕ} (x : Float) {e : Expansion} → Multiple (2 ^ j) (size_of x) → Grids j e → Grids j (in_front x e)
unfolding in_front kept
grid_front {j} x m (grids {l} g) = go (ne x zero64)
  where
    go : (b : Bool) → Grids j (parts (cond b (x ∷ l) l))
    go true = grids (and_more m g)
    go false = grids g
grid_front x m gridless = gridless

-- what x and the parts are multiples of, the new parts are
grid_carried : {j : ℕ} {x : Float} {l : List Float} → Number x → Numbers l → Multiple (2 ^ j) (size_of x) → OnGrid j l → Grids j (carried x l)
unfolding carried kept
grid_carried {j} {x} n none m no_more = go (ne x zero64)
  where
    go : (b : Bool) → Grids j (parts (cond b (x ∷ []) []))
    go true = grids (and_more m no_more)
    go false = grids no_more
grid_carried {j} {x} n (more {x = y} {l = l} k ks) m (and_more my g) = go (finite (split_of x y).high) (split_exact n k) (λ h q. grid_carried {x = (split_of x y).high} h ks q g)
  where
    go : (b : Bool) → (T b → Exactly x y (split_of x y)) → (Number (split_of x y).high → Multiple (2 ^ j) (size_of (split_of x y).high) → Grids j (carried (split_of x y).high l))
        → Grids j (cond b (in_front (split_of x y).low (carried (split_of x y).high l)) invalid)
    go true h rest = let E = h tt in let both = E.finer_both j m my in grid_front (split_of x y).low both.1 (rest E.high_one both.0)
    go false h rest = gridless

-- ---- the ladder

pub data Ladder : List Float → Type 0 where
  bottom : Ladder []
  rung : {x : Float} {l : List Float} (j : ℕ) → 0 < size_of x → size_of x < 2 ^ j → OnGrid j l → Ladder l → Ladder (x ∷ l)

pub data Climbs : Expansion → Type 0 where
  climbs : {l : List Float} → Ladder l → Climbs (parts l)
  fallen : Climbs invalid

not_zero : {x : Float} → Number x → ne x zero64 ≡ true → 0 < size_of x
not_zero {x} n e = go (order (size_of x) 0)
  where
    go : (size_of x ≤ 0) ⊎ (0 < size_of x) → 0 < size_of x
    go (inr l) = l
    go (inl l) = absurd (false≢true (sym ((zero_test (number_worth n)).1 (flat (read 0 x) l)) ∙ e))
      where
        flat : (a : Whole) → gap a.plus a.less ≤ 0 → Zero a
        flat a l = omega arith

-- a part in front, below a grid of the others
climb_front : {j : ℕ} {x : Float} {e : Expansion} → Number x → size_of x < 2 ^ j → Grids j e → Climbs e → Climbs (in_front x e)
unfolding in_front kept
climb_front {j} {x} n u (grids {l} g) (climbs d) = go (ne x zero64) refl
  where
    go : (b : Bool) → ne x zero64 ≡ b → Climbs (parts (cond b (x ∷ l) l))
    go true e = climbs (rung j (not_zero n e) u g d)
    go false e = climbs d
climb_front n u gridless fallen = fallen

climb_carried : {x : Float} {l : List Float} → Number x → Numbers l → Ladder l → Climbs (carried x l)
unfolding carried kept
climb_carried {x} n none bottom = go (ne x zero64) refl
  where
    go : (b : Bool) → ne x zero64 ≡ b → Climbs (parts (cond b (x ∷ []) []))
    go true e = climbs (rung (size (size_of x)) (not_zero n e) (size-lt (size_of x)) no_more bottom)
    go false e = climbs bottom
climb_carried {x} n (more {x = y} {l = l} k ks) (rung i some low g d) =
    go (finite (split_of x y).high) (split_exact n k) (λ h. climb_carried {x = (split_of x y).high} h ks d) (λ j h q r. grid_carried {j = j} h ks q r)
  where
    go : (b : Bool) → (T b → Exactly x y (split_of x y)) → (Number (split_of x y).high → Climbs (carried (split_of x y).high l))
        → ((j : ℕ) → Number (split_of x y).high → Multiple (2 ^ j) (size_of (split_of x y).high) → OnGrid j l → Grids j (carried (split_of x y).high l))
        → Climbs (cond b (in_front (split_of x y).low (carried (split_of x y).high l)) invalid)
    go false h rest grid = fallen
    go true h rest grid = let E = h tt in front E (order E.place i)
      where
        front : (E : Exactly x y (split_of x y)) → (E.place ≤ i) ⊎ (i < E.place) → Climbs (in_front (split_of x y).low (carried (split_of x y).high l))
        front E (inl c) = climb_front E.low_one E.under (grid E.place E.high_one E.grid (grid_finer E.place i c g)) (rest E.high_one)
        front E (inr c) =
            climb_front E.low_one (omega (arith, E.near_y, low)) (grid i E.high_one (finer i E.place (omega arith) E.grid) g) (rest E.high_one)

pub plus_climbs : (x : Float) {e : Expansion} {a : Whole} → T (fits binary64 x) → Totals e a → Climbs e → Climbs (plus x e)
unfolding plus
plus_climbs x t (adds_up {l} m h) (climbs d) = go (finite x) (λ f. climb_carried (record { held = t; finite_one = f }) m d)
  where
    go : (b : Bool) → (T b → Climbs (carried x l)) → Climbs (cond b (carried x l) invalid)
    go true k = k tt
    go false k = fallen
plus_climbs x t overflown fallen = fallen

-- ---- a ladder does not come to 0

-- two sums on the same side, and on opposite sides
same_side : (p l p' l' : ℕ) → p ≤ l → p' ≤ l' → gap (p + p') (l + l') ≡ (l - p) + (l' - p')
same_side p l p' l' h k = omega arith

opposite_sides : (p l p' l' x y : ℕ) → p + x ≡ l → l' + y ≡ p' → gap (p + p') (l + l') ≡ gap y x
opposite_sides p l p' l' x y h k = omega arith

turned : (p l : ℕ) → gap p l ≡ gap l p
turned p l = omega arith

one_way : (p l : ℕ) → p ≤ l → gap p l ≡ l - p
one_way p l h = omega arith

module _ {d p l p' l' : ℕ} (x : Multiple d (gap p l)) (y : Multiple d (gap p' l')) where
  add_less : p ≤ l → p' ≤ l' → Multiple d (gap (p + p') (l + l'))
  add_less h k = rw (same_side p l p' l' h k) (add_multiple (rw (one_way p l h) at x) (rw (one_way p' l' k) at y))

  add_cross : p ≤ l → l' ≤ p' → Multiple d (gap (p + p') (l + l'))
  add_cross h k =
      rw (opposite_sides p l p' l' (l - p) (p' - l') (omega arith) (omega arith)) (gap_multiple (rw (turned p' l', one_way l' p' k) at y) (rw (one_way p l h) at x))

gap_sum : {d : ℕ} (p l p' l' : ℕ) → Multiple d (gap p l) → Multiple d (gap p' l') → Multiple d (gap (p + p') (l + l'))
gap_sum {d} p l p' l' x y = go (order p l) (order p' l')
  where
    go : (p ≤ l) ⊎ (l < p) → (p' ≤ l') ⊎ (l' < p') → Multiple d (gap (p + p') (l + l'))
    go (inl h) (inl k) = add_less x y h k
    go (inl h) (inr k) = add_cross x y h (omega arith)
    go (inr h) (inl k) = rw (turned (p + p') (l + l')) (add_cross (rw (turned p l) at x) (rw (turned p' l') at y) (omega arith) k)
    go (inr h) (inr k) = rw (turned (p + p') (l + l')) (add_less (rw (turned p l) at x) (rw (turned p' l') at y) (omega arith) (omega arith))

grid_total : {j : ℕ} {l : List Float} → OnGrid j l → Multiple (2 ^ j) (gap (total l).plus (total l).less)
unfolding total
grid_total {j} no_more = record { times = 0; is = sym (zero-mul (2 ^ j)) }
grid_total {j} (and_more {x} {l} m g) = gap_sum (read 0 x).plus (read 0 x).less (total l).plus (total l).less m (grid_total g)

-- a multiple below its step is 0
small_multiple : (d t k : ℕ) → t ≡ k * d → t < d → t ≡ 0
small_multiple d t zero e l = e ∙ zero-mul d
small_multiple d t (suc k) e l = absurd (omega (arith, suc-mul k d))

balanced_sizes : (a b : Whole) → Zero (a ⊕ b) → gap a.plus a.less ≡ gap b.plus b.less
balanced_sizes a b z = omega arith

ladder_total : {l : List Float} → Ladder l → Zero (total l) → l ≡ []
unfolding total
ladder_total bottom z = refl
ladder_total (rung {x} {l} j some low g d) z =
    let m = grid_total g in
    let e : size_of x ≡ m.times * 2 ^ j = balanced_sizes (read 0 x) (total l) z ∙ m.is in
    let n : size_of x ≡ 0 = small_multiple (2 ^ j) (size_of x) m.times e low in
    absurd (omega (arith, some, n))

-- THE TEST IS EXACT: of a sum that has not overflowed no part is left exactly if what was added comes to 0
pub zero_exactly : {l : List Float} {a : Whole} → Totals (parts l) a → Climbs (parts l) → (comes_to_zero (parts l) ≡ true) ↔ Zero a
unfolding comes_to_zero
zero_exactly {l} {a} t c = (no_parts t, λ z. go t c z)
  where
    go : Totals (parts l) a → Climbs (parts l) → Zero a → comes_to_zero (parts l) ≡ true
    go (adds_up m h) (climbs d) z = rw (ladder_total d (omega (arith, h, z))) refl

-- ---- whatever f64 are added

pub sum_climbs : {l : List Float} {e : Expansion} {a : Whole} → AllHeld l → Totals e a → Climbs e → Climbs (add_all e l)
unfolding add_all
sum_climbs none_held t c = c
sum_climbs (more_held {x} h hs) t c = sum_climbs hs (plus_totals x h t) (plus_climbs x h t c)

start : Totals (parts []) nothing
unfolding total
start = adds_up none refl

pub sum_from_none : {l : List Float} → AllHeld l → Totals (add_all (parts []) l) (total l)
sum_from_none hs = totals_as (sum_totals hs start) (omega arith)

-- no part is left only where what was added comes to 0
pub sum_certain : {l : List Float} → AllHeld l → comes_to_zero (add_all (parts []) l) ≡ true → Zero (total l)
sum_certain hs z = no_parts (sum_from_none hs) z

-- and exactly there, where no sum has overflowed
pub sum_exactly : {l r : List Float} → AllHeld l → add_all (parts []) l ≡ parts r → (comes_to_zero (add_all (parts []) l) ≡ true) ↔ Zero (total l)
sum_exactly {l} {r} hs e =
    let t : Totals (parts r) (total l) = rw e at (sum_from_none hs) in
    let c : Climbs (parts r) = rw e at (sum_climbs hs start (climbs bottom)) in
    rw e (zero_exactly t c)
