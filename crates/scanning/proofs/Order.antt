-- The places of a variable rise, and so do the ends of its entries: by column where it is the row, and by row where it is the column.
-- Assumes nothing.
use Prim.Native.Nat.{ℕ, zero, suc, ◌+◌, ◌-◌, ◌<◌, ◌≤◌}
use mathlib.Core.Path.{◌≡◌, refl, sym, ap, ◌∙◌, subst}
use mathlib.Core.Logic.{◌⊎◌, inl, inr, ⊎_elim}
use mathlib.Core.Bool.{Bool, true, false, cond, ◌||◌}
use mathlib.Core.List.{List, [], ◌∷◌}
use native.Mathlib.Omega.{arith}
use borrow.Author.Tests.{eqb-true, eq-eqb}
use lib.Dec.{eqb}
use lib.ListN.{length, get_or}
use Rattle.field.specs.Field.{Field, variables, entries, row_end, column_end, Before, Shaped}
use Rattle.places.specs.Places.{keep, places_from, places, Adjacent, Touches}
use Rattle.places.proofs.Walk.{part_long, place_get, place_word}
use Rattle.scanning.specs.Merge.{In, place_at, near_at, far_at}
use Rattle.scanning.proofs.Search.{Rises}

-- ---- every entry with an end at i is a place of i

kept_in : {t : ℕ} (b : Bool) (k : ℕ) (l : List ℕ) → In t l → In t (keep b k l)
unfolding keep
kept_in true k l h = record { place = suc h.place; within = omega (arith, h.within); holds = h.holds }
kept_in false k l h = h

kept_here : {t : ℕ} (b : Bool) (k : ℕ) (l : List ℕ) → b ≡ true → k ≡ t → In t (keep b k l)
unfolding keep
kept_here true k l e h = record { place = 0; within = omega arith; holds = h }
kept_here false k l e h = absurd (subst (λ (x : Bool). cond x ⊥ (Unit {0})) e tt)

touch_true : (r c i : ℕ) → (r ≡ i) ⊎ (c ≡ i) → (eqb r i || eqb c i) ≡ true
touch_true r c i (inl e) = rw (eq-eqb r i e)
touch_true r c i (inr e) = rw (eq-eqb c i e) (last (eqb r i))
  where
    last : (b : Bool) → (b || true) ≡ true
    last true = refl
    last false = refl

from_all : (rows cols : List ℕ) (i k j : ℕ) → j < length rows → length cols ≡ length rows → Touches rows cols i j → In (k + j) (places_from rows cols i k)
unfolding places_from
from_all [] cols i k j h e t = absurd (omega arith)
from_all (r ∷ rows) [] i k j h e t = absurd (omega arith)
from_all (r ∷ rows) (c ∷ cols) i k zero h e t = kept_here _ k _ (touch_true r c i t) (omega arith)
from_all (r ∷ rows) (c ∷ cols) i k (suc j) h e t =
    let q : suc k + j ≡ k + suc j = omega arith in
    kept_in _ k _ (rw q at (from_all rows cols i (suc k) j (omega arith) (omega arith) t))

pub places_all : (rows cols : List ℕ) (i k : ℕ) → k < length rows → length cols ≡ length rows → Touches rows cols i k → In k (places rows cols i)
unfolding places
places_all rows cols i k h e t = let q : 0 + k ≡ k = omega arith in rw q at (from_all rows cols i 0 k h e t)

-- ---- places rise

-- every element is k or more
abbrev Least : ℕ → List ℕ → Type 0
Least k l = (x : ℕ) → x < length l → k ≤ get_or l x 0

abbrev Up : List ℕ → Type 0
Up l = (x y : ℕ) → x < y → y < length l → get_or l x 0 < get_or l y 0

keep_least : (b : Bool) (k : ℕ) (l : List ℕ) → Least (suc k) l → Least k (keep b k l)
unfolding keep
keep_least true k l h zero z = omega arith
keep_least true k l h (suc x) z = omega (arith, h x (omega arith))
keep_least false k l h x z = omega (arith, h x z)

keep_up : (b : Bool) (k : ℕ) (l : List ℕ) → Least (suc k) l → Up l → Up (keep b k l)
unfolding keep
keep_up true k l h up zero zero a z = absurd (omega arith)
keep_up true k l h up zero (suc y) a z = omega (arith, h y (omega arith))
keep_up true k l h up (suc x) zero a z = absurd (omega arith)
keep_up true k l h up (suc x) (suc y) a z = up x y (omega arith) (omega arith)
keep_up false k l h up x y a z = up x y a z

from_least : (rows cols : List ℕ) (i k : ℕ) → Least k (places_from rows cols i k)
unfolding places_from
from_least [] cols i k x z = absurd (omega arith)
from_least (r ∷ rows) [] i k x z = absurd (omega arith)
from_least (r ∷ rows) (c ∷ cols) i k x z = keep_least (eqb r i || eqb c i) k _ (from_least rows cols i (suc k)) x z

from_up : (rows cols : List ℕ) (i k : ℕ) → Up (places_from rows cols i k)
unfolding places_from
from_up [] cols i k x y a z = absurd (omega arith)
from_up (r ∷ rows) [] i k x y a z = absurd (omega arith)
from_up (r ∷ rows) (c ∷ cols) i k x y a z = keep_up (eqb r i || eqb c i) k _ (from_least rows cols i (suc k)) (from_up rows cols i (suc k)) x y a z

places_up : (rows cols : List ℕ) (i : ℕ) → Up (places rows cols i)
unfolding places
places_up rows cols i = from_up rows cols i 0

-- ---- entries stand in order

before_then : {r c r₂ c₂ r₃ c₃ : ℕ} → Before r c r₂ c₂ → Before r₂ c₂ r₃ c₃ → Before r c r₃ c₃
before_then (inl a) (inl b) = inl (omega arith)
before_then (inl a) (inr b) = inl (omega (arith, b.0))
before_then (inr a) (inl b) = inl (omega (arith, a.0))
before_then (inr a) (inr b) = inr (a.0 ∙ b.0, omega (arith, a.1, b.1))

module _ {F : Field} (S : Shaped F) where
  ahead : (k d : ℕ) → k + suc d < entries F → Before (row_end F k) (column_end F k) (row_end F (k + suc d)) (column_end F (k + suc d))
  ahead k zero h = S.rising k h
  ahead k (suc d) h =
      let e : k + suc d + 1 ≡ k + suc (suc d) = omega arith in
      before_then (ahead k d (omega arith)) (rw e at (S.rising (k + suc d) (omega arith)))

  in_order : (k l : ℕ) → k < l → l < entries F → Before (row_end F k) (column_end F k) (row_end F l) (column_end F l)
  in_order k l a h = let e : k + suc (l - suc k) ≡ l = omega arith in rw e at (ahead k (l - suc k) (omega arith))

-- ---- in the flat list

module _ {F : Field} (S : Shaped F) {u : List ℕ} (A : Adjacent (variables F) F.rows F.cols u) {i : ℕ} (hi : i < variables F) where
  pub place_entry : {p : ℕ} → get_or u i 0 ≤ p → p < get_or u (i + 1) 0 → place_at u (variables F + 1) p < entries F
  place_entry l h = omega (arith, (place_word A hi l h).entry, S.rows_long)

  places_rise : (p q : ℕ) → get_or u i 0 ≤ p → p < q → q < get_or u (i + 1) 0 → place_at u (variables F + 1) p < place_at u (variables F + 1) q
  places_rise p q l a h =
      rw (← place_get A hi l (omega arith), ← place_get A hi {p = q} (omega arith) h)
      (places_up F.rows F.cols i (p - get_or u i 0) (q - get_or u i 0) (omega arith) (omega (arith, part_long A hi)))

  pub above_rises : Rises (near_at F.rows u (variables F + 1) i) (far_at F.cols u (variables F + 1)) (get_or u i 0) (get_or u (i + 1) 0)
  above_rises p q l a h ep eq = ⊎_elim (λ z. omega arith) (λ z. omega (arith, z.0)) (in_order S _ _ (places_rise p q l a h) (place_entry (omega arith) h))

  pub beside_rises : Rises (near_at F.cols u (variables F + 1) i) (far_at F.rows u (variables F + 1)) (get_or u i 0) (get_or u (i + 1) 0)
  beside_rises p q l a h ep eq =
      let cp : get_or F.cols (place_at u (variables F + 1) p) 0 ≡ i = eqb-true _ _ ep in
      let cq : get_or F.cols (place_at u (variables F + 1) q) 0 ≡ i = eqb-true _ _ eq in
      ⊎_elim (λ z. absurd (omega arith)) (λ z. omega (arith, z.1))
      (in_order S _ _ (places_rise p q l a h) (place_entry (omega arith) h))

  -- an entry with an end at i stands in the part of i
  pub record Stands (k : ℕ) : Type 0 where
    pub position : ℕ
    pub from : get_or u i 0 ≤ position
    pub to : position < get_or u (i + 1) 0
    pub holds : place_at u (variables F + 1) position ≡ k

  pub stands : (k : ℕ) → k < entries F → Touches F.rows F.cols i k → Stands k
  stands k h touch =
      let m = places_all F.rows F.cols i k (omega (arith, S.rows_long)) (S.cols_long ∙ sym S.rows_long) touch in
      let e : get_or u i 0 + m.place - get_or u i 0 ≡ m.place = omega arith in
      record {
        position = get_or u i 0 + m.place;
        from = omega arith;
        to = omega (arith, part_long A hi, m.within);
        holds = sym (place_get A hi (omega arith) (omega (arith, part_long A hi, m.within))) ∙ ap (λ (x : ℕ). get_or (places F.rows F.cols i) x 0) e ∙ m.holds;
      }
