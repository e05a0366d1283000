-- What is in a list and what stands in it once; the places of a variable hold every entry that has an end there. Assumes nothing.
use Prim.Native.Nat.{ℕ, zero, suc, ◌+◌, ◌<◌}
use mathlib.Core.Path.{◌≡◌, refl, sym, ap, ◌∙◌}
use mathlib.Core.Logic.{◌≢◌, ◌⊎◌, inl, inr, ⊎_elim}
use mathlib.Core.Bool.{Bool, true, false, ◌||◌, false≢true}
use mathlib.Core.List.{List, [], ◌∷◌, ◌++◌}
use native.Mathlib.Decide.{ℕ_discrete}
use native.Mathlib.Omega.{arith}
use borrow.Author.Tests.{eq-eqb, ne_eqb, eqb-true, eqb-false}
use lib.ListN.{length, get_or}
use lib.Dec.{eqb}
use Rattle.places.specs.Places.{keep, places_from, places, other_end, Touches}
use Rattle.places.proofs.Places.{other_column, other_row}
use Rattle.parts.specs.Part.{has, Apart}

-- ---- one or the other

pub either : (a b : Bool) → (a || b) ≡ true → (a ≡ true) ⊎ (b ≡ true)
either true b e = inl refl
either false b e = inr e

pub neither : (a b : Bool) → (a || b) ≡ false → (a ≡ false) × (b ≡ false)
neither true b e = absurd (false≢true (sym e))
neither false b e = (refl, e)

pub second : (a b : Bool) → b ≡ true → (a || b) ≡ true
second true b e = refl
second false b e = e

-- ---- j stands in the middle

pub has_there : (m l : List ℕ) (j : ℕ) → has (m ++ (j ∷ l)) j ≡ true
unfolding has
has_there [] l j = rw (eq-eqb j j refl)
has_there (x ∷ m) l j = second (eqb x j) _ (has_there m l j)

pub has_else : (m l : List ℕ) (j i : ℕ) → i ≢ j → has (m ++ (j ∷ l)) i ≡ has (m ++ l) i
unfolding has
has_else [] l j i ne = rw (ne_eqb j i (λ e. ne (sym e)))
has_else (x ∷ m) l j i ne = ap (λ (b : Bool). eqb x i || b) (has_else m l j i ne)

pub has_last : (m : List ℕ) (j i : ℕ) → has (m ++ (j ∷ [])) i ≡ true → (has m i ≡ true) ⊎ (i ≡ j)
unfolding has
has_last [] j i h = ⊎_elim (λ e. inr (sym (eqb-true j i e))) (λ e. absurd (false≢true e)) (either (eqb j i) false h)
has_last (x ∷ m) j i h = ⊎_elim (λ e. inl (rw e)) (λ e. ⊎_elim (λ k. inl (second (eqb x i) _ k)) (λ k. inr k) (has_last m j i e)) (either (eqb x i) _ h)

pub apart_there : (m l : List ℕ) (j : ℕ) → has (m ++ l) j ≡ false → Apart (m ++ l) → Apart (m ++ (j ∷ l))
unfolding has Apart
apart_there [] l j h a = (h, a)
apart_there (x ∷ m) l j h a =
    let n = neither (eqb x j) (has (m ++ l) j) h in
    (has_else m l j x (eqb-false x j n.0) ∙ a.0, apart_there m l j n.1 a.1)

-- ---- by positions

-- k stands in the list
abbrev pub At : List ℕ → ℕ → Type 0
At l k = (x : ℕ) × ((x < length l) × (get_or l x 0 ≡ k))

pub has_at : (l : List ℕ) (x : ℕ) → x < length l → has l (get_or l x 0) ≡ true
unfolding has
has_at [] x h = absurd (omega arith)
has_at (j ∷ l) zero h = rw (eq-eqb j j refl)
has_at (j ∷ l) (suc x) h = second (eqb j (get_or l x 0)) _ (has_at l x (omega arith))

pub at_has : (l : List ℕ) (i : ℕ) → has l i ≡ true → At l i
unfolding has
at_has [] i h = absurd (false≢true h)
at_has (j ∷ l) i h = ⊎_elim
    (λ e. (0, (omega arith, eqb-true j i e)))
    (λ e. let a = at_has l i e in (suc a.0, (omega (arith, a.1.0), a.1.1)))
    (either (eqb j i) (has l i) h)

pub apart_at : (l : List ℕ) → Apart l → (x y : ℕ) → x < y → y < length l → get_or l x 0 ≢ get_or l y 0
unfolding has Apart
apart_at [] a x y h k e = omega arith
apart_at (j ∷ l) a x zero h k e = omega arith
apart_at (j ∷ l) a zero (suc y) h k e = false≢true (sym a.0 ∙ rw e (has_at l y (omega arith)))
apart_at (j ∷ l) a (suc x) (suc y) h k e = apart_at l a.1 x y (omega arith) (omega arith) e

-- ---- every entry that has an end at i is a place of i

keep_first : (b : Bool) (k : ℕ) (l : List ℕ) → b ≡ true → At (keep b k l) k
unfolding keep
keep_first true k l e = (0, (omega arith, refl))
keep_first false k l e = absurd (false≢true e)

keep_later : (b : Bool) (k : ℕ) (l : List ℕ) (j : ℕ) → At l j → At (keep b k l) j
unfolding keep
keep_later true k l j a = (suc a.0, (omega (arith, a.1.0), a.1.1))
keep_later false k l j a = a

from_all : (rows cols : List ℕ) (i k j : ℕ) → j < length rows → length cols ≡ length rows → Touches rows cols i j → At (places_from rows cols i k) (k + j)
unfolding places_from
from_all [] cols i k j h e t = absurd (omega arith)
from_all (r ∷ rows) [] i k j h e t = absurd (omega arith)
from_all (r ∷ rows) (c ∷ cols) i k zero h e t =
    let z : k + 0 ≡ k = omega arith in
    rw z (keep_first _ k _ (⊎_elim (λ a. rw (eq-eqb r i a)) (λ b. second (eqb r i) _ (eq-eqb c i b)) t))
from_all (r ∷ rows) (c ∷ cols) i k (suc j) h e t =
    let z : k + suc j ≡ suc k + j = omega arith in
    rw z (keep_later _ k _ (suc k + j) (from_all rows cols i (suc k) j (omega arith) (omega arith) t))

pub places_all : (rows cols : List ℕ) (i k : ℕ) → k < length rows → length cols ≡ length rows → Touches rows cols i k → At (places rows cols i) k
unfolding places
places_all rows cols i k h e t = let z : 0 + k ≡ k = omega arith in rw z at (from_all rows cols i 0 k h e t)

-- ---- the other end

module _ (rows cols : List ℕ) (i j k : ℕ) where
  pub other_is : ((get_or rows k 0 ≡ i) × (get_or cols k 0 ≡ j)) ⊎ ((get_or rows k 0 ≡ j) × (get_or cols k 0 ≡ i)) → other_end rows cols i k ≡ j
  other_is ends =
      elim (ℕ_discrete (get_or rows k 0) i) [
        | yes e ↦ other_column rows cols i k e ∙ ⊎_elim (λ a. a.1) (λ b. omega (arith, b)) ends
        | no ne ↦ other_row rows cols i k ne ∙ ⊎_elim (λ a. absurd (ne a.0)) (λ b. b.0) ends
      ]

module _ (rows cols : List ℕ) (i k : ℕ) (t : Touches rows cols i k) where
  -- i and the other end are the ends
  pub other_ends : ((get_or rows k 0 ≡ i) × (get_or cols k 0 ≡ other_end rows cols i k)) ⊎ ((get_or rows k 0 ≡ other_end rows cols i k) × (get_or cols k 0 ≡ i))
  other_ends =
      elim (ℕ_discrete (get_or rows k 0) i) [
        | yes e ↦ inl (e, sym (other_column rows cols i k e))
        | no ne ↦ inr (sym (other_row rows cols i k ne), ⊎_elim (λ a. absurd (ne a)) (λ b. b) t)
      ]
