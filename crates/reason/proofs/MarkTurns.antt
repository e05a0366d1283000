-- What the turns of the loops that mark, count and list keep. Assumes nothing.
use Prim.Native.Nat.{ℕ, zero, suc, ◌+◌, ◌-◌, ◌<◌, ◌≤◌}
use mathlib.Core.Path.{◌≡◌, refl, sym, ap, ◌∙◌}
use mathlib.Core.Logic.{◌≢◌}
use mathlib.Core.Bool.{Bool, true, false, cond}
use mathlib.Core.List.{List, [], ◌∷◌, append-nil}
use native.Mathlib.Numerals.{add-one}
use native.Mathlib.Omega.{arith}
use borrow.Author.Tests.{eq-eqb, ne_eqb}
use lib.ListN.{length, get_or, set, length-set, length-append}
use lib.Dec.{eqb}
use Rattle.scratch.specs.Over.{over}
use Rattle.scratch.proofs.Over.{length_over, over_push}
use Rattle.places.specs.Places.{Adjacent, EndsBelow, places, other_end, entry_in, end_in}
use Rattle.places.proofs.Places.{other_below}
use Rattle.places.proofs.Walk.{Along, along_start, along_turn, along_end, walk_turn, turn_entry, turn_other}
use Rattle.reason.specs.Stages.{marked, mark_all, threes, Pushed}

pub marked_free : {v : ℕ} → v ≡ 2 → 2 ≡ marked v
marked_free {v} e = rw (eq-eqb v 2 e) refl

pub marked_fixed : {v : ℕ} → v ≢ 2 → 3 ≡ marked v
marked_fixed {v} n = rw (ne_eqb v 2 n) refl

-- ---- mark: p is the place to come

pub record Marking (rows cols u values₀ : List ℕ) (i end p : ℕ) (values : List ℕ) : Type 0 where
  pub ends : EndsBelow (length values₀) rows cols
  pub long : length values ≡ length values₀
  pub along : Along (mark_all rows cols i) (length values₀) rows cols u u i end p values₀ values

pub mark_start : {rows cols u values : List ℕ} {i a b : ℕ} → EndsBelow (length values) rows cols → Adjacent (length values) rows cols u → i < length values
    → a ≡ get_or u i 0 → b ≡ get_or u (i + 1) 0 → Marking rows cols u values i b a values
mark_start {rows} {cols} {u} {values} {i} E A l ea eb = record { ends = E; long = refl; along = along_start (mark_all rows cols i) values A l ea eb }

module _ {rows cols u values₀ values : List ℕ} {i end p : ℕ} (M : Marking rows cols u values₀ i end p values) (l : p < end) where
  pub mark_index : length values₀ + 1 + p < length u
  mark_index = (walk_turn M.along.walk l).index

  mark_other : {t : ℕ} → t ≡ end_in (get_or u (length values₀ + 1 + p) 0) → t ≡ other_end rows cols i (entry_in (get_or u (length values₀ + 1 + p) 0))
  mark_other = turn_other (walk_turn M.along.walk l) refl

  pub mark_below : {t : ℕ} → t ≡ end_in (get_or u (length values₀ + 1 + p) 0) → t < length values
  mark_below e = rw (mark_other e) (omega (arith, other_below rows cols i _ M.ends (turn_entry (walk_turn M.along.walk l) refl), M.long))

  pub mark_turn : {t v : ℕ} → t ≡ end_in (get_or u (length values₀ + 1 + p) 0) → v ≡ marked (get_or values t 0) → Marking rows cols u values₀ i end (p + 1) (set values t v)
  unfolding mark_all
  mark_turn {t} {v} e x = record {
    ends = M.ends;
    long = length-set values t v ∙ M.long;
    along = along_turn M.along l refl (λ ks. rw (x, mark_other e) refl);
  }

pub mark_done : {rows cols u values₀ values : List ℕ} {i end p : ℕ} → Marking rows cols u values₀ i end p values → end ≤ p → values ≡ mark_all rows cols i values₀ (places rows cols i)
unfolding mark_all
mark_done M l = along_end M.along l

-- ---- count_marked

pub counted_none : {v count : ℕ} → v ≢ 3 → count ≡ cond (eqb v 3) (count + 1) count
counted_none {v} n = rw (ne_eqb v 3 n) refl

pub counted_one : {v : ℕ} (count : ℕ) → v ≡ 3 → count + 1 ≡ cond (eqb v 3) (count + 1) count
counted_one {v} count e = rw (eq-eqb v 3 e) refl

pub record Counting (marks : List ℕ) (j count : ℕ) : Type 0 where
  pub to : j ≤ length marks
  pub few : count ≤ j
  pub is : count ≡ length (threes marks j)

pub count_start : {marks : List ℕ} → Counting marks 0 0
unfolding threes
count_start = record { to = omega arith; few = omega arith; is = refl }

pub count_turn : {marks : List ℕ} {j count r : ℕ} → Counting marks j count → j < length marks → r ≡ cond (eqb (get_or marks j 0) 3) (count + 1) count → Counting marks (j + 1) r
unfolding threes
count_turn {marks} {j} {count} {r} C l e = go (eqb (get_or marks j 0) 3) refl
  where
    go : (b : Bool) → eqb (get_or marks j 0) 3 ≡ b → Counting marks (j + 1) r
    go true f = let z : r ≡ count + 1 = e ∙ rw f refl in record { to = omega arith; few = omega (arith, C.few); is = rw (add-one j, f) (omega (arith, C.is, length-append (threes marks j) (j ∷ []))) }
    go false f = let z : r ≡ count = e ∙ rw f refl in record { to = omega arith; few = omega (arith, C.few); is = rw (add-one j, f, append-nil (threes marks j)) (z ∙ C.is) }

pub count_done : {marks : List ℕ} {j count : ℕ} → Counting marks j count → length marks ≤ j → count ≡ length (threes marks (length marks))
count_done {marks} {j} C l = let e : j ≡ length marks = omega (arith, C.to) in C.is ∙ ap (λ (k : ℕ). length (threes marks k)) e

-- ---- list_marked

threes_suc : (marks : List ℕ) (j : ℕ) → length (threes marks j) ≤ length (threes marks (suc j))
unfolding threes
threes_suc marks j = omega (arith, length-append (threes marks j) (cond (eqb (get_or marks j 0) 3) (j ∷ []) []))

threes_grow : (marks : List ℕ) (j k : ℕ) → length (threes marks j) ≤ length (threes marks (j + k))
threes_grow marks j zero = let e : j + 0 ≡ j = omega arith in rw e (omega arith)
threes_grow marks j (suc k) = let e : j + suc k ≡ suc (j + k) = omega arith in rw e (omega (arith, threes_suc marks (j + k), threes_grow marks j k))

pub record Listing (marks list₀ : List ℕ) (j : ℕ) (list : List ℕ) (count : ℕ) : Type 0 where
  pub to : j ≤ length marks
  pub fits : length (threes marks (length marks)) ≤ length list₀
  pub list_is : list ≡ over (threes marks j) list₀
  pub count_is : count ≡ length (threes marks j)

pub list_start : {marks list : List ℕ} → length (threes marks (length marks)) ≤ length list → Listing marks list 0 list 0
unfolding threes over
list_start l = record { to = omega arith; fits = l; list_is = refl; count_is = refl }

module _ {marks list₀ list : List ℕ} {j count : ℕ} (L : Listing marks list₀ j list count) where
  fits_to : (k : ℕ) → k ≤ length marks → length (threes marks k) ≤ length list₀
  fits_to k l = let e : k + (length marks - k) ≡ length marks = omega arith in omega (arith, rw e at (threes_grow marks k (length marks - k)), L.fits)

  pub list_long : length list ≡ length list₀
  list_long = rw L.list_is (length_over (threes marks j) list₀ (fits_to j L.to))

  pub list_room : j < length marks → eqb (get_or marks j 0) 3 ≡ true → count < length list
  unfolding threes
  list_room l e =
      let more : length (threes marks (suc j)) ≡ length (threes marks j) + 1 = rw e (length-append (threes marks j) (j ∷ [])) in
      omega (arith, more, fits_to (suc j) l, list_long, L.count_is)

  pub list_turn : {list' : List ℕ} {r : ℕ} → j < length marks → Pushed (get_or marks j 0) j count list list' r → Listing marks list₀ (j + 1) list' r
  unfolding threes
  list_turn {list'} {r} l P = go (eqb (get_or marks j 0) 3) refl
    where
      go : (b : Bool) → eqb (get_or marks j 0) 3 ≡ b → Listing marks list₀ (j + 1) list' r
      go true e = record {
        to = omega arith;
        fits = L.fits;
        list_is = rw (add-one j, P.list_is, e, L.list_is) (over_push (threes marks j) list₀ count j (sym L.count_is) (omega (arith, list_room l e, list_long)));
        count_is = rw (add-one j, P.end_is, e) (omega (arith, L.count_is, length-append (threes marks j) (j ∷ [])));
      }
      go false e = record {
        to = omega arith;
        fits = L.fits;
        list_is = rw (add-one j, P.list_is, e, append-nil (threes marks j)) L.list_is;
        count_is = rw (add-one j, P.end_is, e, append-nil (threes marks j)) L.count_is;
      }

  pub list_done : length marks ≤ j → list ≡ over (threes marks (length marks)) list₀
  list_done l = let e : j ≡ length marks = omega (arith, L.to) in L.list_is ∙ ap (λ (k : ℕ). over (threes marks k) list₀) e

pub push_none : {v j count : ℕ} {list : List ℕ} → v ≢ 3 → Pushed v j count list list count
push_none {v} n = let e = ne_eqb v 3 n in record { list_is = rw e refl; end_is = rw e refl }

pub push_one : {v j count : ℕ} {list : List ℕ} → v ≡ 3 → Pushed v j count list (set list count j) (count + 1)
push_one {v} n = let e = eq-eqb v 3 n in record { list_is = rw e refl; end_is = rw e refl }
