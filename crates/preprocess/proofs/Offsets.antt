-- A variable whose offset is the next one's has no place, and so no entry: the offsets tell the variables of no effect. Assumes nothing.
use Prim.Native.Nat.{ℕ, zero, suc, ◌+◌, ◌<◌}
use mathlib.Core.Path.{◌≡◌, refl, sym, ap, ◌∙◌}
use mathlib.Core.Logic.{◌≢◌, inl, inr}
use mathlib.Core.Bool.{Bool, true, false, not, ◌&&◌, ◌||◌, true≢false, false≢true}
use mathlib.Core.List.{List, [], ◌∷◌}
use native.Mathlib.Decide.{dec_lt}
use native.Mathlib.Omega.{arith}
use borrow.Author.Tests.{eq-eqb, ne_eqb}
use lib.Dec.{eqb}
use lib.ListN.{length, get_or}
use lib.Ieee.{Float, nan, eq}
use Rattle.weights.specs.Worth.{zero64}
use Rattle.scratch.proofs.All.{both, all_means}
use Rattle.field.specs.Field.{field_of}
use Rattle.places.specs.Places.{keep, places_from, places, degree, Adjacent, Touches}
use Rattle.places.proofs.Places.{places_touch}
use Rattle.places.proofs.Walk.{part_long}
use Rattle.no_effect.specs.Effect.{apart_at, untouched, has_no_effect}
use Rattle.preprocess.specs.Working.{idle}

-- ---- places and entries

-- an entry with an end at i makes a place
some_place : (rows cols : List ℕ) (i k j : ℕ) → j < length rows → length cols ≡ length rows → Touches rows cols i j → 0 < length (places_from rows cols i k)
unfolding places_from keep
some_place [] cols i k j h e t = absurd (omega arith)
some_place (r ∷ rows) [] i k j h e t = absurd (omega arith)
some_place (r ∷ rows) (c ∷ cols) i k zero h e (inl t) = rw (eq-eqb r i t) (omega arith)
some_place (r ∷ rows) (c ∷ cols) i k zero h e (inr t) = rw (eq-eqb c i t) (here (eqb r i))
  where
    here : (b : Bool) → 0 < length (keep (b || true) k (places_from rows cols i (suc k)))
    here true = omega arith
    here false = omega arith
some_place (r ∷ rows) (c ∷ cols) i k (suc j) h e t = more (eqb r i || eqb c i) (some_place rows cols i (suc k) j (omega arith) (omega arith) t)
  where
    more : (b : Bool) → 0 < length (places_from rows cols i (suc k)) → 0 < length (keep b k (places_from rows cols i (suc k)))
    more true l = omega arith
    more false l = l

module _ (rows cols : List ℕ) (i : ℕ) where
  -- one that is apart from i has no end there
  apart_not : (k : ℕ) → Touches rows cols i k → apart_at rows cols i k ≡ true → ⊥
  apart_not k (inl t) e = false≢true (rw (eq-eqb (get_or rows k 0) i t) at e)
  apart_not k (inr t) e = false≢true (rw (eq-eqb (get_or cols k 0) i t) at (both (not (eqb (get_or rows k 0) i)) (not (eqb (get_or cols k 0) i)) e).1)

  no_place : untouched rows cols i ≡ true → degree rows cols i ≡ 0
  unfolding untouched
  no_place e = elim (dec_lt 0 (degree rows cols i)) [
    | yes l ↦ let t = places_touch rows cols i 0 l in absurd (apart_not _ t.1 ((all_means (apart_at rows cols i) (length rows)).0 e _ t.0))
    | no n ↦ omega arith
  ]

  no_entry : length cols ≡ length rows → degree rows cols i ≡ 0 → untouched rows cols i ≡ true
  unfolding untouched places
  no_entry same none = (all_means (apart_at rows cols i) (length rows)).1 (λ k l. apart k l)
    where
      never : (k : ℕ) → k < length rows → Touches rows cols i k → ⊥
      never k l t = omega (arith, some_place rows cols i 0 k l same t)

      apart : (k : ℕ) → k < length rows → apart_at rows cols i k ≡ true
      apart k l = rw (ne_eqb (get_or rows k 0) i (λ e. never k l (inl e)), ne_eqb (get_or cols k 0) i (λ e. never k l (inr e)))

-- ---- the offsets

module _ {n : ℕ} {rows cols u : List ℕ} (A : Adjacent n rows cols u) (same : length cols ≡ length rows) where
  offsets_mean : (i : ℕ) → i < n → eqb (get_or u i 0) (get_or u (i + 1) 0) ≡ untouched rows cols i
  offsets_mean i h = go (untouched rows cols i) refl
    where
      some : untouched rows cols i ≡ false → get_or u i 0 ≢ get_or u (i + 1) 0
      some e z = true≢false (sym (no_entry rows cols i same (omega (arith, part_long A h))) ∙ e)

      go : (b : Bool) → untouched rows cols i ≡ b → eqb (get_or u i 0) (get_or u (i + 1) 0) ≡ b
      go true e = eq-eqb (get_or u i 0) (get_or u (i + 1) 0) (omega (arith, part_long A h, no_place rows cols i e))
      go false e = ne_eqb (get_or u i 0) (get_or u (i + 1) 0) (some e)

-- they tell what has no effect
pub idle_is : (c : List Float) (rows cols : List ℕ) (q : List Float) (u : List ℕ) → Adjacent (length c) rows cols u → length cols ≡ length rows
    → (i : ℕ) → i < length c → idle c u i ≡ has_no_effect (field_of c rows cols q) i
unfolding has_no_effect
idle_is c rows cols q u A same i h = ap (λ (b : Bool). b && eq (get_or c i nan) zero64) (offsets_mean A same i h)
