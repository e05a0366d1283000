-- The search for an entry among the places of its row. Assumes nothing.
use Prim.Native.Nat.{ℕ, ◌+◌, ◌<◌, ◌≤◌}
use mathlib.Core.Path.{◌≡◌, sym, ◌∙◌}
use mathlib.Core.Bool.{true, false}
use mathlib.Core.List.{List, ◌∷◌}
use lib.Dec.{eqb}
use lib.ListN.{get_or}
use borrow.Author.Tests.{eq-eqb, ne_eqb}
use Rattle.field.specs.Field.{Field, variables, entries}
use Rattle.places.specs.Places.{entry_in}
use Rattle.places.proofs.Walk.{Along, along_start, along_turn, along_end, walk_turn}
use Rattle.enumeration.specs.Held.{Placed}
use Rattle.enumeration.specs.Terms.{stands, entry_from, entry_of}

-- ---- one entry

module _ (rows cols : List ℕ) (k i j : ℕ) {a : ℕ} (ea : a ≡ get_or rows k 0) where
  pub stands_by : {b : ℕ} → a ≡ i → b ≡ get_or cols k 0 → eqb b j ≡ stands rows cols i j k
  unfolding stands
  stands_by e eb = rw (eb, eq-eqb _ i (sym ea ∙ e))

  pub stands_not : (a ≡ i → ⊥) → eqb a i ≡ stands rows cols i j k
  unfolding stands
  stands_not ne = rw (ea, ne_eqb (get_or rows k 0) i (rw ea at ne))

-- ---- the loop

-- the loop stands at place p of i, and has not found the entry
pub record Seeking (F : Field) (i j : ℕ) (u : List ℕ) (end p : ℕ) : Type 0 where
  pub along : Along {A = Unit {0}} (λ _. entry_from F i j) (variables F) F.rows F.cols u u i end p tt tt

pub seek_start : {F : Field} {u : List ℕ} {i a b : ℕ} (j : ℕ) → Placed F u → i < variables F → a ≡ get_or u i 0 → b ≡ get_or u (i + 1) 0 → Seeking F i j u b a
seek_start {F} {i = i} j H h ea eb = record { along = along_start (λ _. entry_from F i j) tt H.adjacent h ea eb }

module _ {F : Field} {i j : ℕ} {u : List ℕ} {end p : ℕ} (L : Seeking F i j u end p) {k : ℕ} (l : p < end) (ek : k ≡ entry_in (get_or u (variables F + 1 + p) 0)) where
  pub seek_turn : false ≡ stands F.rows F.cols i j k → Seeking F i j u end (p + 1)
  unfolding entry_from
  seek_turn e = record { along = along_turn L.along l ek step }
    where
      step : (ks : List ℕ) → entry_from F i j (k ∷ ks) ≡ entry_from F i j ks
      step ks = rw (← e)

  pub seek_found : true ≡ stands F.rows F.cols i j k → k ≡ entry_of F i j
  unfolding entry_from entry_of
  seek_found e = let w = (walk_turn L.along.walk l).cons in rw (w, ← ek, ← e) at L.along.folded

pub seek_none : {F : Field} {i j : ℕ} {u : List ℕ} {end p : ℕ} → Seeking F i j u end p → end ≤ p → entries F ≡ entry_of F i j
unfolding entry_from entry_of
seek_none L h = along_end L.along h
