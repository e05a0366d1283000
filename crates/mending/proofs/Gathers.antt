-- The pass over the entries place by place gathers the named places, their sums, and the mark of each entry. Assumes nothing.
use Prim.Native.Nat.{ℕ, zero, suc, ◌+◌, ◌-◌, ◌<◌, ◌≤◌}
use mathlib.Core.Path.{◌≡◌, refl, sym, ap, ◌∙◌}
use mathlib.Core.Logic.{◌≢◌, ◌⊎◌, inl, inr, ⊎_elim}
use mathlib.Core.Bool.{Bool, true, false, cond}
use mathlib.Core.List.{List, [], ◌∷◌, ◌++◌, map, append-nil, map-append}
use native.Mathlib.Nat.{eq-or-lt_of_le, le_of_suc-le-suc}
use native.Mathlib.Decide.{ℕ_discrete}
use native.Mathlib.Omega.{arith}
use borrow.Author.Tests.{eq-eqb, ne_eqb, eqb-true, eqb-false, lt-ltb, le-ltb}
use lib.Dec.{eqb}
use lib.ListN.{length, get_or, set, length-append, length-set, length-map}
use lib.Seq.{get_or-set_same, get_or-set_other, set_at, get_or-append-add}
use lib.Ieee.{Float, nan, binary64, add}
use Rattle.ranking.proofs.Ordered.{Every, every_append, every_at}
use Rattle.field.specs.Field.{Field, entries, quad_of}
use Rattle.mending.specs.Places.{is_inside, all_places, place_of, entries_to, entries_at, onto, added, sum_at, is_empty, places_to, places_of}
use Rattle.mending.specs.Changes.{position_of}
use Rattle.mending.specs.Lineup.{lineup_to, lineup}
use Rattle.mending.specs.Gathering.{dropped_mark, first_mark, joined_mark, mark_of, Gathered, gathered, is_last_of, take_one, take_all_of}
use Rattle.mending.proofs.Entries.{entry_here, entry_elsewhere, below_inside, inside_below, place_most}

-- ---- sums

onto_last : (x : Float) (l : List Float) (y : Float) → onto x (l ++ y ∷ []) ≡ add binary64 (onto x l) y
unfolding onto
onto_last x [] y = refl
onto_last x (z ∷ l) y = onto_last (add binary64 x z) l y

-- one weight more
pub added_last : (l : List Float) (y : Float) → added (l ++ y ∷ []) ≡ cond (is_empty l) y (add binary64 (added l) y)
unfolding added onto
added_last [] y = refl
added_last (x ∷ l) y = onto_last x l y

-- ---- places

pub places_below : (F : Field) (p : ℕ) → Every (λ x. x < p) (places_to F p)
unfolding places_to
places_below F zero = tt
places_below F (suc p) = go (is_empty (entries_at F p)) (wider (places_to F p) (places_below F p))
  where
    wider : (l : List ℕ) → Every (λ x. x < p) l → Every (λ x. x < suc p) l
    wider [] h = tt
    wider (x ∷ l) h = (omega (arith, h.0), wider l h.1)

    go : (b : Bool) → Every (λ x. x < suc p) (places_to F p) → Every (λ x. x < suc p) (cond b (places_to F p) (places_to F p ++ p ∷ []))
    go true h = h
    go false h = every_append (λ x. x < suc p) (places_to F p) (p ∷ []) h (omega arith, tt)

module _ (p : ℕ) where
  pub last_not : (l : List ℕ) → Every (λ x. x < p) l → is_last_of p l ≡ false
  unfolding is_last_of
  last_not [] h = refl
  last_not (x ∷ l) h =
      let z : get_or (x ∷ l) (length (x ∷ l) - 1) 0 < p = every_at (λ y. y < p) (x ∷ l) h (length (x ∷ l) - 1) (omega arith) in
      ne_eqb (get_or (x ∷ l) (length (x ∷ l) - 1) 0) p (λ e. omega arith)

  last_is : (l : List ℕ) → is_last_of p (l ++ p ∷ []) ≡ true
  unfolding is_last_of
  last_is [] = eq-eqb p p refl
  last_is (x ∷ l) =
      let i : length (x ∷ (l ++ p ∷ [])) - 1 ≡ length (x ∷ l) + 0 = omega (arith, length-append l (p ∷ [])) in
      eq-eqb (get_or (x ∷ (l ++ p ∷ [])) (length (x ∷ (l ++ p ∷ [])) - 1) 0) p
      (ap (λ (j : ℕ). get_or (x ∷ (l ++ p ∷ [])) j 0) i ∙ get_or-append-add (x ∷ l) (p ∷ []) 0 0)

the_last : (i n : ℕ) → i ≡ n → i ≡ n + 0
the_last i n e = omega arith

-- ---- where the pass stands

-- before place p all is gathered, and at p its first j entries
record Stage (F : Field) (p j : ℕ) (g : Gathered) : Type 0 where
  pub places : g.places ≡ places_to F p ++ cond (is_empty (entries_to F p j)) [] (p ∷ [])
  pub sums : g.sums ≡ map (sum_at F) (places_to F p) ++ cond (is_empty (entries_to F p j)) [] (added (map (quad_of F) (entries_to F p j)) ∷ [])
  pub long : length g.marks ≡ entries F
  pub marks : (k : ℕ) → k < entries F → (place_of F k < p) ⊎ ((place_of F k ≡ p) × (k < j)) → get_or g.marks k 0 ≡ mark_of F k

pub take_append : (F : Field) (g : Gathered) (a b : List ℕ) → take_all_of F g (a ++ b) ≡ take_all_of F (take_all_of F g a) b
unfolding take_all_of
take_append F g [] b = refl
take_append F g (e ∷ a) b = take_append F (take_one F g e) a b

-- a mark set, among those that are right
mark_set : (F : Field) (ms : List ℕ) (e v : ℕ) (P : ℕ → Type 0) → length ms ≡ entries F → e < entries F → v ≡ mark_of F e
    → ((k : ℕ) → k < entries F → k ≢ e → P k → get_or ms k 0 ≡ mark_of F k) → (k : ℕ) → k < entries F → P k → get_or (set ms e v) k 0 ≡ mark_of F k
mark_set F ms e v P long h ev old k l q = elim (ℕ_discrete k e) [
  | yes y ↦ rw y (get_or-set_same ms e v 0 (omega arith) ∙ ev)
  | no y ↦ get_or-set_other ms e k v 0 y ∙ old k l y q
]

module _ (F : Field) (p : ℕ) (P : p < all_places F) (j : ℕ) (J : j < entries F) where
  -- an entry elsewhere
  stays : {g : Gathered} → Stage F p j g → place_of F j ≢ p → Stage F p (suc j) g
  stays {g} S n = record {
    places = rw (entry_elsewhere F p j n) S.places;
    sums = rw (entry_elsewhere F p j n) S.sums;
    long = S.long;
    marks = λ k l. ⊎_elim (λ h. S.marks k l (inl h)) (λ h. S.marks k l (inr (h.0, before k h.0 h.1)));
  }
    where
      before : (k : ℕ) → place_of F k ≡ p → k < suc j → k < j
      before k e l = elim (ℕ_discrete k j) [
        | yes y ↦ absurd (n (ap (place_of F) (sym y) ∙ e))
        | no y ↦ omega arith
      ]

  -- which marks are right with entry j
  wider : (ms : List ℕ) → ((k : ℕ) → k < entries F → (place_of F k < p) ⊎ ((place_of F k ≡ p) × (k < j)) → get_or ms k 0 ≡ mark_of F k)
      → (k : ℕ) → k < entries F → k ≢ j → (place_of F k < p) ⊎ ((place_of F k ≡ p) × (k < suc j)) → get_or ms k 0 ≡ mark_of F k
  wider ms old k l n = ⊎_elim (λ h. old k l (inl h)) (λ h. old k l (inr (h.0, omega (arith, h.1))))

  -- an entry at p
  module _ (at : place_of F j ≡ p) where
    inside : is_inside F j ≡ true
    inside = below_inside F j (rw at P)

    mark_is : mark_of F j ≡ cond (is_empty (entries_to F p j)) (first_mark (position_of F p)) (joined_mark (position_of F p))
    unfolding mark_of
    mark_is = rw (inside, at)

    joins_sum : (x : ℕ) (l : List ℕ) → entries_to F p j ≡ x ∷ l
        → added (map (quad_of F) (entries_to F p j ++ j ∷ [])) ≡ add binary64 (added (map (quad_of F) (entries_to F p j))) (quad_of F j)
    joins_sum x l e =
        ap added (map-append (quad_of F) (entries_to F p j) (j ∷ []))
        ∙ added_last (map (quad_of F) (entries_to F p j)) (quad_of F j)
        ∙ ap (λ (b : Bool). cond b (quad_of F j) (add binary64 (added (map (quad_of F) (entries_to F p j))) (quad_of F j))) (ap (λ (z : List ℕ). is_empty (map (quad_of F) z)) e)

    takes : {g : Gathered} → Stage F p j g → Stage F p (suc j) (take_one F g j)
    unfolding take_one added onto
    takes {g} S = rw (at, lt-ltb p (all_places F) P) (go (entries_to F p j) refl)
      where
        opened : Gathered
        opened = gathered (g.places ++ p ∷ []) (g.sums ++ quad_of F j ∷ []) (set g.marks j (first_mark (length g.places)))

        joins : Gathered
        joins = gathered g.places (set g.sums (length g.places - 1) (add binary64 (get_or g.sums (length g.places - 1) nan) (quad_of F j)))
            (set g.marks j (joined_mark (length g.places - 1)))

        go : (l : List ℕ) → entries_to F p j ≡ l → Stage F p (suc j) (cond (is_last_of p g.places) joins opened)
        go [] e =
            let ps : g.places ≡ places_to F p = rw e at S.places ∙ append-nil (places_to F p) in
            let ss : g.sums ≡ map (sum_at F) (places_to F p) = rw e at S.sums ∙ append-nil (map (sum_at F) (places_to F p)) in
            let no_last : is_last_of p g.places ≡ false = ap (is_last_of p) ps ∙ last_not p (places_to F p) (places_below F p) in
            let more : entries_to F p (suc j) ≡ j ∷ [] = entry_here F p j at ∙ ap (λ (z : List ℕ). z ++ j ∷ []) e in
            rw no_last record {
              places = rw more (ap (λ (z : List ℕ). z ++ p ∷ []) ps);
              sums = rw more (ap (λ (z : List Float). z ++ quad_of F j ∷ []) ss);
              long = length-set g.marks j _ ∙ S.long;
              marks = mark_set F g.marks j (first_mark (length g.places)) _ S.long J (ap (λ (z : List ℕ). first_mark (length z)) ps ∙ sym (rw e at mark_is)) (wider g.marks S.marks);
            }
        go (x ∷ l) e =
            let ps : g.places ≡ places_to F p ++ p ∷ [] = rw e at S.places in
            let old = added (map (quad_of F) (entries_to F p j)) in
            let ss : g.sums ≡ map (sum_at F) (places_to F p) ++ old ∷ [] = S.sums ∙ rw e in
            let is-last : is_last_of p g.places ≡ true = ap (is_last_of p) ps ∙ last_is p (places_to F p) in
            let o : length g.places - 1 ≡ position_of F p = omega (arith, ap length ps, length-append (places_to F p) (p ∷ [])) in
            let S₀ = map (sum_at F) (places_to F p) in
            let new = add binary64 old (quad_of F j) in
            let long₀ : length S₀ ≡ position_of F p = length-map (places_to F p) (sum_at F) in
            let read : get_or g.sums (length g.places - 1) nan ≡ old =
            ap (λ (z : List Float). get_or z (length g.places - 1) nan) ss
            ∙ ap (λ (i : ℕ). get_or (S₀ ++ old ∷ []) i nan) (the_last (length g.places - 1) (length S₀) (o ∙ sym long₀))
            ∙ get_or-append-add S₀ (old ∷ []) 0 nan in
            let joined-sums : set g.sums (length g.places - 1) (add binary64 (get_or g.sums (length g.places - 1) nan) (quad_of F j)) ≡ S₀ ++ new ∷ [] =
            ap (λ (y : Float). set g.sums (length g.places - 1) (add binary64 y (quad_of F j))) read
            ∙ ap (λ (z : List Float). set z (length g.places - 1) new) ss
            ∙ set_at S₀ old [] new (length g.places - 1) (long₀ ∙ sym o) in
            let here : entries_to F p (suc j) ≡ x ∷ (l ++ j ∷ []) = entry_here F p j at ∙ ap (λ (z : List ℕ). z ++ j ∷ []) e in
            let sum_is : added (map (quad_of F) (entries_to F p (suc j))) ≡ new = ap (λ (z : List ℕ). added (map (quad_of F) z)) (entry_here F p j at) ∙ joins_sum x l e in
            rw is-last record {
              places = ps ∙ ap (λ (z : List ℕ). places_to F p ++ cond (is_empty z) [] (p ∷ [])) (sym here);
              sums = joined-sums
                  ∙ ap (λ (y : Float). S₀ ++ y ∷ []) (sym sum_is)
                  ∙ ap (λ (b : Bool). S₀ ++ cond b [] (added (map (quad_of F) (entries_to F p (suc j))) ∷ [])) (sym (ap (is_empty {A = ℕ}) here));
              long = length-set g.marks j _ ∙ S.long;
              marks = mark_set F g.marks j (joined_mark (length g.places - 1)) _ S.long J (ap joined_mark o ∙ sym (rw e at mark_is)) (wider g.marks S.marks);
            }

-- ---- all places

module _ (F : Field) where
  group : (p : ℕ) → p < all_places F → (g : Gathered) → Stage F p 0 g → (j : ℕ) → j ≤ entries F → Stage F p j (take_all_of F g (entries_to F p j))
  unfolding entries_to take_all_of
  group p P g S zero h = S
  group p P g S (suc j) h = by (eqb (place_of F j) p) refl (group p P g S j (omega arith))
    where
      by : (b : Bool) → eqb (place_of F j) p ≡ b → Stage F p j (take_all_of F g (entries_to F p j)) → Stage F p (suc j) (take_all_of F g (cond b (entries_to F p j ++ j ∷ []) (entries_to F p j)))
      by true e T = rw (take_append F g (entries_to F p j) (j ∷ [])) (takes F p P j h (eqb-true (place_of F j) p e) T)
      by false e T = stays F p P j h T (eqb-false (place_of F j) p e)

  -- the next place
  next : (p : ℕ) (g : Gathered) → Stage F p (entries F) g → Stage F (suc p) 0 g
  unfolding places_to entries_to sum_at
  next p g S = record {
    places = S.places ∙ by (is_empty (entries_at F p));
    sums = S.sums ∙ sums_by (is_empty (entries_at F p));
    long = S.long;
    marks = λ k l. ⊎_elim (λ h. S.marks k l (⊎_elim (λ z. inr (z, l)) (λ z. inl z) (eq-or-lt_of_le (le_of_suc-le-suc h)))) (λ h. absurd (omega (arith, h.1)));
  }
    where
      by : (b : Bool) → places_to F p ++ cond b [] (p ∷ []) ≡ cond b (places_to F p) (places_to F p ++ p ∷ []) ++ []
      by true = refl
      by false = sym (append-nil (places_to F p ++ p ∷ []))

      sums_by : (b : Bool) → map (sum_at F) (places_to F p) ++ cond b [] (added (map (quad_of F) (entries_at F p)) ∷ []) ≡ map (sum_at F) (cond b (places_to F p) (places_to F p ++ p ∷ [])) ++ []
      sums_by true = refl
      sums_by false = sym (append-nil (map (sum_at F) (places_to F p ++ p ∷ [])) ∙ map-append (sum_at F) (places_to F p) (p ∷ []))

  up_to : (g : Gathered) → Stage F 0 0 g → (p : ℕ) → p ≤ all_places F → Stage F p 0 (take_all_of F g (lineup_to F (entries F) p))
  unfolding lineup_to take_all_of
  up_to g S zero h = S
  up_to g S (suc p) h =
      rw (take_append F g (lineup_to F (entries F) p) (entries_to F p (entries F)))
      (next p (take_all_of F (take_all_of F g (lineup_to F (entries F) p)) (entries_to F p (entries F)))
      (group p h (take_all_of F g (lineup_to F (entries F) p)) (up_to g S p (omega arith)) (entries F) (omega arith)))

  -- ---- the entries outside

  record Dropping (j : ℕ) (g : Gathered) : Type 0 where
    pub places : g.places ≡ places_of F
    pub sums : g.sums ≡ map (sum_at F) (places_of F)
    pub long : length g.marks ≡ entries F
    pub marks : (k : ℕ) → k < entries F → (place_of F k < all_places F) ⊎ (k < j) → get_or g.marks k 0 ≡ mark_of F k

  drop_start : {g : Gathered} → Stage F (all_places F) 0 g → Dropping 0 g
  unfolding places_of entries_to
  drop_start S = record {
    places = S.places ∙ append-nil (places_to F (all_places F));
    sums = S.sums ∙ append-nil (map (sum_at F) (places_to F (all_places F)));
    long = S.long;
    marks = λ k l. ⊎_elim (λ h. S.marks k l (inl h)) (λ h. absurd (omega arith));
  }

  drops : (j : ℕ) → j < entries F → place_of F j ≡ all_places F → {g : Gathered} → Dropping j g → Dropping (suc j) (take_one F g j)
  unfolding take_one mark_of
  drops j J at {g} D = rw (at, le-ltb (all_places F) (all_places F) (omega arith)) record {
    places = D.places;
    sums = D.sums;
    long = length-set g.marks j _ ∙ D.long;
    marks = mark_set F g.marks j dropped_mark (λ k. (place_of F k < all_places F) ⊎ (k < suc j)) D.long J (rw outside) (λ k l n. ⊎_elim (λ h. D.marks k l (inl h)) (λ h. D.marks k l (inr (omega arith))));
  }
    where
      outside : is_inside F j ≡ false
      outside = go (is_inside F j) refl
        where
          go : (b : Bool) → is_inside F j ≡ b → b ≡ false
          go true e = absurd (omega (arith, inside_below F j e))
          go false e = refl

  keeps : (j : ℕ) → place_of F j ≢ all_places F → {g : Gathered} → Dropping j g → Dropping (suc j) g
  keeps j n {g} D = record {
    places = D.places;
    sums = D.sums;
    long = D.long;
    marks = λ k l. ⊎_elim (λ h. D.marks k l (inl h)) (λ h. D.marks k l (before k (le_of_suc-le-suc h)));
  }
    where
      before : (k : ℕ) → k ≤ j → (place_of F k < all_places F) ⊎ (k < j)
      before k h = ⊎_elim (λ e. inl (rw e (⊎_elim (λ z. absurd (n z)) (λ z. z) (eq-or-lt_of_le (place_most F j))))) (λ z. inr z) (eq-or-lt_of_le h)

  rest : (g : Gathered) → Dropping 0 g → (j : ℕ) → j ≤ entries F → Dropping j (take_all_of F g (entries_to F (all_places F) j))
  unfolding entries_to take_all_of
  rest g D zero h = D
  rest g D (suc j) h = by (eqb (place_of F j) (all_places F)) refl (rest g D j (omega arith))
    where
      by : (b : Bool) → eqb (place_of F j) (all_places F) ≡ b → Dropping j (take_all_of F g (entries_to F (all_places F) j))
          → Dropping (suc j) (take_all_of F g (cond b (entries_to F (all_places F) j ++ j ∷ []) (entries_to F (all_places F) j)))
      by true e T = rw (take_append F g (entries_to F (all_places F) j) (j ∷ [])) (drops j h (eqb-true (place_of F j) (all_places F) e) T)
      by false e T = keeps j (eqb-false (place_of F j) (all_places F) e) T

-- the named places, their sums, and every entry's mark
pub record Complete (F : Field) (g : Gathered) : Type 0 where
  pub places : g.places ≡ places_of F
  pub sums : g.sums ≡ map (sum_at F) (places_of F)
  pub marks : (k : ℕ) → k < entries F → get_or g.marks k 0 ≡ mark_of F k

pub gathers : (F : Field) (ms : List ℕ) → length ms ≡ entries F → Complete F (take_all_of F (gathered [] [] ms) (lineup F))
unfolding lineup lineup_to places_to entries_to
gathers F ms long =
    let P = all_places F in
    let g₀ = gathered [] [] ms in
    let g₁ = take_all_of F g₀ (lineup_to F (entries F) P) in
    let start : Stage F 0 0 g₀ = record { places = refl; sums = refl; long = long; marks = λ k l. ⊎_elim (λ h. absurd (omega arith)) (λ h. absurd (omega (arith, h.1))) } in
    let D = rest F g₁ (drop_start F (up_to F g₀ start P (omega arith))) (entries F) (omega arith) in
    rw (take_append F g₀ (lineup_to F (entries F) P) (entries_to F P (entries F))) record {
      places = D.places;
      sums = D.sums;
      marks = λ k l. D.marks k l (inr l);
    }
