-- The report holds exactly the changes, in input order. Assumes nothing.
use Prim.Native.Nat.{ℕ, zero, suc, ◌+◌, ◌*◌, ◌<◌, ◌≤◌}
use mathlib.Core.Path.{◌≡◌, refl, sym, ap, ◌∙◌, subst}
use mathlib.Core.Logic.{◌⊎◌, inl, inr, ⊎_elim, ◌↔◌}
use mathlib.Core.Bool.{Bool, true, false, true≢false}
use mathlib.Core.List.Memᴰ
use mathlib.Core.List.{List, [], ◌∷◌, ◌++◌, append-nil, Memᴰ}
use native.Mathlib.Nat.{eq-or-lt_of_le, le_of_suc-le-suc}
use native.Mathlib.Omega.{arith}
use borrow.Author.Tests.{ltb-true, ltb-false, ne_eqb, eqb-false}
use lib.Dec.{eqb, ltb}
use lib.ListN.{length, get_or, length-append, get_or-append}
use lib.Seq.{get_or-append-add}
use Rattle.scratch.proofs.Means.{both_is, lt_is}
use Rattle.field.specs.Field.{Field, variables, entries, row_end, column_end}
use Rattle.mending.specs.Places.{is_inside, place_of, places_of, row_in, column_in}
use Rattle.mending.specs.Changes.{Change, dropped, moved, joined, position_of, is_first, change_at, changes_to, changes_of}
use Rattle.mending.specs.Meaning.{Inside, Goes, Same, Happens, drops, joins, moves, input_of, InputRises}
use Rattle.mending.proofs.Entries.{inside_at, inside_below}
use Rattle.mending.proofs.Kept.{parts_of, at_place, place_at, stands, once, names, none_before, some_before}
use Rattle.mending.proofs.Accepted.{mended_long, mended_row, mended_column, mended_place}

-- ---- what the model's tests mean

module _ (F : Field) (k : ℕ) where
  inside_means : (is_inside F k ≡ true) ↔ Inside F k
  inside_means =
      let t = both_is (ltb (row_end F k) (variables F)) (ltb (column_end F k) (variables F)) (lt_is _ _) (lt_is _ _) in
      ((λ e. let h = t.0 e in record { row_below = h.0; column_below = h.1 }), λ I. t.1 (I.row_below, I.column_below))

  module _ (I : Inside F k) where
    number : column_end F k * variables F + row_end F k ≡ place_of F k
    number = inside_at F k refl refl I.row_below I.column_below

    same_place : (j : ℕ) → Same F j k → place_of F j ≡ place_of F k
    same_place j S = place_at F (row_end F k) (column_end F k) I.row_below I.column_below j S.row S.column ∙ number

    place_same : (j : ℕ) → place_of F j ≡ place_of F k → Same F j k
    place_same j e =
        let A = at_place F (row_end F k) (column_end F k) I.row_below I.column_below j (e ∙ sym number) in
        record { row = A.0; column = A.1 }

    module _ (K : k < entries F) where
      there : (position_of F (place_of F k) < length (places_of F)) × (get_or (places_of F) (position_of F (place_of F k)) 0 ≡ place_of F k)
      there = stands F (place_of F k) (inside_below F k (inside_means.1 I)) (names F (place_of F k) (entries F) k K refl)

      -- the output position of its place
      pub goes_there : Goes F k (position_of F (place_of F k))
      goes_there =
          let n = variables F in
          let P = parts_of n (row_end F k) (column_end F k) I.row_below in
          record {
            entry = omega (arith, there.0, mended_long F);
            row = mended_row F (position_of F (place_of F k)) there.0 ∙ ap (row_in n) (there.1 ∙ sym number) ∙ P.1;
            column = mended_column F (position_of F (place_of F k)) there.0 ∙ ap (column_in n) (there.1 ∙ sym number) ∙ P.0;
          }

      pub goes_only : {o : ℕ} → Goes F k o → position_of F (place_of F k) ≡ o
      goes_only {o} G =
          let h : o < length (places_of F) = omega (arith, G.entry, mended_long F) in
          let at : get_or (places_of F) o 0 ≡ place_of F k = sym (mended_place F o h) ∙ rw (G.row, G.column) number in
          once F (position_of F (place_of F k)) o there.0 h (there.1 ∙ sym at)

-- ---- the change of an entry

-- it is the only one, it is of this entry, and it happens
record Told (F : Field) (k : ℕ) (x : Change) : Type 0 where
  pub is : change_at F k ≡ x ∷ []
  pub input : input_of x ≡ k
  pub happens : Happens F x

module _ (F : Field) (k : ℕ) (K : k < entries F) where
  told : (change_at F k ≡ []) ⊎ ((x : Change) × Told F k x)
  unfolding change_at
  told = go (is_inside F k) (is_first F k) (eqb (position_of F (place_of F k)) k) refl refl refl
    where
      o : ℕ
      o = position_of F (place_of F k)

      go : (a b c : Bool) → is_inside F k ≡ a → is_first F k ≡ b → eqb (position_of F (place_of F k)) k ≡ c → (change_at F k ≡ []) ⊎ ((x : Change) × Told F k x)
      go false b c p q s = inr (
        dropped k,
        record {
          is = rw p;
          input = refl;
          happens = drops K (λ I. true≢false (sym ((inside_means F k).1 I) ∙ p));
        },
      )
      go true false c p q s =
          let I = (inside_means F k).0 p in
          let E = some_before F (place_of F k) k q in
          inr (
            joined k (position_of F (place_of F k)),
            record {
              is = rw (p, q);
              input = refl;
              happens = joins E.0 K I E.1.0 (place_same F k I E.0 E.1.1) (goes_there F k I K);
            },
          )
      go true true true p q s = inl (rw (p, q, s))
      go true true false p q s =
          let I = (inside_means F k).0 p in
          inr (
            moved k (position_of F (place_of F k)),
            record {
              is = rw (p, q, s);
              input = refl;
              happens = moves K I (λ j l S. none_before F (place_of F k) k q j l (same_place F k I j S)) (goes_there F k I K) (eqb-false _ _ s);
            },
          )

-- what happens is told at its entry
module _ (F : Field) where
  found : (x : Change) → Happens F x → (input_of x < entries F) × Memᴰ x (change_at F (input_of x))
  unfolding change_at
  found (dropped k) (drops K out) = (K, rw (outside (is_inside F k) refl) (Memᴰ.head refl))
    where
      outside : (b : Bool) → is_inside F k ≡ b → is_inside F k ≡ false
      outside true e = absurd (out ((inside_means F k).0 e))
      outside false e = e
  found (joined k o) (joins j K I J S G) =
      let e = goes_only F k I K G in
      (K, rw ((inside_means F k).1 I, names F (place_of F k) k j J (same_place F k I j S), e) (Memᴰ.head refl))
  found (moved k o) (moves K I none G n) =
      let e = goes_only F k I K G in
      (K, rw ((inside_means F k).1 I, first (is_first F k) refl, e, ne_eqb o k n) (Memᴰ.head refl))
    where
      first : (b : Bool) → is_first F k ≡ b → is_first F k ≡ true
      first true z = z
      first false z = let E = some_before F (place_of F k) k z in absurd (none E.0 E.1.0 (place_same F k I E.0 E.1.1))

  -- ---- all of them

  sound_to : (k : ℕ) → k ≤ entries F → (x : Change) → Memᴰ x (changes_to F k) → (input_of x < k) × Happens F x
  unfolding changes_to
  sound_to zero h x m = absurd (Memᴰ.not-nil m)
  sound_to (suc k) h x m = ⊎_elim (λ i. let t = sound_to k (omega arith) x i in (omega (arith, t.0), t.1)) (λ i. here i (told F k h)) (Memᴰ.append_cases (changes_to F k) m)
    where
      here : Memᴰ x (change_at F k) → (change_at F k ≡ []) ⊎ ((y : Change) × Told F k y) → (input_of x < suc k) × Happens F x
      here i (inl e) = absurd (Memᴰ.not-nil (subst (λ (l : List Change). Memᴰ x l) e i))
      here i (inr (y, T)) =
          let e : x ≡ y = Memᴰ.eq_of_singleton (subst (λ (l : List Change). Memᴰ x l) T.is i) in
          rw e (omega (arith, T.input), T.happens)

  all_to : (k j : ℕ) → j < k → (x : Change) → Memᴰ x (change_at F j) → Memᴰ x (changes_to F k)
  unfolding changes_to
  all_to zero j h x m = absurd (omega arith)
  all_to (suc k) j h x m = ⊎_elim (λ e. Memᴰ.append_right (changes_to F k) (subst (λ (i : ℕ). Memᴰ x (change_at F i)) e m)) (λ l. Memᴰ.append_left (change_at F k) (all_to k j l x m)) (eq-or-lt_of_le (le_of_suc-le-suc h))

  pub report_exactly : (x : Change) → Memᴰ x (changes_of F) ↔ Happens F x
  unfolding changes_of
  report_exactly x = ((λ m. (sound_to (entries F) (omega arith) x m).1), λ h. let f = found x h in all_to (entries F) (input_of x) f.0 x f.1)

  -- ---- in input order

  module _ (l : List Change) (x : Change) (below : (t : ℕ) → t < length l → input_of (get_or l t (dropped 0)) < input_of x) where
    last_at : get_or (l ++ x ∷ []) (length l) (dropped 0) ≡ x
    last_at = ap (λ (i : ℕ). get_or (l ++ x ∷ []) i (dropped 0)) (plus (length l)) ∙ get_or-append-add l (x ∷ []) 0 (dropped 0)
      where
        plus : (n : ℕ) → n ≡ n + 0
        plus n = omega arith

    rises_on : InputRises l → InputRises (l ++ x ∷ [])
    rises_on R t h = go (ltb (suc t) (length l)) refl
      where
        go : (b : Bool) → ltb (suc t) (length l) ≡ b → input_of (get_or (l ++ x ∷ []) t (dropped 0)) < input_of (get_or (l ++ x ∷ []) (suc t) (dropped 0))
        go true e =
            let s = ltb-true (suc t) (length l) e in
            rw (get_or-append l (x ∷ []) (dropped 0) t (omega arith), get_or-append l (x ∷ []) (dropped 0) (suc t) s) (R t s)
        go false e =
            let s : suc t ≡ length l = omega (arith, ltb-false (suc t) (length l) e, length-append l (x ∷ [])) in
            rw (get_or-append l (x ∷ []) (dropped 0) t (omega arith), s, last_at) (below t (omega arith))

    below_on : (b : ℕ) → input_of x < b → (t : ℕ) → t < length (l ++ x ∷ []) → input_of (get_or (l ++ x ∷ []) t (dropped 0)) < b
    below_on b h t g = go (ltb t (length l)) refl
      where
        go : (c : Bool) → ltb t (length l) ≡ c → input_of (get_or (l ++ x ∷ []) t (dropped 0)) < b
        go true e = rw (get_or-append l (x ∷ []) (dropped 0) t (ltb-true _ _ e)) (omega (arith, below t (ltb-true _ _ e)))
        go false e =
            let s : t ≡ length l = omega (arith, ltb-false t (length l) e, length-append l (x ∷ [])) in
            rw (s, last_at) h

  rise_to : (k : ℕ) → k ≤ entries F → InputRises (changes_to F k) × ((t : ℕ) → t < length (changes_to F k) → input_of (get_or (changes_to F k) t (dropped 0)) < k)
  unfolding changes_to
  rise_to zero h = ((λ t g. absurd (omega arith)), λ t g. absurd (omega arith))
  rise_to (suc k) h = go (told F k h) (rise_to k (omega arith))
    where
      go : (change_at F k ≡ []) ⊎ ((x : Change) × Told F k x) → InputRises (changes_to F k) × ((t : ℕ) → t < length (changes_to F k) → input_of (get_or (changes_to F k) t (dropped 0)) < k)
          → InputRises (changes_to F k ++ change_at F k) × ((t : ℕ) → t < length (changes_to F k ++ change_at F k) → input_of (get_or (changes_to F k ++ change_at F k) t (dropped 0)) < suc k)
      go (inl e) R = rw (e, append-nil (changes_to F k)) (R.0, λ t g. omega (arith, R.1 t g))
      go (inr (x, T)) R =
          let below : (t : ℕ) → t < length (changes_to F k) → input_of (get_or (changes_to F k) t (dropped 0)) < input_of x = λ t g. rw T.input (R.1 t g) in
          rw T.is (rises_on (changes_to F k) x below R.0, below_on (changes_to F k) x below (suc k) (omega (arith, T.input)))

  pub input_rises : InputRises (changes_of F)
  unfolding changes_of
  input_rises = (rise_to (entries F) (omega arith)).0
