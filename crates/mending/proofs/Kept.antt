-- The places named inside the field, in order, and where each stands. Assumes nothing.
use Prim.Native.Nat.{ℕ, zero, suc, ◌+◌, ◌*◌, ◌-◌, ◌<◌}
use mathlib.Core.Path.{◌≡◌, refl, sym, ap, ◌∙◌}
use mathlib.Core.Logic.{◌≢◌, ◌⊎◌, inl, inr, ⊎_elim}
use mathlib.Core.Bool.{Bool, true, false, cond, ◌&&◌, true≢false}
use mathlib.Core.List.{List, [], ◌∷◌, ◌++◌, map, map-append}
use native.Mathlib.Nat.{eq-or-lt_of_le, le_of_suc-le-suc, mul-add-div_right, mul-add-mod_self_right, div-eq_of_lt, mod-eq_of_lt, div-add-mod', add-zero}
use native.Mathlib.Decide.{ℕ_discrete}
use native.Mathlib.Omega.{arith}
use borrow.Author.Tests.{eqb-true, eqb-false, eq-eqb, ltb-true, ltb-false}
use lib.Dec.{eqb, ltb}
use lib.ListN.{length, get_or, length-append, get_or-append}
use lib.Seq.{get_or-append-add}
use lib.Ieee.{Float}
use Rattle.scratch.proofs.All.{both}
use Rattle.ranking.proofs.Ordered.{Every, every_at}
use Rattle.field.specs.Field.{Field, variables, entries, row_end, column_end, quad_of}
use Rattle.mending.specs.Places.{all_places, place_of, entries_to, entries_at, added, sum_at, is_empty, places_to, places_of, row_in, column_in}
use Rattle.mending.specs.Changes.{position_of}
use Rattle.mending.specs.Meaning.{weights_to, sum_of}
use Rattle.mending.proofs.Entries.{inside_place, below_inside, inside_at, place_inside, entries_there}
use Rattle.mending.proofs.Gathers.{places_below}

-- ---- the number of a place, and back

pub parts_of : (n r c : ℕ) → r < n → (column_in n (c * n + r) ≡ c) × (row_in n (c * n + r) ≡ r)
parts_of n r c h =
    let pos : 0 < n = omega arith in
    (mul-add-div_right pos c r ∙ ap (λ (x : ℕ). c + x) (div-eq_of_lt h) ∙ add-zero c, mul-add-mod_self_right c n r ∙ mod-eq_of_lt h)

pub number_of : (n p : ℕ) → column_in n p * n + row_in n p ≡ p
number_of n p = div-add-mod' p n

-- an entry is at the place numbered c * n + r exactly if its row is r and its column c
module _ (F : Field) (r c : ℕ) (R : r < variables F) (C : c < variables F) (k : ℕ) where
  pub at_place : place_of F k ≡ c * variables F + r → (row_end F k ≡ r) × (column_end F k ≡ c)
  at_place e =
      let n = variables F in
      let inside = below_inside F k (rw e (place_inside n r c R C)) in
      let below = both (ltb (row_end F k) n) (ltb (column_end F k) n) inside in
      let same : column_end F k * n + row_end F k ≡ c * n + r = sym (inside_place F k inside) ∙ e in
      let mine = parts_of n (row_end F k) (column_end F k) (ltb-true _ _ below.0) in
      let yours = parts_of n r c R in
      (sym mine.1 ∙ ap (row_in n) same ∙ yours.1, sym mine.0 ∙ ap (column_in n) same ∙ yours.0)

  pub place_at : row_end F k ≡ r → column_end F k ≡ c → place_of F k ≡ c * variables F + r
  place_at e g = sym (inside_at F k (sym e) (sym g) R C)

-- ---- the weights of a place

weights_are : (F : Field) (r c : ℕ) → r < variables F → c < variables F → (k : ℕ) → weights_to F r c k ≡ map (quad_of F) (entries_to F (c * variables F + r) k)
unfolding weights_to entries_to
weights_are F r c R C zero = refl
weights_are F r c R C (suc k) =
    go (eqb (row_end F k) r && eqb (column_end F k) c) (eqb (place_of F k) p) (same (eqb (row_end F k) r) (eqb (column_end F k) c) (eqb (place_of F k) p) refl refl refl) (weights_are F r c R C k)
  where
    p : ℕ
    p = c * variables F + r

    same : (x y z : Bool) → eqb (row_end F k) r ≡ x → eqb (column_end F k) c ≡ y → eqb (place_of F k) (c * variables F + r) ≡ z → (x && y) ≡ z
    same true true z a b d = sym (eq-eqb _ _ (place_at F r c R C k (eqb-true _ _ a) (eqb-true _ _ b))) ∙ d
    same true false true a b d = absurd (eqb-false _ _ b (at_place F r c R C k (eqb-true _ _ d)).1)
    same true false false a b d = refl
    same false y true a b d = absurd (eqb-false _ _ a (at_place F r c R C k (eqb-true _ _ d)).0)
    same false y false a b d = refl

    go : (x z : Bool) → x ≡ z → weights_to F r c k ≡ map (quad_of F) (entries_to F (c * variables F + r) k)
        → cond x (weights_to F r c k ++ quad_of F k ∷ []) (weights_to F r c k) ≡ map (quad_of F) (cond z (entries_to F (c * variables F + r) k ++ k ∷ []) (entries_to F (c * variables F + r) k))
    go true z e h = rw (← e) (ap (λ (l : List Float). l ++ quad_of F k ∷ []) h ∙ sym (map-append (quad_of F) (entries_to F (c * variables F + r) k) (k ∷ [])))
    go false z e h = rw (← e) h

pub sum_is : (F : Field) (r c : ℕ) → r < variables F → c < variables F → sum_of F r c ≡ sum_at F (c * variables F + r)
unfolding sum_of sum_at
sum_is F r c R C = ap added (weights_are F r c R C (entries F))

-- ---- the places in order

module _ (F : Field) where
  -- the list up to place p begins every longer one
  prefix : (p d : ℕ) (t : ℕ) → t < length (places_to F p) → (get_or (places_to F (p + d)) t 0 ≡ get_or (places_to F p) t 0) × (t < length (places_to F (p + d)))
  unfolding places_to
  prefix p zero t h = rw (add-zero p) (refl, h)
  prefix p (suc d) t h =
      let e : p + suc d ≡ suc (p + d) = omega arith in
      rw e (go (is_empty (entries_at F (p + d))) (prefix p d t h))
    where
      go : (b : Bool) → (get_or (places_to F (p + d)) t 0 ≡ get_or (places_to F p) t 0) × (t < length (places_to F (p + d)))
          → (get_or (cond b (places_to F (p + d)) (places_to F (p + d) ++ (p + d) ∷ [])) t 0 ≡ get_or (places_to F p) t 0)
          × (t < length (cond b (places_to F (p + d)) (places_to F (p + d) ++ (p + d) ∷ [])))
      go true i = i
      go false i = (
        get_or-append (places_to F (p + d)) ((p + d) ∷ []) 0 t i.1 ∙ i.0,
        omega (arith, i.1, length-append (places_to F (p + d)) ((p + d) ∷ [])),
      )

  -- a named place stands at its position
  pub stands : (p : ℕ) → p < all_places F → is_empty (entries_at F p) ≡ false → (position_of F p < length (places_of F)) × (get_or (places_of F) (position_of F p) 0 ≡ p)
  unfolding places_of places_to
  stands p P e =
      let here : places_to F (suc p) ≡ places_to F p ++ p ∷ [] = rw e in
      let long : position_of F p < length (places_to F (suc p)) = omega (arith, ap length here, length-append (places_to F p) (p ∷ [])) in
      let d : all_places F ≡ suc p + (all_places F - suc p) = omega arith in
      let more = prefix (suc p) (all_places F - suc p) (position_of F p) long in
      let at : get_or (places_to F (suc p)) (position_of F p) 0 ≡ p =
      ap (λ (l : List ℕ). get_or l (position_of F p) 0) here
      ∙ ap (λ (i : ℕ). get_or (places_to F p ++ p ∷ []) i 0) (sym (add-zero (position_of F p)))
      ∙ get_or-append-add (places_to F p) (p ∷ []) 0 0 in
      rw d (more.1, more.0 ∙ at)

  -- each is named
  pub is_named : (p t : ℕ) → t < length (places_to F p) → is_empty (entries_at F (get_or (places_to F p) t 0)) ≡ false
  unfolding places_to
  is_named zero t h = absurd (omega arith)
  is_named (suc p) t h = go (is_empty (entries_at F p)) refl (is_named p t) h
    where
      go : (b : Bool) → is_empty (entries_at F p) ≡ b → (t < length (places_to F p) → is_empty (entries_at F (get_or (places_to F p) t 0)) ≡ false)
          → t < length (cond b (places_to F p) (places_to F p ++ p ∷ [])) → is_empty (entries_at F (get_or (cond b (places_to F p) (places_to F p ++ p ∷ [])) t 0)) ≡ false
      go true e i l = i l
      go false e i l = by (ltb t (length (places_to F p))) refl
        where
          by : (b : Bool) → ltb t (length (places_to F p)) ≡ b → is_empty (entries_at F (get_or (places_to F p ++ p ∷ []) t 0)) ≡ false
          by true z = rw (get_or-append (places_to F p) (p ∷ []) 0 t (ltb-true _ _ z)) (i (ltb-true _ _ z))
          by false z =
              let s : t ≡ length (places_to F p) + 0 = omega (arith, ltb-false t (length (places_to F p)) z, length-append (places_to F p) (p ∷ [])) in
              rw (s, get_or-append-add (places_to F p) (p ∷ []) 0 0) e

  -- they rise
  rise_to : (p i j : ℕ) → i < j → j < length (places_to F p) → get_or (places_to F p) i 0 < get_or (places_to F p) j 0
  unfolding places_to
  rise_to zero i j h g = absurd (omega arith)
  rise_to (suc p) i j h g = go (is_empty (entries_at F p)) (rise_to p i j h) g
    where
      go : (b : Bool) → (j < length (places_to F p) → get_or (places_to F p) i 0 < get_or (places_to F p) j 0) → j < length (cond b (places_to F p) (places_to F p ++ p ∷ []))
          → get_or (cond b (places_to F p) (places_to F p ++ p ∷ [])) i 0 < get_or (cond b (places_to F p) (places_to F p ++ p ∷ [])) j 0
      go true f l = f l
      go false f l = by (ltb j (length (places_to F p))) refl
        where
          below : (t : ℕ) → t < length (places_to F p) → get_or (places_to F p ++ p ∷ []) t 0 ≡ get_or (places_to F p) t 0
          below t z = get_or-append (places_to F p) (p ∷ []) 0 t z

          by : (b : Bool) → ltb j (length (places_to F p)) ≡ b → get_or (places_to F p ++ p ∷ []) i 0 < get_or (places_to F p ++ p ∷ []) j 0
          by true z = rw (below i (omega (arith, ltb-true j (length (places_to F p)) z)), below j (ltb-true _ _ z)) (f (ltb-true _ _ z))
          by false z =
              let s : j ≡ length (places_to F p) + 0 = omega (arith, ltb-false j (length (places_to F p)) z, length-append (places_to F p) (p ∷ [])) in
              let under : get_or (places_to F p) i 0 < p = every_at (λ x. x < p) (places_to F p) (places_below F p) i (omega arith) in
              rw (below i (omega arith), s, get_or-append-add (places_to F p) (p ∷ []) 0 0) under

  pub places_rise : (i j : ℕ) → i < j → j < length (places_of F) → get_or (places_of F) i 0 < get_or (places_of F) j 0
  unfolding places_of
  places_rise = rise_to (all_places F)

  pub place_below : (t : ℕ) → t < length (places_of F) → get_or (places_of F) t 0 < all_places F
  unfolding places_of
  place_below t h = every_at (λ x. x < all_places F) (places_to F (all_places F)) (places_below F (all_places F)) t h

  pub place_named : (t : ℕ) → t < length (places_of F) → is_empty (entries_at F (get_or (places_of F) t 0)) ≡ false
  unfolding places_of
  place_named = is_named (all_places F)

  -- no place stands twice
  pub once : (i j : ℕ) → i < length (places_of F) → j < length (places_of F) → get_or (places_of F) i 0 ≡ get_or (places_of F) j 0 → i ≡ j
  once i j h g e = elim (ℕ_discrete i j) [
    | yes y ↦ y
    | no y ↦ ⊎_elim (λ l. absurd (omega (arith, places_rise i j l g))) (λ l. absurd (omega (arith, places_rise j i l h))) (apart i j y)
  ]
    where
      apart : (i j : ℕ) → i ≢ j → (i < j) ⊎ (j < i)
      apart i j n = go (ltb i j) refl
        where
          go : (b : Bool) → ltb i j ≡ b → (i < j) ⊎ (j < i)
          go true e = inl (ltb-true i j e)
          go false e = ⊎_elim (λ z. absurd (n (sym z))) (λ z. inr z) (eq-or-lt_of_le (ltb-false i j e))

-- ---- named by an entry

module _ (F : Field) (p : ℕ) where
  -- an entry among the first k makes the list not empty
  pub names : (k j : ℕ) → j < k → place_of F j ≡ p → is_empty (entries_to F p k) ≡ false
  unfolding entries_to
  names zero j h e = absurd (omega arith)
  names (suc k) j h e = go (eqb (place_of F k) p) refl (eq-or-lt_of_le (le_of_suc-le-suc h)) (λ l. names k j l e)
    where
      snoc : (l : List ℕ) → is_empty (l ++ k ∷ []) ≡ false
      snoc [] = refl
      snoc (x ∷ l) = refl

      go : (b : Bool) → eqb (place_of F k) p ≡ b → (j ≡ k) ⊎ (j < k) → (j < k → is_empty (entries_to F p k) ≡ false) → is_empty (cond b (entries_to F p k ++ k ∷ []) (entries_to F p k)) ≡ false
      go true z s f = snoc (entries_to F p k)
      go false z (inl s) f = absurd (eqb-false _ _ z (ap (place_of F) (sym s) ∙ e))
      go false z (inr s) f = f s

  -- and an empty one has none
  pub none_before : (k : ℕ) → is_empty (entries_to F p k) ≡ true → (j : ℕ) → j < k → place_of F j ≡ p → ⊥
  none_before k e j h z = true≢false (sym e ∙ names k j h z)

  pub some_before : (k : ℕ) → is_empty (entries_to F p k) ≡ false → (j : ℕ) × ((j < k) × (place_of F j ≡ p))
  some_before k e = go (entries_to F p k) e (entries_there F p k)
    where
      go : (l : List ℕ) → is_empty l ≡ false → Every (λ e. (e < k) × (place_of F e ≡ p)) l → (j : ℕ) × ((j < k) × (place_of F j ≡ p))
      go [] z h = absurd (true≢false z)
      go (x ∷ l) z h = (x, h.0)
