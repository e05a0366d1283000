-- The walk over two merged rows says what the model's bounds say, on any field. Assumes nothing.
use mathlib.Core.Path.{◌≡◌, refl, sym, ap, ◌∙◌, subst}
use mathlib.Core.Logic.{◌⊎◌, inl, inr, ⊎_elim}
use mathlib.Core.Bool.{Bool, true, false, not, ◌&&◌, ◌||◌, cond, true≢false}
use mathlib.Core.List.{List}
use Prim.Native.Nat.{ℕ, zero, suc, ◌+◌, ◌≤◌, ◌<◌}
use native.Mathlib.Nat.{eq-or-lt_of_le, le_of_suc-le-suc}
use native.Mathlib.Omega.{arith}
use lib.ListN.{get_or}
use lib.Dec.{T, eqb, ltb}
use lib.Ieee.{Float, eq, of_bits}
use borrow.Author.Tests.{ltb-true, ltb-false}
use Rattle.weights.specs.Worth.{zero64}
use Rattle.meaning.specs.Free.{is_free}
use Rattle.field.specs.Field.{Field, variables}
use Rattle.margins.specs.declared.bounds.Bounds.{Bounds}
use Rattle.margins.specs.declared.walking.Walk.{Walk}
use Rattle.margins.specs.Model.{widen, meets, neighbour, bounds_to, bounds_of, merged_weight, tolerance, signs_of, pair_signs, hopeless}
use Rattle.margins.specs.Merge.{Rows, met_by, step_i, step_j, step_both_of, turn_of, live, going, left_over, walk_on, walk_all, Listed}
use Rattle.margins.proofs.MergeLaws.{falls, spent, and_true}
use Rattle.margins.proofs.Break.{break_changes_nothing}

-- what weighs nothing at both meets none
meets_none : meets zero64 zero64 ≡ false
unfolding eq of_bits
meets_none = refl

module _ (F : Field) (s : List ℕ) (i j : ℕ) where
  -- a variable that is no neighbour changes nothing
  passed : (k : ℕ) (b : Bounds) → (is_free s k ≡ true → (merged_weight F i k ≡ zero64) × (merged_weight F j k ≡ zero64)) → neighbour F s i j k b ≡ b
  unfolding neighbour
  passed k b h = go (not (eqb k i) && not (eqb k j)) (is_free s k) refl
    where
      go : (c d : Bool) → is_free s k ≡ d → cond ((c && d) && meets (merged_weight F i k) (merged_weight F j k)) (widen b (merged_weight F i k) (merged_weight F j k)) b ≡ b
      go false d e = refl
      go true false e = refl
      go true true e = rw ((h e).0, (h e).1, meets_none) refl

  between : (a k : ℕ) → a ≤ k → ((x : ℕ) → a ≤ x → x < k → is_free s x ≡ true → (merged_weight F i x ≡ zero64) × (merged_weight F j x ≡ zero64)) → bounds_to F s i j k ≡ bounds_to F s i j a
  unfolding bounds_to
  between zero zero l h = refl
  between (suc a) zero l h = absurd (omega arith)
  between a (suc k) l h = go (eq-or-lt_of_le l) (λ m. between a k m (λ x p q. h x p (omega arith)))
    where
      go : (a ≡ suc k) ⊎ (a < suc k) → (a ≤ k → bounds_to F s i j k ≡ bounds_to F s i j a) → bounds_to F s i j (suc k) ≡ bounds_to F s i j a
      go (inl e) ih = ap (bounds_to F s i j) (sym e)
      go (inr m) ih = passed k (bounds_to F s i j k) (h k (le_of_suc-le-suc m) (omega arith)) ∙ ih (le_of_suc-le-suc m)

  -- a neighbour is met
  meeting : (k : ℕ) (b : Bounds) (wi wj : Float) → is_free s k ≡ true → wi ≡ merged_weight F i k → wj ≡ merged_weight F j k → met_by b i j k wi wj ≡ neighbour F s i j k b
  unfolding met_by neighbour
  meeting k b wi wj f p q = rw (f, ← p, ← q) (go (eqb k i) (eqb k j) (meets wi wj))
    where
      go : (c d m : Bool) → cond c b (cond d b (cond m (widen b wi wj) b)) ≡ cond (((not c && not d) && true) && m) (widen b wi wj) b
      go true d m = refl
      go false true m = refl
      go false false m = refl

-- ---- one row: the keys before l are below K, and the others are not
record RowAt (keys : List ℕ) (a e l K : ℕ) : Type 0 where
  from : a ≤ l
  seen : (p : ℕ) → a ≤ p → p < l → get_or keys p 0 < K
  next : (p : ℕ) → l ≤ p → p < e → K ≤ get_or keys p 0

module _ {F : Field} {s : List ℕ} {x : ℕ} {keys : List ℕ} {weights : List Float} {a e : ℕ} (row : Listed F s x keys weights a e) (l K k : ℕ) (at : RowAt keys a e l K) (up : K ≤ k) where
  from_first : l < e → (p : ℕ) → l ≤ p → p < e → get_or keys l 0 ≤ get_or keys p 0
  from_first h p b c = ⊎_elim (λ q. rw q (omega arith)) (λ q. let r = row.rising l p at.from q c in omega arith) (eq-or-lt_of_le b)

  after_first : l < e → (p : ℕ) → l + 1 ≤ p → p < e → get_or keys l 0 < get_or keys p 0
  after_first h p b c = row.rising l p at.from (omega arith) c

  steps : l < e → get_or keys l 0 ≡ k → RowAt keys a e (l + 1) (suc k)
  steps h q =
      record {
        from = omega (arith, at.from);
        seen = λ p b c. ⊎_elim (λ z. rw z (omega arith)) (λ z. let r = at.seen p b z in omega arith) (split p l c);
        next = λ p b c. let r = after_first h p b c in omega arith;
      }
    where
      split : (p l : ℕ) → p < l + 1 → (p ≡ l) ⊎ (p < l)
      split p l c = eq-or-lt_of_le (bound p l c)
        where
          bound : (p l : ℕ) → p < l + 1 → p ≤ l
          bound p l c = omega arith

  module _ (far : (p : ℕ) → l ≤ p → p < e → k < get_or keys p 0) where
    waits : RowAt keys a e l (suc k)
    waits = record { from = at.from; seen = λ p b c. let r = at.seen p b c in omega arith; next = λ p b c. let r = far p b c in omega arith }

    absent : k < variables F → is_free s k ≡ true → merged_weight F x k ≡ zero64
    absent h f = row.all k h f (λ p b c q. ⊎_elim (λ z. let r = at.seen p b z in omega arith) (λ z. let r = far p z c in omega arith) (side p))
      where
        side : (p : ℕ) → (p < l) ⊎ (l ≤ p)
        side p = pick (ltb p l) refl
          where
            pick : (d : Bool) → ltb p l ≡ d → (p < l) ⊎ (l ≤ p)
            pick true q = inl (ltb-true p l q)
            pick false q = inr (ltb-false p l q)

-- between K and k no key stands, so no variable there is a neighbour
clear : {F : Field} {s : List ℕ} {x : ℕ} {keys : List ℕ} {weights : List Float} {a e : ℕ} → Listed F s x keys weights a e → (l K k : ℕ) → RowAt keys a e l K → ((p : ℕ) → l ≤ p → p < e → k ≤ get_or keys p 0)
    → (y : ℕ) → K ≤ y → y < k → y < variables F → is_free s y ≡ true → merged_weight F x y ≡ zero64
clear row l K k at far y p q h f = absent row l K y at p (λ r b c. let z = far r b c in omega arith) h f

module _ (F : Field) (s : List ℕ) (R : Rows) (a b : ℕ) (row_i : Listed F s R.i R.keys R.weights a R.end_i) (row_j : Listed F s R.j R.keys R.weights b R.end_j) where
  record Stands (w : Walk) (K : ℕ) : Type 0 where
    so_far : w.bounds ≡ bounds_to F s R.i R.j K
    top : K ≤ variables F
    at_i : RowAt R.keys a R.end_i w.left K
    at_j : RowAt R.keys b R.end_j w.right K

  module _ {w : Walk} {K : ℕ} (st : Stands w K) where
    -- the bounds at k are those at K
    caught : (k : ℕ) → K ≤ k → k ≤ variables F → ((p : ℕ) → w.left ≤ p → p < R.end_i → k ≤ get_or R.keys p 0) → ((p : ℕ) → w.right ≤ p → p < R.end_j → k ≤ get_or R.keys p 0) → bounds_to F s R.i R.j k ≡ bounds_to F s R.i R.j K
    caught k u t fi fj = between F s R.i R.j K k u (λ y p q f. (clear row_i w.left K k st.at_i fi y p q (omega arith) f, clear row_j w.right K k st.at_j fj y p q (omega arith) f))

    advance : (k l r : ℕ) (wi wj : Float) → K ≤ k → k < variables F
        → ((p : ℕ) → w.left ≤ p → p < R.end_i → k ≤ get_or R.keys p 0) → ((p : ℕ) → w.right ≤ p → p < R.end_j → k ≤ get_or R.keys p 0)
        → is_free s k ≡ true → wi ≡ merged_weight F R.i k → wj ≡ merged_weight F R.j k
        → RowAt R.keys a R.end_i l (suc k) → RowAt R.keys b R.end_j r (suc k)
        → Stands (record { left = l; right = r; bounds = met_by w.bounds R.i R.j k wi wj }) (suc k)
    unfolding bounds_to
    advance k l r wi wj u t fi fj f p q ai aj =
        record {
          so_far = meeting F s R.i R.j k w.bounds wi wj f p q ∙ ap (neighbour F s R.i R.j k) (st.so_far ∙ sym (caught k u (omega arith) fi fj));
          top = t;
          at_i = ai;
          at_j = aj;
        }

    finished : R.end_i ≤ w.left → R.end_j ≤ w.right → w.bounds ≡ bounds_of F s R.i R.j
    unfolding bounds_of
    finished p q = st.so_far ∙ sym (caught (variables F) st.top (omega arith) (λ r u t. absurd (omega arith)) (λ r u t. absurd (omega arith)))

    -- the three steps
    step_i_lem : w.left < R.end_i → ((p : ℕ) → w.right ≤ p → p < R.end_j → get_or R.keys w.left 0 < get_or R.keys p 0) → Stands (step_i R w) (suc (get_or R.keys w.left 0))
    step_i_lem h far =
        let l = w.left in
        let k = get_or R.keys l 0 in
        let u = st.at_i.next l (omega arith) h in
        let t = row_i.within l st.at_i.from h in
        let f = row_i.free l st.at_i.from h in
        let e = row_i.weight l st.at_i.from h in
        let z = absent row_j w.right K k st.at_j u far t f in
        advance k (l + 1) w.right _ _ u t (from_first row_i l K k st.at_i u h) (λ p b c. let r = far p b c in omega arith) f e (sym z)
        (steps row_i l K k st.at_i u h refl) (waits row_j w.right K k st.at_j u far)

    step_j_lem : w.right < R.end_j → ((p : ℕ) → w.left ≤ p → p < R.end_i → get_or R.keys w.right 0 < get_or R.keys p 0) → Stands (step_j R w) (suc (get_or R.keys w.right 0))
    step_j_lem h far =
        let l = w.right in
        let k = get_or R.keys l 0 in
        let u = st.at_j.next l (omega arith) h in
        let t = row_j.within l st.at_j.from h in
        let f = row_j.free l st.at_j.from h in
        let e = row_j.weight l st.at_j.from h in
        let z = absent row_i w.left K k st.at_i u far t f in
        advance k w.left (l + 1) _ _ u t (λ p b c. let r = far p b c in omega arith) (from_first row_j l K k st.at_j u h) f (sym z) e
        (waits row_i w.left K k st.at_i u far) (steps row_j l K k st.at_j u h refl)

    step_both : w.left < R.end_i → w.right < R.end_j → get_or R.keys w.right 0 ≡ get_or R.keys w.left 0 → Stands (step_both_of R w) (suc (get_or R.keys w.left 0))
    step_both h g same =
        let l = w.left in
        let k = get_or R.keys l 0 in
        let u = st.at_i.next l (omega arith) h in
        let t = row_i.within l st.at_i.from h in
        let f = row_i.free l st.at_i.from h in
        let e = row_i.weight l st.at_i.from h in
        let d = row_j.weight w.right st.at_j.from g ∙ ap (merged_weight F R.j) same in
        advance k (l + 1) (w.right + 1) _ _ u t (from_first row_i l K k st.at_i u h) (λ p b c. let r = from_first row_j w.right K k st.at_j u g p b c in omega arith) f e d
        (steps row_i l K k st.at_i u h refl) (steps row_j w.right K k st.at_j u g same)

    -- one turn
    next_key : live R w ≡ true → (K' : ℕ) × Stands (turn_of R w) K'
    unfolding going turn_of
    next_key h =
        go (ltb w.left R.end_i) (ltb w.right R.end_j) (ltb (get_or R.keys w.left 0) (get_or R.keys w.right 0)) (ltb (get_or R.keys w.right 0) (get_or R.keys w.left 0)) refl refl refl refl (and_true (not (hopeless R.t w.bounds)) _ h).1
      where
        go : (a b c d : Bool) → ltb w.left R.end_i ≡ a → ltb w.right R.end_j ≡ b → ltb (get_or R.keys w.left 0) (get_or R.keys w.right 0) ≡ c → ltb (get_or R.keys w.right 0) (get_or R.keys w.left 0) ≡ d → (a || b) ≡ true
            → (K' : ℕ) × Stands (cond a (cond b (cond c (step_i R w) (cond d (step_j R w) (step_both_of R w))) (step_i R w)) (step_j R w)) K'
        go true true true d p q r t h =
            let g = ltb-true w.right R.end_j q in
            let m = ltb-true (get_or R.keys w.left 0) (get_or R.keys w.right 0) r in
            (_, step_i_lem (ltb-true w.left R.end_i p) (λ y b c. let z = from_first row_j w.right K K st.at_j (omega arith) g y b c in omega arith))
        go true true false true p q r t h =
            let g = ltb-true w.left R.end_i p in
            let m = ltb-true (get_or R.keys w.right 0) (get_or R.keys w.left 0) t in
            (_, step_j_lem (ltb-true w.right R.end_j q) (λ y b c. let z = from_first row_i w.left K K st.at_i (omega arith) g y b c in omega arith))
        go true true false false p q r t h =
            let m = ltb-false (get_or R.keys w.left 0) (get_or R.keys w.right 0) r in
            let n = ltb-false (get_or R.keys w.right 0) (get_or R.keys w.left 0) t in
            (_, step_both (ltb-true w.left R.end_i p) (ltb-true w.right R.end_j q) (omega arith))
        go true false c d p q r t h =
            let g = ltb-false w.right R.end_j q in
            (_, step_i_lem (ltb-true w.left R.end_i p) (λ y b c. absurd (omega arith)))
        go false true c d p q r t h =
            let g = ltb-false w.left R.end_i p in
            (_, step_j_lem (ltb-true w.right R.end_j q) (λ y b c. absurd (omega arith)))
        go false false c d p q r t h = absurd (true≢false (sym h))

    -- where the walk stops, its bounds say what all neighbours would
    over : R.t ≡ tolerance F R.i R.j → live R w ≡ false → signs_of R.t w.bounds ≡ pair_signs F s R.i R.j
    unfolding going pair_signs
    over et h = go (hopeless R.t w.bounds) (ltb w.left R.end_i) (ltb w.right R.end_j) refl refl refl h
      where
        go : (n c d : Bool) → hopeless R.t w.bounds ≡ n → ltb w.left R.end_i ≡ c → ltb w.right R.end_j ≡ d → (not n && (c || d)) ≡ false
            → signs_of R.t w.bounds ≡ pair_signs F s R.i R.j
        go true c d n p q h = rw (st.so_far, et) (break_changes_nothing F s R.i R.j K st.top (subst T (sym (rw (st.so_far, et) at n)) tt))
        go false true d n p q h = absurd (true≢false h)
        go false false true n p q h = absurd (true≢false h)
        go false false false n p q h = rw (finished (ltb-false w.left R.end_i p) (ltb-false w.right R.end_j q), et) refl

  module _ (et : R.t ≡ tolerance F R.i R.j) where
    to_end : (n : ℕ) (w : Walk) (K : ℕ) → Stands w K → left_over R w ≤ n → signs_of R.t (walk_on R n w).bounds ≡ pair_signs F s R.i R.j
    unfolding walk_on
    to_end zero w K st h = over st et (spent R w h)
    to_end (suc n) w K st h = go (live R w) refl (λ K' st' l. to_end n (turn_of R w) K' st' l)
      where
        go : (b : Bool) → live R w ≡ b
            → ((K' : ℕ) → Stands (turn_of R w) K' → left_over R (turn_of R w) ≤ n → signs_of R.t (walk_on R n (turn_of R w)).bounds ≡ pair_signs F s R.i R.j)
            → signs_of R.t (cond (live R w) (walk_on R n (turn_of R w)) w).bounds ≡ pair_signs F s R.i R.j
        go true e ih = rw e (let z = next_key st e in ih z.0 z.1 (omega (arith, falls R w e)))
        go false e ih = rw e (over st et e)

    -- Theorem. THE WALK, from the rows' beginnings and the start's bounds, says what the model's bounds say.
    pub walk_is : (w : Walk) → w.left ≡ a → w.right ≡ b → w.bounds ≡ bounds_to F s R.i R.j 0 → signs_of R.t (walk_all R w).bounds ≡ pair_signs F s R.i R.j
    unfolding walk_all
    walk_is w p q e =
        to_end (left_over R w) w 0 record {
          so_far = e;
          top = omega arith;
          at_i = record { from = omega arith; seen = λ r u t. absurd (omega arith); next = λ r u t. omega arith };
          at_j = record { from = omega arith; seen = λ r u t. absurd (omega arith); next = λ r u t. omega arith };
        } (omega arith)
