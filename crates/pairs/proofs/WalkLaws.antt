-- The walk over the free pairs: where it begins, its turns, and what it has found at the end. Assumes nothing.
use Prim.Native.Nat.{ℕ, suc, ◌+◌, ◌-◌, min, ◌<◌, ◌≤◌}
use mathlib.Core.Path.{◌≡◌, refl, sym, ap, ◌∙◌}
use mathlib.Core.Logic.{◌⊎◌, inl, inr, ⊎_elim}
use mathlib.Core.Bool.{Bool, true, false, cond, ◌&&◌, true≢false}
use mathlib.Core.List.{List, [], ◌∷◌, ◌++◌}
use native.Mathlib.Numerals.{add-one}
use native.Mathlib.Omega.{arith}
use borrow.Author.Tests.{ltb-true, ltb-false}
use lib.Dec.{ltb}
use lib.ListN.{length, get_or, take, drop, length-append, length-take, length-drop, drop_of_length-le}
use lib.Seq.{take-suc, drop-cons, take_all}
use Rattle.meaning.specs.Kinds.{Pair, pair}
use Rattle.meaning.proofs.Free.{free_few}
use Rattle.field.specs.Field.{Field}
use Rattle.pairs.specs.declared.listing.Cursor.{Cursor}
use Rattle.pairs.specs.Listing.{free_of, with_each, pairs_of, free_pairs, allowed, examined, pair_records, found_in, found, Appended, written}
use Rattle.pairs.specs.Walk.{next_of, is_left, pairs_from, Walking, Walked}
use Rattle.pairs.proofs.ListLaws.{append_written, written_none, few_found, found_more}

-- ---- the pairs from a cursor on

past_end : {A : Type 0} (l : List A) (k : ℕ) → length l ≤ k → drop k l ≡ []
past_end l k h = drop_of_length-le l {i = k} h

-- all pairs of what is left from position a on
pairs_at : (is : List ℕ) (a : ℕ) → pairs_of (drop a is) ≡ pairs_from is (record { first = a; second = suc a })
unfolding pairs_of with_each
pairs_at is a = go (ltb a (length is)) refl
  where
    go : (b : Bool) → ltb a (length is) ≡ b → pairs_of (drop a is) ≡ with_each (get_or is a 0) (drop (suc a) is) ++ pairs_of (drop (suc a) is)
    go true e = rw (drop-cons is a 0 (ltb-true a (length is) e)) refl
    go false e = let h = ltb-false a (length is) e in rw (past_end is a h, past_end is (suc a) (omega arith)) refl

module _ (is : List ℕ) (x : Cursor) (h : x.second < length is) where
  -- the first of them, and the others
  pairs_cons : pairs_from is x ≡ pair (get_or is x.first 0) (get_or is x.second 0) ∷ pairs_from is (record { first = x.first; second = suc x.second })
  unfolding with_each
  pairs_cons = rw (drop-cons is x.second 0 h) refl

  -- the others are those of the next cursor
  pairs_next : pairs_from is (record { first = x.first; second = suc x.second }) ≡ pairs_from is (next_of (length is) x)
  unfolding with_each
  pairs_next = go (ltb (x.second + 1) (length is)) refl
    where
      go : (b : Bool) → ltb (x.second + 1) (length is) ≡ b → pairs_from is (record { first = x.first; second = suc x.second })
          ≡ pairs_from is (cond b (record { first = x.first; second = x.second + 1 }) (record { first = x.first + 1; second = x.first + 2 }))
      go true e = rw (add-one x.second) refl
      go false e =
          let two : x.first + 2 ≡ suc (suc x.first) = omega arith in
          rw (past_end is (suc x.second) (omega (arith, ltb-false (x.second + 1) (length is) e)), add-one x.first, two) (pairs_at is (suc x.first))

-- ---- the walk

module _ (F : Field) (s : List ℕ) (most : ℕ) (l : List ℕ) where
  pub walking_start : Walking F s most l l 0 0 (record { first = 0; second = 1 })
  unfolding found_in
  walking_start = record {
    within = omega arith;
    some = omega arith;
    order = omega arith;
    close = inr refl;
    rest = pairs_at (free_of s) 0;
    many = refl;
    list = written_none l;
  }

and_both : (a b : Bool) → (a && b) ≡ true → (a ≡ true) × (b ≡ true)
and_both true b e = (refl, e)
and_both false b e = absurd (true≢false (sym e))

module _ {F : Field} {s : List ℕ} {most : ℕ} {l₀ l : List ℕ} {pairs items : ℕ} {x : Cursor} (W : Walking F s most l₀ l pairs items x) where
  abbrev is : List ℕ
  is = free_of s

  -- no more than two constraints a pair
  pub walking_few : items ≤ pairs
  walking_few = omega (arith, W.many, few_found F s (take pairs (free_pairs s)), length-take pairs (free_pairs s))

  module _ {k : ℕ} (ek : k ≡ length (free_of s)) (l-is : is_left pairs most k x ≡ true) where
    pub left_pairs : pairs < most
    unfolding is_left
    left_pairs = ltb-true pairs most (and_both (ltb pairs most) (ltb x.second k) l-is).0

    pub left_second : x.second < k
    unfolding is_left
    left_second = ltb-true x.second k (and_both (ltb pairs most) (ltb x.second k) l-is).1

    second_in : x.second < length (free_of s)
    second_in = omega (arith, left_second)

    next_cons : drop pairs (free_pairs s) ≡ pair (get_or is x.first 0) (get_or is x.second 0) ∷ pairs_from is (next_of (length is) x)
    next_cons = W.rest ∙ pairs_cons is x second_in ∙ ap (λ (z : List Pair). pair (get_or is x.first 0) (get_or is x.second 0) ∷ z) (pairs_next is x second_in)

    some_left : pairs < length (free_pairs s)
    some_left = omega (arith, ap length next_cons, length-drop pairs (free_pairs s))

    -- the pair that is examined, and those that come later
    this_pair : get_or (free_pairs s) pairs (pair 0 0) ≡ pair (get_or is x.first 0) (get_or is x.second 0)
    this_pair =
        let e : get_or (free_pairs s) pairs (pair 0 0) ∷ drop (suc pairs) (free_pairs s) ≡ pair (get_or is x.first 0) (get_or is x.second 0) ∷ pairs_from is (next_of (length is) x) = sym (drop-cons (free_pairs s) pairs (pair 0 0) some_left) ∙ next_cons in
        let z : get_or (free_pairs s) pairs (pair 0 0) ≡ pair (get_or is x.first 0) (get_or is x.second 0) = cc in z

    later : drop (suc pairs) (free_pairs s) ≡ pairs_from is (next_of (length is) x)
    later =
        let e : get_or (free_pairs s) pairs (pair 0 0) ∷ drop (suc pairs) (free_pairs s) ≡ pair (get_or is x.first 0) (get_or is x.second 0) ∷ pairs_from is (next_of (length is) x) = sym (drop-cons (free_pairs s) pairs (pair 0 0) some_left) ∙ next_cons in
        let z : drop (suc pairs) (free_pairs s) ≡ pairs_from is (next_of (length is) x) = cc in z

    found_next : found_in F s (take (suc pairs) (free_pairs s)) ≡ found_in F s (take pairs (free_pairs s)) ++ pair_records F s (pair (get_or is x.first 0) (get_or is x.second 0))
    found_next = rw (take-suc (free_pairs s) pairs (pair 0 0) some_left, this_pair) (found_more F s (take pairs (free_pairs s)) (pair (get_or is x.first 0) (get_or is x.second 0)))

    abbrev step : Bool → Cursor
    step b = cond b (record { first = x.first; second = x.second + 1 }) (record { first = x.first + 1; second = x.first + 2 })

    next_order : (next_of (length is) x).first < (next_of (length is) x).second
    next_order = go (ltb (x.second + 1) (length is))
      where
        go : (b : Bool) → (step b).first
            < (step b).second
        go true = omega (arith, W.order)
        go false = omega arith

    next_close : ((next_of (length is) x).second < length is) ⊎ ((next_of (length is) x).second ≡ suc (next_of (length is) x).first)
    next_close = go (ltb (x.second + 1) (length is)) refl
      where
        go : (b : Bool) → ltb (x.second + 1) (length is) ≡ b
            → ((step b).second < length is)
            ⊎ ((step b).second
            ≡ suc (step b).first)
        go true e = inl (ltb-true (x.second + 1) (length is) e)
        go false e = inr (omega arith)

    pub walking_turn : {i j r : ℕ} {l' : List ℕ} {y : Cursor} → i ≡ get_or is x.first 0 → j ≡ get_or is x.second 0
        → Appended (pair_records F s (pair i j)) l items l' r → y ≡ next_of k x → Walking F s most l₀ l' (pairs + 1) r y
    walking_turn {i} {j} {r} {l'} {y} ei ej A ey = rw (add-one pairs, ey, ek) record {
      within = left_pairs;
      some = some_left;
      order = next_order;
      close = next_close;
      rest = later;
      many = rw found_next (omega (arith, A.next, W.many, length-append (found_in F s (take pairs (free_pairs s))) (pair_records F s (pair (get_or is x.first 0) (get_or is x.second 0))), ap (λ (p : Pair). length (pair_records F s p)) same));
      list = rw found_next (A.list ∙ rw (W.list, W.many, same) (append_written (pair_records F s (pair (get_or is x.first 0) (get_or is x.second 0))) (found_in F s (take pairs (free_pairs s))) l₀));
    }
      where
        same : pair i j ≡ pair (get_or is x.first 0) (get_or is x.second 0)
        same = rw (ei, ej) refl

  -- where none is left, all that are allowed have been examined
  pub walking_done : {k limit : ℕ} → k ≡ length (free_of s) → most ≡ allowed limit → is_left pairs most k x ≡ false → Walked F s limit l₀ l (record { pairs = pairs; items = items })
  unfolding is_left found with_each pairs_of
  walking_done {k} {limit} ek em over = record {
    pairs = many_is;
    items = W.many ∙ ap (λ (z : List Pair). length (found_in F s z)) same;
    list = W.list ∙ ap (λ (z : List Pair). written (found_in F s z) l₀) same;
  }
    where
      all_if : (a b : Bool) → ltb pairs most ≡ a → ltb x.second k ≡ b → (a && b) ≡ false → pairs ≡ min most (length (free_pairs s))
      all_if false b ea eb e = omega (arith, ltb-false pairs most ea, W.within, W.some)
      all_if true true ea eb e = absurd (true≢false e)
      all_if true false ea eb e = omega (arith, W.within, W.some, none_left)
        where
          at_end : x.second ≡ suc x.first
          at_end = ⊎_elim (λ z. absurd (omega (arith, ltb-false x.second k eb))) (λ z. z) W.close

          nothing : pairs_from is x ≡ []
          nothing = rw (past_end is x.second (omega (arith, ltb-false x.second k eb)), past_end is (suc x.first) (omega (arith, at_end, ltb-false x.second k eb))) refl

          none_left : length (free_pairs s) - pairs ≡ 0
          none_left = sym (length-drop pairs (free_pairs s)) ∙ ap length (W.rest ∙ nothing)

      count : pairs ≡ min most (length (free_pairs s))
      count = all_if (ltb pairs most) (ltb x.second k) refl refl over

      many_is : pairs ≡ length (examined limit s)
      many_is = count ∙ rw em (sym (length-take (allowed limit) (free_pairs s)))

      same : take pairs (free_pairs s) ≡ examined limit s
      same = rw (count, em) (take_min (allowed limit) (free_pairs s))
        where
          take_min : (n : ℕ) (ps : List Pair) → take (min n (length ps)) ps ≡ take n ps
          take_min n ps = go (ltb n (length ps)) refl
            where
              go : (b : Bool) → ltb n (length ps) ≡ b → take (min n (length ps)) ps ≡ take n ps
              go true e = let z : min n (length ps) ≡ n = omega (arith, ltb-true n (length ps) e) in rw z refl
              go false e =
                  let h = ltb-false n (length ps) e in
                  let z : min n (length ps) ≡ length ps = omega arith in
                  rw z (take_all (length ps) ps (omega arith) ∙ sym (take_all n ps h))

-- what a turn reads lies in the list of free variables
pub walking_reads : {F : Field} {s : List ℕ} {most : ℕ} {l₀ l : List ℕ} {pairs items : ℕ} {x : Cursor} (W : Walking F s most l₀ l pairs items x) {k : ℕ} → k ≡ length (free_of s)
    → is_left pairs most k x ≡ true → (x.first < k) × ((x.second < k) × (k ≤ length s))
walking_reads {s = s} W ek t = omega (arith, left_second W ek t, W.order, free_few s (length s))
