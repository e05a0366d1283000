-- A loop through the places of i, from offset i to offset i + 1, is a fold over them; what is stored past the flat lists keeps them. Assumes nothing.
use mathlib.Core.Path.{◌≡◌, refl, sym, ap, ◌∙◌}
use mathlib.Core.List.{List, [], ◌∷◌, map}
use Prim.Native.Nat.{ℕ, suc, ◌+◌, ◌*◌, ◌-◌, ◌<◌, ◌≤◌}
use native.Mathlib.Numerals.{add-one}
use native.Mathlib.Omega.{arith}
use lib.ListN.{length, get_or, set, take, length-set}
use lib.Seq.{slice, slice-cons, slice_empty, take-set-le, get_or-drop, get_or-take}
use Rattle.places.specs.Places.{Adjacent, places, degree, start, Touches, other_end, entry_in, end_in, word_of, Word}
use Rattle.places.proofs.Slices.{front_get_d, front_slice}
use Rattle.places.proofs.Places.{places_touch}
use Rattle.places.proofs.Words.{entry_word, is_word, entries_words, map_at}
use Rattle.places.proofs.Starts.{start_rises, start_suc, start_most}

-- ---- the part of i

module _ {n : ℕ} {rows cols u : List ℕ} (A : Adjacent n rows cols u) {i : ℕ} (hi : i < n) where
  pub part_ends : (get_or u i 0 ≡ start rows cols i) × (get_or u (i + 1) 0 ≡ start rows cols (suc i))
  part_ends = (A.offset i (omega arith), A.offset (i + 1) (omega arith) ∙ ap (start rows cols) (add-one i))

  -- it is as long as i has places
  pub part_long : get_or u i 0 + degree rows cols i ≡ get_or u (i + 1) 0
  part_long = omega (arith, part_ends, start_suc rows cols i)

  pub part_most : get_or u (i + 1) 0 ≤ 2 * length rows
  part_most = omega (arith, part_ends, start_rises rows cols (suc i) n hi, start_most rows cols n)

  module _ {p : ℕ} (from : get_or u i 0 ≤ p) (to : p < get_or u (i + 1) 0) where
    -- what stands there is the word of a place
    pub word_get : get_or u (n + 1 + p) 0 ≡ word_of rows cols i (get_or (places rows cols i) (p - get_or u i 0) 0)
    word_get =
        let f : n + 1 + get_or u i 0 + (p - get_or u i 0) ≡ n + 1 + p = omega arith in
        sym
        (sym (map_at (word_of rows cols i) (places rows cols i) (p - get_or u i 0) (omega (arith, part_long)))
        ∙ ap (λ (t : List ℕ). get_or t (p - get_or u i 0) 0) (sym (A.flat i hi))
        ∙ get_or-drop (n + 1 + get_or u i 0) (take (n + 1 + get_or u (i + 1) 0) u) (p - get_or u i 0) 0
        ∙ ap (λ (q : ℕ). get_or (take (n + 1 + get_or u (i + 1) 0) u) q 0) f
        ∙ get_or-take (n + 1 + get_or u (i + 1) 0) u (n + 1 + p) 0 (omega arith))

    pub place_get : get_or (places rows cols i) (p - get_or u i 0) 0 ≡ entry_in (get_or u (n + 1 + p) 0)
    place_get = sym (ap entry_in word_get ∙ entry_word A.ends i _)

    -- so it tells an entry that has i as an end, and the other end
    pub place_word : Word rows cols i (get_or u (n + 1 + p) 0)
    place_word =
        let t = places_touch rows cols i (p - get_or u i 0) (omega (arith, part_long)) in
        rw word_get (is_word A.ends i _ t.0 t.1)

    place_cons : slice (n + 1 + p) (n + 1 + get_or u (i + 1) 0) u ≡ get_or u (n + 1 + p) 0 ∷ slice (n + 1 + (p + 1)) (n + 1 + get_or u (i + 1) 0) u
    place_cons =
        let e : n + 1 + (p + 1) ≡ suc (n + 1 + p) = omega arith in
        rw e (slice-cons (n + 1 + p) (n + 1 + get_or u (i + 1) 0) u 0 (omega arith) (omega (arith, part_most, A.room)))

-- ---- what is stored past the flat lists keeps them

pub adjacent_front : {n : ℕ} {rows cols u v : List ℕ} → take (n + 1 + 2 * length rows) v ≡ take (n + 1 + 2 * length rows) u → length v ≡ length u
    → Adjacent n rows cols u → Adjacent n rows cols v
adjacent_front {n} {rows} {cols} {u} {v} e l A = record {
  ends = A.ends;
  room = omega (arith, A.room);
  offset = λ i h. at i h ∙ A.offset i h;
  flat = λ i h.
      rw (at i (omega arith), at (i + 1) (omega arith))
      (front_slice (n + 1 + 2 * length rows) v u e (n + 1 + get_or u i 0) (n + 1 + get_or u (i + 1) 0) (omega (arith, part_most A h)) ∙ A.flat i h);
}
  where
    at : (i : ℕ) → i ≤ n → get_or v i 0 ≡ get_or u i 0
    at i h = front_get_d (n + 1 + 2 * length rows) v u e i (omega arith)

-- ---- a walk: u₀ is the scratch where the loop begins, u as it is now, and p goes from offset i to `end`, offset i + 1

pub record Walk (n : ℕ) (rows cols u₀ u : List ℕ) (i end p : ℕ) : Type 0 where
  pub adjacent : Adjacent n rows cols u₀
  pub here : i < n
  pub from : get_or u₀ i 0 ≤ p
  pub to : p ≤ end
  pub stop : end ≡ get_or u₀ (i + 1) 0
  pub long : length u ≡ length u₀
  pub front : take (n + 1 + 2 * length rows) u ≡ take (n + 1 + 2 * length rows) u₀

-- the places that are left
abbrev pub left : ℕ → List ℕ → ℕ → ℕ → List ℕ
left n u₀ end p = map entry_in (slice (n + 1 + p) (n + 1 + end) u₀)

-- what a turn at p knows of the word that it reads
pub record Turn (n : ℕ) (rows cols u₀ u : List ℕ) (i end p : ℕ) : Type 0 where
  pub index : n + 1 + p < length u
  pub below : p < 2 * length rows
  pub word : Word rows cols i (get_or u (n + 1 + p) 0)
  pub cons : left n u₀ end p ≡ entry_in (get_or u (n + 1 + p) 0) ∷ left n u₀ end (p + 1)

-- the entry and the end that it takes from the word
module _ {n : ℕ} {rows cols u₀ u : List ℕ} {i end p : ℕ} (T : Turn n rows cols u₀ u i end p) {k : ℕ} (ek : k ≡ entry_in (get_or u (n + 1 + p) 0)) where
  pub turn_entry : k < length rows
  turn_entry = rw ek T.word.entry

  pub turn_touches : Touches rows cols i k
  turn_touches = rw ek T.word.touches

  pub turn_other : {t : ℕ} → t ≡ end_in (get_or u (n + 1 + p) 0) → t ≡ other_end rows cols i k
  turn_other et = et ∙ T.word.other ∙ ap (other_end rows cols i) (sym ek)

module _ {n : ℕ} {rows cols u : List ℕ} {i a b : ℕ} (A : Adjacent n rows cols u) (h : i < n) (ea : a ≡ get_or u i 0) (eb : b ≡ get_or u (i + 1) 0) where
  pub walk_start : Walk n rows cols u u i b a
  walk_start = record { adjacent = A; here = h; from = omega arith; to = omega (arith, part_long A h); stop = eb; long = refl; front = refl }

  pub left_start : left n u b a ≡ places rows cols i
  left_start = rw (ea, eb) (ap (map entry_in) (A.flat i h) ∙ entries_words A.ends i (places rows cols i))

module _ {n : ℕ} {rows cols u₀ u : List ℕ} {i end p : ℕ} (W : Walk n rows cols u₀ u i end p) where
  pub walk_turn : p < end → Turn n rows cols u₀ u i end p
  walk_turn l =
      let m = part_most W.adjacent W.here in
      let q : p < get_or u₀ (i + 1) 0 = omega (arith, W.stop) in
      let e : get_or u (n + 1 + p) 0 ≡ get_or u₀ (n + 1 + p) 0 = front_get_d (n + 1 + 2 * length rows) u u₀ W.front (n + 1 + p) (omega (arith, m)) in
      record {
        index = omega (arith, m, W.long, W.adjacent.room);
        below = omega (arith, m);
        word = rw e (place_word W.adjacent W.here W.from q);
        cons = rw (W.stop, e) (ap (map entry_in) (place_cons W.adjacent W.here W.from q));
      }

  pub walk_next : p < end → Walk n rows cols u₀ u i end (p + 1)
  walk_next l = record { adjacent = W.adjacent; here = W.here; from = omega (arith, W.from); to = omega arith; stop = W.stop; long = W.long; front = W.front }

  -- what is written past the flat lists
  pub walk_front : {v : List ℕ} → take (n + 1 + 2 * length rows) v ≡ take (n + 1 + 2 * length rows) u → length v ≡ length u → Walk n rows cols u₀ v i end p
  walk_front e l = record {
    adjacent = W.adjacent;
    here = W.here;
    from = W.from;
    to = W.to;
    stop = W.stop;
    long = l ∙ W.long;
    front = e ∙ W.front;
  }

  pub walk_adjacent : Adjacent n rows cols u
  walk_adjacent = adjacent_front W.front W.long W.adjacent

  pub left_end : end ≤ p → left n u₀ end p ≡ []
  left_end h = let e : p ≡ end = omega (arith, W.to) in rw e (ap (map entry_in) (slice_empty (n + 1 + end) u₀))

-- ---- a fold along a walk, which is a loop's invariant: what is left, from the accumulator on, is all of it from the first one on

pub record Along {A B : Type 0} (fold : A → List ℕ → B) (n : ℕ) (rows cols u₀ u : List ℕ) (i end p : ℕ) (first acc : A) : Type 0 where
  pub walk : Walk n rows cols u₀ u i end p
  pub folded : fold acc (left n u₀ end p) ≡ fold first (places rows cols i)

-- the loop begins
pub along_start : {A B : Type 0} (fold : A → List ℕ → B) (first : A) {n : ℕ} {rows cols u : List ℕ} {i a b : ℕ}
    → Adjacent n rows cols u → i < n → a ≡ get_or u i 0 → b ≡ get_or u (i + 1) 0 → Along fold n rows cols u u i b a first first
along_start fold first J h ea eb = record { walk = walk_start J h ea eb; folded = ap (fold first) (left_start J h ea eb) }

module _ {A B : Type 0} {fold : A → List ℕ → B} {n : ℕ} {rows cols u₀ u : List ℕ} {i end p : ℕ} {first acc : A} (L : Along fold n rows cols u₀ u i end p first acc) where
  -- a turn, in which the place k becomes part of the accumulator
  pub along_turn : {k : ℕ} {next : A} → p < end → k ≡ entry_in (get_or u (n + 1 + p) 0) → ((ks : List ℕ) → fold acc (k ∷ ks) ≡ fold next ks)
      → Along fold n rows cols u₀ u i end (p + 1) first next
  along_turn l e step = record {
    walk = walk_next L.walk l;
    folded = sym (step _) ∙ rw e (ap (fold acc) (sym (walk_turn L.walk l).cons) ∙ L.folded);
  }

  -- what the turn writes, past the flat lists
  pub along_front : {v : List ℕ} → take (n + 1 + 2 * length rows) v ≡ take (n + 1 + 2 * length rows) u → length v ≡ length u
      → Along fold n rows cols u₀ v i end p first acc
  along_front e l = record { walk = walk_front L.walk e l; folded = L.folded }

  -- a store there
  pub along_set : (q x : ℕ) → n + 1 + 2 * length rows ≤ q → Along fold n rows cols u₀ (set u q x) i end p first acc
  along_set q x h = along_front (take-set-le (n + 1 + 2 * length rows) u q x h) (length-set u q x)

  -- the loop is done
  pub along_end : end ≤ p → fold acc [] ≡ fold first (places rows cols i)
  along_end h = sym (ap (fold acc) (left_end L.walk h)) ∙ L.folded
