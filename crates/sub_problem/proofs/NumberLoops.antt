-- The loops that number the free variables and list the map back: how they start, turn and end. Assumes nothing.
use Prim.Native.Nat.{ℕ, suc, ◌+◌, ◌<◌, ◌≤◌}
use mathlib.Core.Path.{◌≡◌, refl, ap, ◌∙◌}
use mathlib.Core.Bool.{Bool, true, false, cond}
use mathlib.Core.List.{List}
use native.Mathlib.Decide.{ℕ_discrete}
use native.Mathlib.Nat.{le_antisymm}
use native.Mathlib.Numerals.{add-one}
use native.Mathlib.Omega.{arith}
use borrow.Author.Tests.{eq-eqb, ne_eqb}
use lib.ListN.{length, get_or, set, length-set}
use lib.Seq.{get_or-set_same, get_or-set_other}
use Rattle.meaning.specs.Free.{is_free}
use Rattle.scratch.specs.Over.{over}
use Rattle.scratch.proofs.Over.{over_push}
use Rattle.shift.specs.Picked.{picked}
use Rattle.sub_problem.specs.Reduced.{back, new_index}
use Rattle.sub_problem.specs.Working.{Numbers, Numbered}
use Rattle.shift.proofs.Picked.{one_longer, picked_few, picked_more, picked_same}
use Rattle.sub_problem.proofs.Numbering.{new_below}

-- ---- whether a variable is free, as the code asks

module _ {A : Type 0} (s : List ℕ) (i : ℕ) (a b : A) where
  pub where_free : get_or s i 0 ≡ 2 → a ≡ cond (is_free s i) a b
  where_free e = rw (eq-eqb (get_or s i 0) 2 e)

  pub where_given : (get_or s i 0 ≡ 2 → ⊥) → b ≡ cond (is_free s i) a b
  where_given n = rw (ne_eqb (get_or s i 0) 2 n)

-- ---- the new numbers

next_new : (s : List ℕ) (k : ℕ) → cond (is_free s k) (new_index s k + 1) (new_index s k) ≡ new_index s (suc k)
next_new s k = by (is_free s k) refl
  where
    by : (b : Bool) → is_free s k ≡ b → cond b (new_index s k + 1) (new_index s k) ≡ new_index s (suc k)
    by true e = rw (picked_more (is_free s) k e) (omega (arith, one_longer (picked (is_free s) k) k))
    by false e = rw (picked_same (is_free s) k e) refl

pub new_few : (s : List ℕ) (i : ℕ) → new_index s i ≤ i
new_few s i = picked_few (is_free s) i

module _ {s u : List ℕ} where
  pub numbers_start : length s ≤ 4096 → length s ≤ length u → Numbered s 0 u 0
  unfolding picked
  numbers_start few long = record { numbers = record { within = omega arith; few = few; long = long; at = λ i h. absurd (omega arith) }; counted = refl }

  pub numbers_turn : {k count count₁ : ℕ} → Numbered s k u count → k < length s → count₁ ≡ cond (is_free s k) (count + 1) count → Numbered s (k + 1) (set u k count) count₁
  numbers_turn {k} {count} {count₁} N h e = rw add-one (record {
    numbers = record { within = h; few = N.numbers.few; long = omega (arith, N.numbers.long, length-set u k count); at = at };
    counted = e ∙ ap (λ (c : ℕ). cond (is_free s k) (c + 1) c) N.counted ∙ next_new s k;
  })
    where
      at : (i : ℕ) → i < suc k → get_or (set u k count) i 0 ≡ new_index s i
      at i l = elim (ℕ_discrete i k) [
        | yes z ↦ rw (z, get_or-set_same u k count 0 (omega (arith, N.numbers.long))) N.counted
        | no n ↦ get_or-set_other u k i count 0 n ∙ N.numbers.at i (omega arith)
      ]

  pub numbers_done : {k count : ℕ} → Numbered s k u count → length s ≤ k → Numbered s (length s) u count
  numbers_done {k} {count} N h = let e : k ≡ length s = le_antisymm N.numbers.within h in rw e at N

  pub count_small : {k count : ℕ} → Numbered s k u count → count ≤ 4096
  count_small {k} N = omega (arith, N.counted, new_few s k, N.numbers.within, N.numbers.few)

  -- a number that was stored is small, and has its place in the map
  module _ (N : Numbers s u) {i r : ℕ} (h : i < length s) (e : r ≡ get_or u i 0) where
    pub is_new : r ≡ new_index s i
    is_new = e ∙ N.at i h

    pub new_small : r ≤ 4096
    new_small = omega (arith, is_new, new_few s i, N.few)

    pub new_room : {room : ℕ} → get_or s i 0 ≡ 2 → length (back s) ≤ room → r < room
    new_room f long = omega (arith, is_new, new_below s i (eq-eqb (get_or s i 0) 2 f) h)

  -- the number of an end that was read
  module _ (N : Numbers s u) {i j : ℕ} (e : i ≡ j) (h : j < length s) where
    pub stored_new : get_or u i 0 ≡ new_index s i
    stored_new = N.at i (omega arith)

    pub stored_small : get_or u i 0 ≤ 4096
    stored_small = omega (arith, stored_new, new_few s i, N.few)

-- the loop: as many words as there were
pub record Numbering (s u₀ : List ℕ) (k : ℕ) (u : List ℕ) (count : ℕ) : Type 0 where
  pub numbered : Numbered s k u count
  pub same : length u ≡ length u₀

pub numbering_turn : {s u₀ u : List ℕ} {k count count₁ : ℕ} → Numbering s u₀ k u count → k < length s → count₁ ≡ cond (is_free s k) (count + 1) count → Numbering s u₀ (k + 1) (set u k count) count₁
numbering_turn {u = u} {k = k} {count = count} N h e = record { numbered = numbers_turn N.numbered h e; same = length-set u k count ∙ N.same }

-- ---- the map back

pub record ListsBack (s : List ℕ) (k : ℕ) (old new : List ℕ) : Type 0 where
  pub within : k ≤ length s
  pub room : length (back s) ≤ length old
  pub is : new ≡ over (picked (is_free s) k) old
  pub long : length new ≡ length old

module _ {s old : List ℕ} where
  pub lists_start : length (back s) ≤ length old → ListsBack s 0 old old
  unfolding picked over
  lists_start room = record { within = omega arith; room = room; is = refl; long = refl }

  pub lists_turn : {k : ℕ} {new new₁ : List ℕ} → ListsBack s k old new → k < length s → new₁ ≡ cond (is_free s k) (set new (new_index s k) k) new → ListsBack s (k + 1) old new₁
  lists_turn {k} {new} {new₁} L h e = rw add-one (by (is_free s k) refl e)
    where
      by : (b : Bool) → is_free s k ≡ b → new₁ ≡ cond b (set new (new_index s k) k) new → ListsBack s (suc k) old new₁
      by true f q = record {
        within = h;
        room = L.room;
        is = rw (picked_more (is_free s) k f)
            (q ∙ ap (λ (l : List ℕ). set l (new_index s k) k) L.is ∙ over_push (picked (is_free s) k) old (new_index s k) k refl (omega (arith, new_below s k f h, L.room)));
        long = ap length q ∙ length-set new (new_index s k) k ∙ L.long;
      }
      by false f q = record { within = h; room = L.room; is = rw (picked_same (is_free s) k f) (q ∙ L.is); long = ap length q ∙ L.long }

  pub lists_done : {k : ℕ} {new : List ℕ} → ListsBack s k old new → length s ≤ k → new ≡ over (back s) old
  lists_done {k} L h = let e : k ≡ length s = le_antisymm L.within h in rw (← e) L.is
