-- A loop that marks both ends of an entry a turn marks the variables that have one. Assumes nothing.
use Prim.Native.Nat.{ℕ, ◌+◌, ◌-◌, ◌<◌, ◌≤◌}
use mathlib.Core.Path.{◌≡◌, refl, sym, ap, ◌∙◌}
use mathlib.Core.Bool.{Bool, true, false, cond, not, ◌&&◌}
use mathlib.Core.List.{List}
use native.Mathlib.Decide.{ℕ_discrete, dec_lt}
use native.Mathlib.Nat.{le_antisymm}
use native.Mathlib.Numerals.{add-one}
use native.Mathlib.Omega.{arith}
use borrow.Author.Tests.{eq-eqb, ne_eqb}
use lib.Dec.{eqb}
use lib.ListN.{length, get_or, set, drop, length-set}
use lib.Seq.{get_or-set_same, get_or-set_other, get_or-drop, drop-set-lt, ext_get_or}
use Rattle.scratch.specs.All.{all_below}
use Rattle.places.specs.Places.{EndsBelow, Begins}
use Rattle.no_effect.specs.Effect.{apart_at, untouched, Marked}

-- the first n words are 1 at the ends of the first k entries, and 0 elsewhere
pub record Marks (n : ℕ) (rows cols : List ℕ) (k : ℕ) (u₀ u : List ℕ) : Type 0 where
  pub within : k ≤ length rows
  pub long : length u ≡ length u₀
  pub room : n ≤ length u
  pub at : (i : ℕ) → i < n → get_or u i 0 ≡ cond (all_below (apart_at rows cols i) k) 0 1
  pub rest : drop n u ≡ drop n u₀

-- one mark: the word at v is 1 now
mark_one : (u : List ℕ) (v i : ℕ) → v < length u → get_or (set u v 1) i 0 ≡ cond (not (eqb v i)) (get_or u i 0) 1
mark_one u v i h = elim (ℕ_discrete i v) [
  | yes e ↦ rw (e, get_or-set_same u v 1 0 h, eq-eqb v v refl)
  | no n ↦ rw (get_or-set_other u v i 1 0 n, ne_eqb v i (λ e. n (sym e)))
]

both_ends : (a b c : Bool) → ◌≡◌ {A = ℕ} (cond b (cond a (cond c 0 1) 1) 1) (cond (a && b && c) 0 1)
both_ends true true c = refl
both_ends true false c = refl
both_ends false true c = refl
both_ends false false c = refl

module _ {n : ℕ} {rows cols u₀ : List ℕ} (E : EndsBelow n rows cols) where
  pub marks_start : n ≤ length u₀ → Begins n (λ i. 0) u₀ → Marks n rows cols 0 u₀ u₀
  unfolding all_below
  marks_start room zeros = record { within = omega arith; long = refl; room = room; at = zeros; rest = refl }

  module _ {k r c : ℕ} {u : List ℕ} (M : Marks n rows cols k u₀ u) (h : k < length rows) (er : r ≡ get_or rows k 0) (ec : c ≡ get_or cols k 0) where
    pub row_there : r < length u
    row_there = omega (arith, E.row_below k h, M.room)

    pub column_there : c < length u
    column_there = omega (arith, E.column_below k h, M.room)

    pub marks_turn : Marks n rows cols (k + 1) u₀ (set (set u r 1) c 1)
    unfolding all_below
    marks_turn = record {
      within = omega arith;
      long = length-set (set u r 1) c 1 ∙ length-set u r 1 ∙ M.long;
      room = simp length-set M.room;
      at = λ i l.
          mark_one (set u r 1) c i (simp length-set column_there)
          ∙ ap (λ (x : ℕ). cond (not (eqb c i)) x 1) (mark_one u r i row_there ∙ ap (λ (x : ℕ). cond (not (eqb r i)) x 1) (M.at i l))
          ∙ rw (add-one, er, ec) (both_ends (not (eqb (get_or rows k 0) i)) (not (eqb (get_or cols k 0) i)) (all_below (apart_at rows cols i) k));
      rest = drop-set-lt n (set u r 1) c 1 (omega (arith, E.column_below k h)) ∙ drop-set-lt n u r 1 (omega (arith, E.row_below k h)) ∙ M.rest;
    }

  pub marks_done : {k : ℕ} {u : List ℕ} → Marks n rows cols k u₀ u → length rows ≤ k → Marked n rows cols u₀ u
  unfolding untouched
  marks_done M h = record {
    long = M.long;
    at = λ i l. M.at i l ∙ ap (λ (k : ℕ). cond (all_below (apart_at rows cols i) k) 0 1) (le_antisymm M.within h);
    rest = M.rest;
  }

-- the first n words are written over in any case
pub marked_over : {n : ℕ} {rows cols u₀ u₁ u : List ℕ} → length u₁ ≡ length u₀ → drop n u₁ ≡ drop n u₀ → Marked n rows cols u₁ u → Marked n rows cols u₀ u
marked_over long rest M = record { long = M.long ∙ long; at = M.at; rest = M.rest ∙ rest }

-- Theorem. Any two results of marking are equal.
pub marked_one_result : {n : ℕ} {rows cols u₀ u v : List ℕ} → Marked n rows cols u₀ u → Marked n rows cols u₀ v → u ≡ v
marked_one_result {n} {rows} {cols} {u₀} {u} {v} M N = ext_get_or 0 u v (M.long ∙ sym N.long) (λ i l. elim (dec_lt i n) [
  | yes h ↦ M.at i h ∙ sym (N.at i h)
  | no h ↦
      let e : n + (i - n) ≡ i = omega arith in
      rw (← e) (sym (get_or-drop n u (i - n) 0) ∙ ap (λ (x : List ℕ). get_or x (i - n) 0) (M.rest ∙ sym N.rest) ∙ get_or-drop n v (i - n) 0)
])

-- a word is 0 exactly where its variable has no entry
pub mark_means : {n : ℕ} {rows cols u₀ u : List ℕ} → Marked n rows cols u₀ u → (i : ℕ) → i < n → eqb (get_or u i 0) 0 ≡ untouched rows cols i
mark_means {rows = rows} {cols = cols} M i h = rw (M.at i h) (by (untouched rows cols i))
  where
    by : (b : Bool) → eqb (cond b 0 1) 0 ≡ b
    by true = refl
    by false = refl
