-- `mark` copies the marks into their place, and `begin` sets all behind them to zeros. Assumes nothing.
use Prim.Native.Nat.{ℕ, zero, suc, ◌+◌, ◌-◌, ◌<◌, ◌≤◌}
use mathlib.Core.Path.{◌≡◌, refl, sym, ap, ◌∙◌}
use mathlib.Core.Bool.{Bool, true, false}
use mathlib.Core.List.{List, [], ◌∷◌, ◌++◌, append_assoc}
use native.Mathlib.Numerals.{add-one}
use native.Mathlib.Omega.{arith}
use borrow.Rule.Slice.PartMut.{put_mid, mid_of, mid_len, same_len_mid, take_put, drop_put}
use lib.ListN.{length, get_or, set, take, drop, replicate, length-map, length-replicate, get_or-map}
use lib.Seq.{paste, paste-zero, paste-suc, length-paste, drop-paste, length-take-le, take-take, take_all, take_at, drop_at, ext_get_or}
use Rattle.scratch.specs.Cleared.{cleared}
use Rattle.scratch.specs.Region.{region}
use Rattle.scratch.proofs.Region.{length_region, region_at}
use Rattle.field.specs.Field.{Field, variables}
use Rattle.places.proofs.Slices.{drop_more, front_get_d}
use Rattle.parts.specs.Walk.{mark_of, opened}
use Rattle.parts.specs.Cells.{base, stack_base, past, marks_in, Begun}

-- ---- the loop that copies: i marks are in place

pub record Marking (base : ℕ) (all : Bool) (s u₀ u : List ℕ) (i : ℕ) : Type 0 where
  pub room : base + length s ≤ length u₀
  pub within : i ≤ length s
  pub words : u ≡ paste u₀ base (opened all s) i

pub opened_long : (all : Bool) (s : List ℕ) → length (opened all s) ≡ length s
unfolding opened
opened_long all s = length-map s (mark_of all)

-- where all are opened, each variable is
pub opened_all : (s : List ℕ) (i : ℕ) → i < length s → get_or (opened true s) i 0 ≡ 2
unfolding opened
opened_all [] i h = absurd (omega arith)
opened_all (x ∷ s) zero h = refl
opened_all (x ∷ s) (suc i) h = opened_all s i (omega arith)

-- where not, the marks are the start values
pub opened_free : (s : List ℕ) → opened false s ≡ s
unfolding opened
opened_free [] = refl
opened_free (x ∷ s) = ap (λ (l : List ℕ). x ∷ l) (opened_free s)

module _ {base : ℕ} {all : Bool} {s u₀ u : List ℕ} {i : ℕ} (M : Marking base all s u₀ u i) where
  pub mark_long : length u ≡ length u₀
  mark_long = ap length M.words ∙ length-paste u₀ base (opened all s) i (omega (arith, M.room, M.within)) (omega (arith, M.within, opened_long all s))

  pub mark_index : i < length s → base + i < length u
  mark_index h = omega (arith, M.room, mark_long)

  pub mark_turn : {r : ℕ} → i < length s → r ≡ mark_of all (get_or s i 0) → Marking base all s u₀ (set u (base + i) r) (i + 1)
  unfolding opened
  mark_turn h e = record {
    room = M.room;
    within = omega arith;
    words = rw (M.words, e ∙ sym (get_or-map (mark_of all) s i 0), add-one)
        (paste-suc u₀ base (opened all s) i (mark_of all 0) (omega (arith, M.room)) (omega (arith, opened_long all s)));
  }

-- ---- what `begin` leaves

-- lists with the same front have the same regions in it
pub region_front : (a n b : ℕ) (u v : List ℕ) → a + n ≤ b → b ≤ length u → length v ≡ length u → take b v ≡ take b u → region a n v ≡ region a n u
region_front a n b u v h room long e =
    ext_get_or 0 (region a n v) (region a n u) (length_region a n v (omega arith) ∙ sym (length_region a n u (omega arith))) (λ i l.
    let k : i < n = omega (arith, length_region a n v (omega arith)) in
    region_at a n v i 0 k ∙ front_get_d b v u e (a + i) (omega arith) ∙ sym (region_at a n u i 0 k))

module _ (F : Field) (all : Bool) (s u₀ : List ℕ) {u₁ w : List ℕ} (long : length s ≡ variables F) (room : past F ≤ length u₀)
    (marked : u₁ ≡ paste u₀ (base F) (opened all s) (length s)) (zeros : w ≡ cleared 0 (mid_of (stack_base F) (past F - stack_base F) u₁)) where
  marked_long : length u₁ ≡ length u₀
  marked_long = rw marked (length-paste u₀ (base F) (opened all s) (length s) (omega arith) (omega (arith, opened_long all s)))

  mid_long : length (mid_of (stack_base F) (past F - stack_base F) u₁) ≡ variables F + variables F
  mid_long = mid_len (stack_base F) (past F) u₁ (omega (arith, marked_long)) ∙ omega arith

  zeros_long : length w ≡ variables F + variables F
  zeros_long = ap length zeros ∙ length-replicate _ 0 ∙ mid_long

  abbrev left : List ℕ
  left = put_mid (stack_base F) (past F - stack_base F) u₁ w

  left_long : length left ≡ length u₁
  left_long = same_len_mid (stack_base F) (past F - stack_base F) u₁ w (zeros_long ∙ sym mid_long)

  before_stack : take (stack_base F) left ≡ take (stack_base F) u₁
  before_stack = take_put (stack_base F) (past F - stack_base F) u₁ w (omega (arith, marked_long))

  marked_front : take (base F) u₁ ≡ take (base F) u₀
  marked_front = rw (marked, append_assoc) (take_at (take (base F) u₀) _ (base F) (length-take-le (base F) u₀ (omega arith)))

  marked_marks : marks_in F u₁ ≡ opened all s
  unfolding region
  marked_marks =
      let few : length (opened all s) ≤ length s = omega (arith, opened_long all s) in
      rw (marked, append_assoc, drop_at (take (base F) u₀) (take (length s) (opened all s) ++ drop (base F + length s) u₀) (base F) (length-take-le (base F) u₀ (omega arith)))
      (rw (take_all (length s) (opened all s) few) (take_at (opened all s) _ (variables F) (opened_long all s ∙ long)))

  pub begun : Begun F all s u₀ left
  unfolding region
  begun = record {
    long = left_long ∙ marked_long;
    front = sym (take-take (base F) (stack_base F) left (omega arith)) ∙ ap (take (base F)) before_stack ∙ take-take (base F) (stack_base F) u₁ (omega arith) ∙ marked_front;
    marks = region_front (base F) (variables F) (stack_base F) u₁ left (omega arith) (omega (arith, marked_long)) left_long before_stack ∙ marked_marks;
    zeros =
        ap (take (variables F + variables F)) (drop_at (take (stack_base F) u₁) (w ++ _) (stack_base F) (length-take-le (stack_base F) u₁ (omega (arith, marked_long))))
        ∙ take_at w _ (variables F + variables F) zeros_long
        ∙ zeros
        ∙ ap (λ (k : ℕ). replicate k 0) mid_long;
    rest =
        drop_put (stack_base F) (past F) u₁ w (omega arith) (omega (arith, marked_long)) (zeros_long ∙ omega arith)
        ∙ drop_more (base F + length s) (past F) u₁ u₀ (omega (arith, long))
        (rw marked (drop-paste u₀ (base F) (opened all s) (length s) (omega arith) (omega (arith, opened_long all s))));
  }
