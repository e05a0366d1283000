-- What the calls leave, as their callers read it: ready for the next walk, the marks, the members, and the next component. Assumes nothing.
use Prim.Native.Nat.{ℕ, ◌+◌, ◌<◌, ◌≤◌}
use mathlib.Core.Path.{◌≡◌, sym, ap, ◌∙◌}
use mathlib.Core.Logic.{◌≢◌}
use mathlib.Core.Bool.{Bool}
use mathlib.Core.List.{List, [], ◌∷◌, ◌++◌}
use native.Mathlib.Omega.{arith}
use borrow.Author.Tests.{eq-eqb, ne_eqb}
use lib.ListN.{length, get_or, take, get_or-replicate}
use lib.Seq.{take-take}
use Rattle.scratch.proofs.Region.{length_region, region_at}
use Rattle.meaning.proofs.Free.{frees_le}
use Rattle.field.specs.Field.{Field, variables, Shaped}
use Rattle.places.specs.Places.{Adjacent}
use Rattle.places.proofs.Slices.{front_get_d}
use Rattle.places.proofs.Walk.{adjacent_front}
use Rattle.parts.specs.Walk.{members_from, marks_from, Parts, part_at}
use Rattle.parts.specs.Part.{Open}
use Rattle.parts.specs.Cells.{Cells, cells, base, stack_base, members_base, past, marks_in, Placed, Begun, Walked}
use Rattle.parts.proofs.Listed.{has_at}
use Rattle.parts.proofs.Walking.{member_below}
use Rattle.parts.proofs.Marks.{region_front}

-- after `begin` all is ready for a walk
pub begun_placed : {F : Field} {all : Bool} {s u₀ u : List ℕ} → Shaped F → Adjacent (variables F) F.rows F.cols u₀ → past F ≤ length u₀ → Begun F all s u₀ u
    → Placed F (cells u 0)
begun_placed {F} {all} {s} {u₀} {u} S A room B =
    let n = variables F in
    record {
      shaped = S;
      adjacent = adjacent_front B.front B.long A;
      words_room = omega (arith, B.long);
      stack_room = omega (arith, frees_le (marks_in F u), length_region (base F) n u (omega (arith, B.long)));
      stack_below = λ h l. absurd (omega arith);
      blank = λ h l k.
          sym (region_at (stack_base F) (n + n) u h 0 (omega arith)) ∙ ap (λ (t : List ℕ). get_or t h 0) B.zeros ∙ get_or-replicate (n + n) h 0 0 (omega arith);
    }

-- what is stored past the members keeps that, and the marks
module _ {F : Field} {s : Cells} (P : Placed F s) (v : List ℕ) (long : length v ≡ length s.words) (same : take (past F) v ≡ take (past F) s.words) where
  pub marks_past : marks_in F v ≡ marks_in F s.words
  marks_past = region_front (base F) (variables F) (past F) s.words v (omega arith) P.words_room long same

  pub placed_past : Placed F (cells v s.top)
  placed_past = record {
    shaped = P.shaped;
    adjacent = adjacent_front front long P.adjacent;
    words_room = omega (arith, P.words_room);
    stack_room = rw marks_past P.stack_room;
    stack_below = λ h l. rw (at h (omega (arith, P.stack_room))) (P.stack_below h l);
    blank = λ h l k. at h k ∙ P.blank h l k;
  }
    where
      front : take (base F) v ≡ take (base F) s.words
      front = sym (take-take (base F) (past F) v (omega arith)) ∙ ap (take (base F)) same ∙ take-take (base F) (past F) s.words (omega arith)

      at : (h : ℕ) → h < variables F → get_or v (stack_base F + h) 0 ≡ get_or s.words (stack_base F + h) 0
      at h l = front_get_d (past F) v s.words same (stack_base F + h) (omega arith)

-- ---- the marks and the members in the words

-- the mark of j
pub mark_read : (F : Field) (u : List ℕ) {j : ℕ} → j < variables F → get_or (marks_in F u) j 0 ≡ get_or u (base F + j) 0
mark_read F u {j} h = region_at (base F) (variables F) u j 0 h

module _ {F : Field} {zeros : Bool} {start : ℕ} {u₀ u : List ℕ} {r : ℕ} (W : Walked F zeros start u₀ u r) where
  -- the answer is how many members there are
  pub count_is : r ≡ length (members_from F zeros (marks_in F u₀) start)
  count_is = sym (length_region (members_base F) r u (omega (arith, W.count, W.placed.words_room))) ∙ ap length W.members

  -- member h
  pub member_read : (h : ℕ) → h < r → get_or u (members_base F + h) 0 ≡ get_or (members_from F zeros (marks_in F u₀) start) h 0
  member_read h l = sym (region_at (members_base F) r u h 0 l) ∙ ap (λ (t : List ℕ). get_or t h 0) W.members

  pub member_variable : (h : ℕ) → h < r → get_or u (members_base F + h) 0 < variables F
  member_variable h l =
      rw (member_read h l)
      (member_below W.placed.shaped zeros (marks_in F u₀) (length_region (base F) (variables F) u₀ (omega (arith, W.placed.words_room, W.long))) start _
      (has_at _ h (omega (arith, count_is))))

-- ---- one start after another

module _ (F : Field) (zeros : Bool) (p : Parts) (i : ℕ) where
  pub part_skipped : get_or p.marks i 0 ≢ 2 → part_at F zeros p i ≡ p
  unfolding part_at
  part_skipped ne = rw (ne_eqb (get_or p.marks i 0) 2 ne)

  pub part_walked : Open p.marks i → part_at F zeros p i ≡ record { marks = marks_from F zeros p.marks i; found = p.found ++ (members_from F zeros p.marks i ∷ []) }
  unfolding part_at
  part_walked e = rw (eq-eqb (get_or p.marks i 0) 2 e)
