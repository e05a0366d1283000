-- What the steps write into the words is what the model's steps do to the search. Assumes nothing.
use Prim.Native.Nat.{ℕ, ◌+◌, ◌<◌}
use mathlib.Core.Path.{◌≡◌, sym, ap, ◌∙◌}
use mathlib.Core.Logic.{◌≢◌}
use mathlib.Core.Bool.{Bool, true, false}
use mathlib.Core.List.{List, ◌∷◌}
use native.Mathlib.Numerals.{add-one}
use native.Mathlib.Decide.{ℕ_discrete}
use native.Mathlib.Omega.{arith}
use borrow.Author.Tests.{eq-eqb, ne_eqb}
use lib.ListN.{length, get_or, set, take, drop, length-set}
use lib.Seq.{lt-length-set, take-set-le, drop-set-lt, get_or-set_same, get_or-set_other}
use Rattle.scratch.proofs.Region.{region_at, region_set, region_above}
use Rattle.meaning.specs.Free.{frees}
use Rattle.meaning.proofs.Free.{frees_set}
use Rattle.field.specs.Field.{Field, variables, entries, quad_of}
use Rattle.places.specs.Places.{other_end}
use Rattle.places.proofs.Walk.{adjacent_front}
use Rattle.parts.specs.Walk.{joins_by, push, visit, visit_at}
use Rattle.parts.specs.Cells.{Cells, cells, base, stack_base, members_base, marks_in, stack_in, search_in, Placed, Does}
use Rattle.parts.proofs.Cells.{stack_same, does_same, does_as}

-- ---- variable j is visited

module _ {F : Field} {s : Cells} (P : Placed F s) {j : ℕ} (hj : j < variables F) where
  mark_at : get_or (marks_in F s.words) j 0 ≡ get_or s.words (base F + j) 0
  mark_at = region_at (base F) (variables F) s.words j 0 hj

  pub visit_seen : get_or s.words (base F + j) 0 ≢ 2 → Does F (λ w. visit w j) s s
  unfolding visit search_in
  visit_seen ne = does_same P (rw (mark_at, ne_eqb (get_or s.words (base F + j) 0) 2 ne))

  module _ (is_open : get_or s.words (base F + j) 0 ≡ 2) where
    abbrev marked : List ℕ
    marked = set s.words (base F + j) 0

    abbrev pushed : List ℕ
    pushed = set marked (stack_base F + s.top) j

    fewer : frees (marks_in F s.words) ≡ frees (set (marks_in F s.words) j 0) + 1
    fewer = frees_set (marks_in F s.words) j 0 (mark_at ∙ is_open) (omega arith)

    -- it has a place on the stack
    top_below : s.top < variables F
    top_below = omega (arith, P.stack_room, fewer)

    pub top_index : stack_base F + s.top < length s.words
    top_index = omega (arith, top_below, P.words_room)

    long : length pushed ≡ length s.words
    long = length-set marked (stack_base F + s.top) j ∙ length-set s.words (base F + j) 0

    on_top : get_or pushed (stack_base F + s.top) 0 ≡ j
    on_top = get_or-set_same marked (stack_base F + s.top) j 0 (lt-length-set s.words (base F + j) 0 top_index)

    -- the other places of the stack stay as they are
    others : (h : ℕ) → h ≢ s.top → get_or pushed (stack_base F + h) 0 ≡ get_or s.words (stack_base F + h) 0
    others h ne =
        get_or-set_other marked (stack_base F + s.top) (stack_base F + h) j 0 (λ e. ne (omega arith))
        ∙ get_or-set_other s.words (base F + j) (stack_base F + h) 0 0 (λ e. omega arith)

    front : take (base F) pushed ≡ take (base F) s.words
    front = take-set-le (base F) marked (stack_base F + s.top) j (omega arith) ∙ take-set-le (base F) s.words (base F + j) 0 (omega arith)

    rest : drop (members_base F) pushed ≡ drop (members_base F) s.words
    rest =
        drop-set-lt (members_base F) marked (stack_base F + s.top) j (omega (arith, top_below))
        ∙ drop-set-lt (members_base F) s.words (base F + j) 0 (omega arith)

    marks : marks_in F pushed ≡ set (marks_in F s.words) j 0
    marks =
        region_above (base F) (variables F) marked (stack_base F + s.top) j (omega arith)
        ∙ region_set (base F) (variables F) s.words j 0 hj

    stack : stack_in pushed (stack_base F) (s.top + 1) ≡ j ∷ stack_in s.words (stack_base F) s.top
    unfolding stack_in
    stack = rw (add-one s.top, on_top) (ap (λ (l : List ℕ). j ∷ l) (stack_same s.words pushed (stack_base F) s.top (λ h l. others h (λ e. omega arith))))

    visits : push (search_in F s) j ≡ visit (search_in F s) j
    unfolding visit search_in
    visits = rw (mark_at, eq-eqb (get_or s.words (base F + j) 0) 2 is_open)

    push_does : Does F (λ w. push w j) s (cells pushed (s.top + 1))
    unfolding search_in push
    push_does = record {
      search = rw (marks, stack);
      kept = record {
        placed = record {
          shaped = P.shaped;
          adjacent = adjacent_front front long P.adjacent;
          words_room = omega (arith, long, P.words_room);
          stack_room = rw marks (omega (arith, P.stack_room, fewer));
          stack_below = λ h l. elim (ℕ_discrete h s.top) [
            | yes e ↦ rw (e, on_top) hj
            | no ne ↦ rw (others h ne) (P.stack_below h (omega arith))
          ];
          blank = λ h l k. others h (λ e. omega arith) ∙ P.blank h (omega arith) k;
        };
        taken = rw marks (omega (arith, fewer));
        front = front;
        rest = rest;
        long = long;
      };
    }

    pub visit_open : Does F (λ w. visit w j) s (cells pushed (s.top + 1))
    visit_open = does_as (λ w. visit w j) push_does visits

-- ---- a place of a served variable

module _ {F : Field} {s : Cells} (P : Placed F s) (i : ℕ) {k : ℕ} (hk : k < entries F) where
  module _ (zeros : Bool) {b : Bool} (eb : b ≡ joins_by zeros (quad_of F k)) where
    pub passes_by : b ≡ false → Does F (λ w. visit_at F zeros i w k) s s
    unfolding visit_at
    passes_by e = does_same P (rw (sym eb ∙ e))

    pub visits_end : {j : ℕ} {s' : Cells} → b ≡ true → j ≡ other_end F.rows F.cols i k → Does F (λ w. visit w j) s s' → Does F (λ w. visit_at F zeros i w k) s s'
    unfolding visit_at
    visits_end e ej D = does_as (λ w. visit_at F zeros i w k) D (rw (← ej, sym eb ∙ e))
