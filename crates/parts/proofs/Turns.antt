-- What the turns of the loops keep: each loop does what the model's recursion does. Assumes nothing.
use Prim.Native.Nat.{ℕ, suc, ◌+◌, ◌-◌, ◌<◌, ◌≤◌}
use mathlib.Core.Path.{◌≡◌, refl, sym, ap, ◌∙◌}
use mathlib.Core.Logic.{◌≢◌}
use mathlib.Core.Bool.{Bool}
use mathlib.Core.List.{List, [], ◌∷◌, ◌++◌}
use native.Mathlib.Decide.{ℕ_discrete}
use native.Mathlib.Omega.{arith}
use lib.ListN.{length, get_or, set, take, drop, length-set}
use lib.Seq.{take-set-le, drop-set-lt, get_or-set_same, get_or-set_other}
use Rattle.scratch.specs.Region.{region}
use Rattle.scratch.proofs.Region.{region_push, region_above}
use Rattle.meaning.specs.Free.{frees}
use Rattle.field.specs.Field.{Field, variables}
use Rattle.places.specs.Places.{entry_in}
use Rattle.places.proofs.Slices.{drop_more}
use Rattle.places.proofs.Walk.{Along, along_start, along_turn, along_front, along_end, adjacent_front}
use Rattle.parts.specs.Walk.{Search, search, Walk, visit, visit_at, visit_all, serve, turn_on_of, turns, walk, walked_from}
use Rattle.parts.specs.Cells.{Cells, cells, base, stack_base, members_base, marks_in, stack_in, search_in, Placed, Kept, Does, Popped, Walked}
use Rattle.parts.proofs.Walking.{turns_end}
use Rattle.parts.proofs.Cells.{stack_same, stack_some, kept_same, kept_then}

-- ---- the places of i: p is the place to come

pub record Serving (F : Field) (zeros : Bool) (i end p : ℕ) (s₀ s : Cells) : Type 0 where
  pub along : Along (visit_all F zeros i) (variables F) F.rows F.cols s₀.words s.words i end p (search_in F s₀) (search_in F s)
  pub kept : Kept F s₀ s

pub serve_start : {F : Field} {s : Cells} (zeros : Bool) {i a b : ℕ} → Placed F s → i < variables F → a ≡ get_or s.words i 0 → b ≡ get_or s.words (i + 1) 0
    → Serving F zeros i b a s s
serve_start {F} {s} zeros {i} P h ea eb = record { along = along_start (visit_all F zeros i) (search_in F s) P.adjacent h ea eb; kept = kept_same P }

module _ {F : Field} {zeros : Bool} {i end p : ℕ} {s₀ s : Cells} (S : Serving F zeros i end p s₀ s) where
  pub serve_turn : {s' : Cells} {k : ℕ} → p < end → k ≡ entry_in (get_or s.words (variables F + 1 + p) 0) → Does F (λ w. visit_at F zeros i w k) s s'
      → Serving F zeros i end (p + 1) s₀ s'
  unfolding visit_all
  serve_turn l e D = record {
    along = along_front (along_turn S.along l e (λ ks. ap (λ (w : Search). visit_all F zeros i w ks) (sym D.search))) D.kept.front D.kept.long;
    kept = kept_then S.kept D.kept;
  }

  pub serve_done : end ≤ p → Does F (λ w. serve F zeros w i) s₀ s
  unfolding serve visit_all
  serve_done l = record { search = along_end S.along l; kept = S.kept }

-- ---- the variable on top is popped: it goes behind the members

module _ {F : Field} {u : List ℕ} (below count : ℕ) (P : Placed F (cells u (below + 1))) (within : count < variables F) {i : ℕ} (ei : i ≡ get_or u (stack_base F + below) 0) where
  abbrev lowered : List ℕ
  lowered = set u (stack_base F + below) 0

  abbrev popped : List ℕ
  popped = set lowered (members_base F + count) i

  stack_few : below < variables F
  stack_few = omega (arith, P.stack_room)

  pub from_below : stack_base F + below < length u
  from_below = omega (arith, stack_few, P.words_room)

  pub to_below : members_base F + count < length u
  to_below = omega (arith, P.words_room)

  pub popped_below : i < variables F
  popped_below = rw ei (P.stack_below below (omega arith))

  long : length popped ≡ length u
  long = length-set lowered (members_base F + count) i ∙ length-set u (stack_base F + below) 0

  front : take (base F) popped ≡ take (base F) u
  front = take-set-le (base F) lowered (members_base F + count) i (omega arith) ∙ take-set-le (base F) u (stack_base F + below) 0 (omega arith)

  rest : drop (members_base F + (count + 1)) popped ≡ drop (members_base F + (count + 1)) u
  rest =
      drop-set-lt (members_base F + (count + 1)) lowered (members_base F + count) i (omega arith)
      ∙ drop-set-lt (members_base F + (count + 1)) u (stack_base F + below) 0 (omega (arith, stack_few))

  marks : marks_in F popped ≡ marks_in F u
  marks =
      region_above (base F) (variables F) lowered (members_base F + count) i (omega arith)
      ∙ region_above (base F) (variables F) u (stack_base F + below) 0 (omega arith)

  at_stack : (h : ℕ) → h < variables F → get_or popped (stack_base F + h) 0 ≡ get_or lowered (stack_base F + h) 0
  at_stack h l = get_or-set_other lowered (members_base F + count) (stack_base F + h) i 0 (λ e. omega arith)

  others : (h : ℕ) → h < variables F → h ≢ below → get_or popped (stack_base F + h) 0 ≡ get_or u (stack_base F + h) 0
  others h l ne = at_stack h l ∙ get_or-set_other u (stack_base F + below) (stack_base F + h) 0 0 (λ e. ne (omega arith))

  pub popped_placed : Placed F (cells popped below)
  popped_placed = record {
    shaped = P.shaped;
    adjacent = adjacent_front front long P.adjacent;
    words_room = omega (arith, long, P.words_room);
    stack_room = rw marks (omega (arith, P.stack_room));
    stack_below = λ h l. rw (others h (omega (arith, stack_few)) (λ e. omega arith)) (P.stack_below h (omega arith));
    blank = λ h l k. elim (ℕ_discrete h below) [
      | yes e ↦ rw (e, at_stack below stack_few) (get_or-set_same u (stack_base F + below) 0 0 from_below)
      | no ne ↦ others h k ne ∙ P.blank h (omega arith) k
    ];
  }

  members : region (members_base F) (count + 1) popped ≡ region (members_base F) count u ++ (i ∷ [])
  unfolding region
  members =
      region_push (members_base F) count lowered i (omega (arith, to_below, length-set u (stack_base F + below) 0))
      ∙ ap (λ (l : List ℕ). take count l ++ (i ∷ [])) (drop-set-lt (members_base F) u (stack_base F + below) 0 (omega (arith, stack_few)))

  pub popped_search : search (marks_in F u) (stack_in u (stack_base F) below) ≡ search_in F (cells popped below)
  unfolding search_in
  popped_search = rw (marks, stack_same u popped (stack_base F) below (λ h l. others h (omega (arith, stack_few)) (λ e. omega arith)))

-- ---- the loop that pops: count members are found, last variables are on the stack

abbrev walk_of : Search → List ℕ → Walk
walk_of w members = record { search = w; members = members }

pub record Popping (F : Field) (zeros : Bool) (s₀ : Cells) (u : List ℕ) (last count : ℕ) : Type 0 where
  pub placed : Placed F (cells u last)
  pub room : count + (last + frees (marks_in F u)) ≤ variables F
  pub walk : turns F zeros (variables F - count) (walk_of (search_in F (cells u last)) (region (members_base F) count u)) ≡ walked_from F zeros (search_in F s₀)
  pub long : length u ≡ length s₀.words
  pub front : take (base F) u ≡ take (base F) s₀.words
  pub rest : drop (members_base F + count) u ≡ drop (members_base F + count) s₀.words

pub pop_start : {F : Field} (zeros : Bool) {s : Cells} → Placed F s → Popping F zeros s s.words s.top 0
unfolding region
pop_start {F} zeros P =
    let e : variables F - 0 ≡ variables F = omega arith in
    record { placed = P; room = omega (arith, P.stack_room); walk = rw e; long = refl; front = refl; rest = refl }

module _ {F : Field} {zeros : Bool} {s₀ : Cells} {u : List ℕ} {last count : ℕ} (S : Popping F zeros s₀ u last count) where
  module _ (some : 0 < last) where
    el : last ≡ (last - 1) + 1
    el = omega arith

    next_placed : Placed F (cells u ((last - 1) + 1))
    next_placed = rw (sym el) S.placed

    pub next_within : count < variables F
    next_within = omega (arith, S.room)

    module _ {i : ℕ} {u₁ : List ℕ} (ei : i ≡ get_or u (stack_base F + (last - 1)) 0) (eu : u₁ ≡ set (set u (stack_base F + (last - 1)) 0) (members_base F + count) i) where
      pub pop_ready : Placed F (cells u₁ (last - 1)) × (i < variables F)
      pop_ready = (rw eu (popped_placed (last - 1) count next_placed next_within ei), popped_below (last - 1) count next_placed next_within ei)

      one_turn : turns F zeros (variables F - count) (walk_of (search_in F (cells u last)) (region (members_base F) count u))
          ≡ turns F zeros (variables F - (count + 1)) (walk_of (serve F zeros (search (marks_in F u) (stack_in u (stack_base F) (last - 1))) i) (region (members_base F) count u ++ (i ∷ [])))
      unfolding turns turn_on_of search_in
      one_turn =
          let e : variables F - count ≡ suc (variables F - (count + 1)) = omega (arith, next_within) in
          rw (e, stack_some u (stack_base F) last some, ei)

      new_walk : {u₂ : List ℕ} {r : ℕ} → Does F (λ w. serve F zeros w i) (cells (popped (last - 1) count next_placed next_within ei) (last - 1)) (cells u₂ r)
          → turns F zeros (variables F - (count + 1)) (walk_of (search_in F (cells u₂ r)) (region (members_base F) (count + 1) u₂)) ≡ walked_from F zeros (search_in F s₀)
      unfolding region
      new_walk {u₂} {r} D =
          let P = next_placed in
          let w = next_within in
          rw (D.search, ← popped_search (last - 1) count P w ei, D.kept.rest)
          (ap (λ (l : List ℕ). turns F zeros (variables F - (count + 1)) (walk_of (serve F zeros (search (marks_in F u) (stack_in u (stack_base F) (last - 1))) i) l)) (members (last - 1) count P w ei)
          ∙ sym one_turn ∙ S.walk)

      pub pop_turn : {u₂ : List ℕ} {r : ℕ} → Does F (λ w. serve F zeros w i) (cells u₁ (last - 1)) (cells u₂ r) → Popping F zeros s₀ u₂ r (count + 1)
      pop_turn {u₂} {r} D' = after (rw eu at D')
        where
          after : Does F (λ w. serve F zeros w i) (cells (popped (last - 1) count next_placed next_within ei) (last - 1)) (cells u₂ r) → Popping F zeros s₀ u₂ r (count + 1)
          after D =
              let P = next_placed in
              let w = next_within in
              record {
                placed = D.kept.placed;
                room = omega (arith, rw (marks (last - 1) count P w ei) at D.kept.taken, S.room);
                walk = new_walk D;
                long = D.kept.long ∙ long (last - 1) count P w ei ∙ S.long;
                front = D.kept.front ∙ front (last - 1) count P w ei ∙ S.front;
                rest =
                    drop_more (members_base F) (members_base F + (count + 1)) u₂ (popped (last - 1) count P w ei) (omega arith) D.kept.rest
                    ∙ rest (last - 1) count P w ei
                    ∙ drop_more (members_base F + count) (members_base F + (count + 1)) u s₀.words (omega arith) S.rest;
              }

  pub pop_done : last ≤ 0 → Popped F zeros s₀ u count
  unfolding search_in stack_in
  pop_done l =
      let e : last ≡ 0 = omega arith in
      let done = sym (turns_end F zeros (variables F - count) (marks_in F u) (region (members_base F) count u)) ∙ rw e at S.walk in
      record {
        placed = rw e at S.placed;
        count = omega (arith, S.room);
        marks = ap (λ (w : Walk). w.search.marks) done;
        members = ap (λ (w : Walk). w.members) done;
        long = S.long;
        front = S.front;
        rest = S.rest;
      }

-- ---- the walk: the start is visited, then all is popped

pub walk_done : {F : Field} {zeros : Bool} {start : ℕ} {u₀ u : List ℕ} {s : Cells} {r : ℕ} → Does F (λ w. visit w start) (cells u₀ 0) s → Popped F zeros s u r
    → Walked F zeros start u₀ u r
unfolding walk search_in stack_in
walk_done {F} {zeros} {start} {u₀} {u} {s} {r} D P =
    let e = ap (walked_from F zeros) D.search in
    record {
      placed = P.placed;
      count = P.count;
      marks = P.marks ∙ ap (λ (w : Walk). w.search.marks) e;
      members = P.members ∙ ap (λ (w : Walk). w.members) e;
      long = P.long ∙ D.kept.long;
      front = P.front ∙ D.kept.front;
      rest = P.rest ∙ drop_more (members_base F) (members_base F + r) s.words u₀ (omega arith) D.kept.rest;
    }
