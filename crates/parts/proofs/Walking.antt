-- What a walk comes to: its stack is empty after n turns, and its members are the component of the start. Assumes nothing.
use Prim.Native.Nat.{ℕ, zero, suc, ◌+◌, ◌-◌, ◌<◌, ◌≤◌}
use mathlib.Core.Path.{◌≡◌, refl, ap, ◌∙◌}
use mathlib.Core.Logic.{◌≢◌, ⊎_elim}
use mathlib.Core.Bool.{Bool, true, false, cond, false≢true}
use mathlib.Core.List.{List, [], ◌∷◌, ◌++◌, append-nil}
use native.Mathlib.Omega.{arith}
use borrow.Author.Tests.{eq-eqb}
use lib.ListN.{length, get_or, length-append, get_or-append}
use lib.Seq.{append_snoc}
use Rattle.meaning.specs.Free.{frees}
use Rattle.meaning.proofs.Free.{frees_le}
use Rattle.field.specs.Field.{Field, Shaped, variables}
use Rattle.parts.specs.Walk.{Search, search, push, visit, Walk, turn_on_of, turns, walk, members_from, marks_from}
use Rattle.parts.specs.Part.{has, Open, Joined, Reaches, here, there, Component}
use Rattle.parts.proofs.Listed.{has_there, has_last}
use Rattle.parts.proofs.Going.{Going, Taken, bool_cases, going_start, visit_going, serve_going, serve_closes, serve_visited, visited}
use Rattle.parts.proofs.Going.{left, visit_left, serve_left, visit_long, serve_long, open_below}

abbrev walk_of : Search → List ℕ → Walk
walk_of w members = record { search = w; members = members }

-- ---- n turns are enough

-- from an empty stack nothing is done
pub turns_end : (F : Field) (zeros : Bool) (more : ℕ) (marks members : List ℕ)
    → turns F zeros more (record { search = search marks []; members = members }) ≡ record { search = search marks []; members = members }
unfolding turns turn_on_of
turns_end F zeros zero marks members = refl
turns_end F zeros (suc more) marks members = turns_end F zeros more marks members

no_length : (l : List ℕ) → length l ≤ 0 → l ≡ []
no_length [] h = refl
no_length (x ∷ l) h = absurd (omega arith)

turns_empty : (F : Field) (zeros : Bool) (more : ℕ) (marks stack members : List ℕ) → length stack + frees marks ≤ more
    → (turns F zeros more (walk_of (search marks stack) members)).search.stack ≡ []
unfolding turns turn_on_of
turns_empty F zeros zero marks stack members h = no_length stack (omega arith)
turns_empty F zeros (suc more) marks [] members h = rw (turns_end F zeros more marks members)
turns_empty F zeros (suc more) marks (i ∷ stack) members h =
    turns_empty F zeros more _ _ (members ++ (i ∷ [])) (omega (arith, serve_left F zeros (search marks stack) i))

-- members, stack and open variables are as many as before
all_in : Walk → ℕ
all_in w = length w.members + left w.search

turns_count : (F : Field) (zeros : Bool) (more : ℕ) (marks stack members : List ℕ)
    → all_in (turns F zeros more (walk_of (search marks stack) members)) ≡ length members + (length stack + frees marks)
unfolding turns turn_on_of all_in
turns_count F zeros zero marks stack members = refl
turns_count F zeros (suc more) marks [] members = turns_count F zeros more marks [] members
turns_count F zeros (suc more) marks (i ∷ stack) members =
    turns_count F zeros more _ _ (members ++ (i ∷ [])) ∙ omega (arith, serve_left F zeros (search marks stack) i, length-append members (i ∷ []))

turns_long : (F : Field) (zeros : Bool) (more : ℕ) (marks stack members : List ℕ)
    → length (turns F zeros more (walk_of (search marks stack) members)).search.marks ≡ length marks
unfolding turns turn_on_of
turns_long F zeros zero marks stack members = refl
turns_long F zeros (suc more) marks [] members = turns_long F zeros more marks [] members
turns_long F zeros (suc more) marks (i ∷ stack) members = turns_long F zeros more _ _ (members ++ (i ∷ [])) ∙ serve_long F zeros (search marks stack) i

-- the first member stays the first
turns_first : (F : Field) (zeros : Bool) (more : ℕ) (marks stack members : List ℕ) → 0 < length members
    → get_or (turns F zeros more (walk_of (search marks stack) members)).members 0 0 ≡ get_or members 0 0
unfolding turns turn_on_of
turns_first F zeros zero marks stack members h = refl
turns_first F zeros (suc more) marks [] members h = turns_first F zeros more marks [] members h
turns_first F zeros (suc more) marks (i ∷ stack) members h =
    turns_first F zeros more _ _ (members ++ (i ∷ [])) (omega (arith, length-append members (i ∷ []))) ∙ get_or-append members (i ∷ []) 0 0 h

-- ---- what holds after every turn

pub record Walking (F : Field) (zeros : Bool) (marks₀ : List ℕ) (start : ℕ) (w : Walk) : Type 0 where
  pub going : Going F zeros marks₀ start w.members w.search
  pub begun : get_or w.search.marks start 0 ≢ 2
  pub settled : (i j : ℕ) → has w.members i ≡ true → Joined F zeros i j → get_or w.search.marks j 0 ≢ 2

module _ {F : Field} (S : Shaped F) {zeros : Bool} {marks₀ : List ℕ} {start : ℕ} where
  turn_walking : (marks stack members : List ℕ) → Walking F zeros marks₀ start (walk_of (search marks stack) members)
      → Walking F zeros marks₀ start (turn_on_of F zeros marks stack members)
  unfolding turn_on_of
  turn_walking marks [] members W = W
  turn_walking marks (i ∷ stack) members W =
      let now : Going F zeros marks₀ start (members ++ (i ∷ [])) (search marks stack) = lower W.going in
      record {
        going = serve_going S (W.going.taken i (has_there members stack i)).reached now;
        begun = serve_closes F zeros (search marks stack) i start W.begun;
        settled = λ a b h J. ⊎_elim
            (λ old. serve_closes F zeros (search marks stack) i b (W.settled a b old J))
            (λ e. serve_visited S (search marks stack) (rw e at J))
            (has_last members i a h);
      }
    where
      lower : Going F zeros marks₀ start members (search marks (i ∷ stack)) → Going F zeros marks₀ start (members ++ (i ∷ [])) (search marks stack)
      lower G = record {
        taken = rw (append_snoc members i stack) G.taken;
        other = rw (append_snoc members i stack) G.other;
        apart = rw (append_snoc members i stack) G.apart;
      }

  turns_walking : (more : ℕ) {w : Walk} → Walking F zeros marks₀ start w → Walking F zeros marks₀ start (turns F zeros more w)
  unfolding turns
  turns_walking zero W = W
  turns_walking (suc more) {w} W = turns_walking more (turn_walking w.search.marks w.search.stack w.members W)

-- ---- the walk from a start

module _ {F : Field} (S : Shaped F) (zeros : Bool) (marks : List ℕ) (long : length marks ≡ variables F) (start : ℕ) where
  abbrev first : Search
  first = visit (search marks []) start

  walk_walking : Walking F zeros marks start (walk F zeros marks start)
  unfolding walk has
  walk_walking = turns_walking S (variables F) (record {
    going = visit_going going_start start (λ o. here refl o);
    begun = visited (search marks []) start;
    settled = λ i j h J. absurd (false≢true h);
  })

  walk_empty : (walk F zeros marks start).search.stack ≡ []
  unfolding walk
  walk_empty = turns_empty F zeros (variables F) first.marks first.stack [] (omega (arith, visit_left (search marks []) start, frees_le marks))

  abbrev members : List ℕ
  members = members_from F zeros marks start

  all_members : members ++ (walk F zeros marks start).search.stack ≡ members
  all_members = rw walk_empty (append-nil members)

  pub walk_taken : (i : ℕ) → has members i ≡ true → Taken F zeros marks start (marks_from F zeros marks start) i
  walk_taken i h = walk_walking.going.taken i (ap (λ (l : List ℕ). has l i) all_members ∙ h)

  pub walk_other : (i : ℕ) → has members i ≡ false → get_or (marks_from F zeros marks start) i 0 ≡ get_or marks i 0
  walk_other i h = walk_walking.going.other i (ap (λ (l : List ℕ). has l i) all_members ∙ h)

  -- what was open and is not is a member
  pub closed_member : (i : ℕ) → Open marks i → get_or (marks_from F zeros marks start) i 0 ≢ 2 → has members i ≡ true
  closed_member i o ne = bool_cases (has members i) (λ h. h) (λ h. absurd (ne (walk_other i h ∙ o)))

  walk_all : (i : ℕ) → Reaches F zeros marks start i → has members i ≡ true
  walk_all i (here e o) = rw e (closed_member start o walk_walking.begun)
  walk_all i (there r J o) = closed_member i o (walk_walking.settled _ i (walk_all _ r) J)

  pub walk_component : Component F zeros marks start members
  walk_component = record {
    apart = rw all_members at walk_walking.going.apart;
    reached = λ i h. (walk_taken i h).reached;
    all = walk_all;
  }

  pub walk_marks : (i : ℕ) → get_or (marks_from F zeros marks start) i 0 ≡ cond (has members i) 0 (get_or marks i 0)
  walk_marks i = bool_cases (has members i) (λ h. rw h (walk_taken i h).marked) (λ h. rw h (walk_other i h))

  pub walk_long : length (marks_from F zeros marks start) ≡ variables F
  unfolding walk
  walk_long = turns_long F zeros (variables F) first.marks first.stack [] ∙ visit_long (search marks []) start ∙ long

  pub members_few : length members ≤ variables F
  unfolding walk all_in
  members_few =
      omega (arith, turns_count F zeros (variables F) first.marks first.stack [], visit_left (search marks []) start, frees_le marks)

  pub member_open : (i : ℕ) → has members i ≡ true → Open marks i
  member_open i h = (walk_taken i h).was_open

  pub member_below : (i : ℕ) → has members i ≡ true → i < variables F
  member_below i h = omega (arith, open_below marks i (member_open i h))

  pub start_member : Open marks start → has members start ≡ true
  start_member o = walk_all start (here refl o)

  first_push : Open marks start → first ≡ push (search marks []) start
  unfolding visit
  first_push o = rw (eq-eqb (get_or marks start 0) 2 o)

  pub walk_first : Open marks start → get_or members 0 0 ≡ start
  unfolding walk push turns turn_on_of
  walk_first o =
      let some : start < variables F = omega (arith, open_below marks start o) in
      let e : variables F ≡ suc (variables F - 1) = omega arith in
      ap (λ (w : Search). get_or (turns F zeros (variables F) (walk_of w [])).members 0 0) (first_push o)
      ∙ ap (λ (k : ℕ). get_or (turns F zeros k (walk_of (push (search marks []) start) [])).members 0 0) e
      ∙ turns_first F zeros (variables F - 1) _ _ (start ∷ []) (omega arith)
