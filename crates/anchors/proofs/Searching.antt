-- From start to start: what one step leaves, and the loop over all. Assumes nothing.
use Prim.Native.Nat.{ℕ, ◌+◌, ◌<◌, ◌≤◌}
use mathlib.Core.Path.{◌≡◌, refl, sym, ap, ◌∙◌}
use mathlib.Core.Bool.{Bool, true, false, cond, ◌&&◌}
use mathlib.Core.List.{List, [], ◌∷◌}
use native.Mathlib.Numerals.{add-one}
use native.Mathlib.Nat.{zero-add, le_antisymm}
use native.Mathlib.Omega.{arith}
use borrow.Author.Tests.{eq-eqb, ne_eqb, le-leb, lt-leb}
use lib.Dec.{eqb, leb}
use lib.ListN.{length, get_or, set, length-append}
use lib.Seq.{sets}
use lib.Ieee.{Float}
use Rattle.scratch.proofs.Over.{sets_then}
use Rattle.scratch.proofs.Region.{length_region, region_at}
use Rattle.field.specs.Field.{Field, variables}
use Rattle.parts.specs.Walk.{opened, members_from}
use Rattle.parts.specs.Cells.{base, members_base, marks_in, cells, Placed, Walked}
use Rattle.parts.proofs.Listed.{has_at}
use Rattle.parts.proofs.Theorems.{members_open}
use Rattle.anchors.specs.Model.{leads, all_turnable, anchor_in, marks_at, new_at, anchor_at, anchors_to, anchors_of}
use Rattle.anchors.specs.Cells.{members_in, Members, Standing, Visits, Lists}

-- ---- one start

module _ {F : Field} {u : List ℕ} (P : Placed F (cells u 0)) where
  marks_long : length (marks_in F u) ≡ variables F
  marks_long = length_region (base F) (variables F) u (omega (arith, P.words_room))

  mark_is : (i : ℕ) → i < variables F → get_or (marks_in F u) i 0 ≡ get_or u (base F + i) 0
  mark_is i h = region_at (base F) (variables F) u i 0 h

module _ {F : Field} {i : ℕ} {u : List ℕ} (P : Placed F (cells u 0)) (h : i < variables F) where
  pub visit_seen : {s list : List ℕ} {before : ℕ} (least : ℕ) → (get_or u (base F + i) 0 ≡ 2 → ⊥) → Visits F s least i u list before u list before
  unfolding marks_at new_at
  visit_seen least n =
      let e : eqb (get_or (marks_in F u) i 0) 2 ≡ false = ne_eqb (get_or (marks_in F u) i 0) 2 (λ z. n (sym (mark_is P i h) ∙ z)) in
      record { placed = P; marks = rw e; stored = rw e; counted = rw e (omega arith) }

  module _ (free : get_or u (base F + i) 0 ≡ 2) {u' : List ℕ} {count : ℕ} (W : Walked F false i u u' count) where
    count_is : length (members_from F false (marks_in F u) i) ≡ count
    count_is = ap length (sym W.members) ∙ length_region (members_base F) count u' (omega (arith, W.placed.words_room, W.count))

    is_open : eqb (get_or (marks_in F u) i 0) 2 ≡ true
    is_open = eq-eqb (get_or (marks_in F u) i 0) 2 (mark_is P i h ∙ free)

    -- the members are variables
    pub walked_members : Members F count u'
    walked_members = record {
      shaped = W.placed.shaped;
      adjacent = W.placed.adjacent;
      room = omega (arith, W.placed.words_room, W.count);
      below = λ k l.
          let at : get_or (members_from F false (marks_in F u) i) k 0 ≡ get_or u' (members_base F + k) 0 = ap (λ (m : List ℕ). get_or m k 0) (sym W.members) ∙ region_at (members_base F) count u' k 0 l in
          rw at at (members_open P.shaped false (marks_in F u) (marks_long P) i (get_or (members_from F false (marks_in F u) i) k 0)
          (has_at (members_from F false (marks_in F u) i) k (omega (arith, count_is)))).1;
    }

    visit_open : {s list list' : List ℕ} {least before r : ℕ} (new : List ℕ) → anchor_in F s least i (members_from F false (marks_in F u) i) ≡ new
        → list' ≡ sets list before new → r ≡ before + length new → Visits F s least i u list before u' list' r
    unfolding marks_at new_at
    visit_open new e es er = record { placed = W.placed; marks = rw is_open W.marks; stored = rw (is_open, e) es; counted = rw (is_open, e) er }

    pub visit_small : {s list : List ℕ} {least before : ℕ} → count < least → Visits F s least i u list before u' list before
    unfolding anchor_in
    visit_small {least = least} l = visit_open [] (rw (count_is, lt-leb least count l)) refl (omega arith)

    module _ {s : List ℕ} {least : ℕ} (l : least ≤ count) {b : Bool} (eb : b ≡ all_turnable F s (members_in F count u')) where
      pub visit_tilted : {list : List ℕ} {before : ℕ} → b ≡ false → Visits F s least i u list before u' list before
      unfolding anchor_in
      visit_tilted z = visit_open [] (rw (count_is, le-leb least count l, ← W.members, ← eb, z)) refl (omega arith)

      pub visit_found : {list list' : List ℕ} {before a : ℕ} → b ≡ true → a ≡ leads F i (members_in F count u') → list' ≡ set list before a
          → Visits F s least i u list before u' list' (before + 1)
      unfolding anchor_in
      visit_found {a = a} z ea es = visit_open (a ∷ []) (rw (count_is, le-leb least count l, ← W.members, ← eb, z, ← ea)) es refl

-- ---- the loop

pub new_few : (F : Field) (s : List ℕ) (least : ℕ) (marks : List ℕ) (i : ℕ) → length (new_at F s least marks i) ≤ 1
unfolding new_at anchor_in
new_few F s least marks i = go (eqb (get_or marks i 0) 2) (leb least (length (members_from F false marks i)) && all_turnable F s (members_from F false marks i))
  where
    go : (x y : Bool) → length (cond x (cond y (leads F i (members_from F false marks i) ∷ []) []) []) ≤ 1
    go true true = omega arith
    go true false = omega arith
    go false y = omega arith

-- where the loop stands at start i; list₀, f₀ and u₀ are lent lists where it begins
pub record Searching (F : Field) (s : List ℕ) (least : ℕ) (list₀ : List ℕ) (f₀ : List Float) (u₀ : List ℕ) (i : ℕ) (list : List ℕ) (f : List Float) (u : List ℕ) (r : ℕ) : Type 0 where
  pub standing : Standing F s f u
  pub marks : marks_in F u ≡ (anchors_to F s least i).marks
  pub stored : list ≡ sets list₀ 0 (anchors_to F s least i).anchors
  pub counted : r ≡ length (anchors_to F s least i).anchors
  pub few : r ≤ i
  pub within : i ≤ variables F
  pub list_long : length list ≡ length list₀
  pub floats_long : length f ≡ length f₀
  pub words_long : length u ≡ length u₀

pub search_start : {F : Field} {s list : List ℕ} {f : List Float} {u : List ℕ} (least : ℕ) → Standing F s f u → marks_in F u ≡ opened true s → Searching F s least list f u 0 list f u 0
unfolding anchors_to
search_start least S e = record {
  standing = S;
  marks = e;
  stored = refl;
  counted = refl;
  few = omega arith;
  within = omega arith;
  list_long = refl;
  floats_long = refl;
  words_long = refl;
}

module _ {F : Field} {s : List ℕ} {least : ℕ} {list₀ : List ℕ} {f₀ : List Float} {u₀ : List ℕ} {i : ℕ} {list : List ℕ} {f : List Float} {u : List ℕ} {r : ℕ}
    (now : Searching F s least list₀ f₀ u₀ i list f u r) where
  pub search_turn : {list' : List ℕ} {f' : List Float} {u' : List ℕ} {r' : ℕ} → i < variables F → Visits F s least i u list r u' list' r'
      → length list' ≡ length list → length f' ≡ length f → length u' ≡ length u → Searching F s least list₀ f₀ u₀ (i + 1) list' f' u' r'
  unfolding anchors_to anchor_at
  search_turn {list'} {f'} {u'} {r'} l v ll fl ul =
      let m = (anchors_to F s least i).marks in
      let old = (anchors_to F s least i).anchors in
      let v-stored : list' ≡ sets list r (new_at F s least m i) = rw now.marks at v.stored in
      let v-counted : r' ≡ r + length (new_at F s least m i) = rw now.marks at v.counted in
      record {
        standing = record { placed = v.placed; start_long = now.standing.start_long; floats_room = omega (arith, now.standing.floats_room) };
        marks = rw (add-one i) (v.marks ∙ ap (λ (k : List ℕ). marks_at F k i) now.marks);
        stored = rw (add-one i) (v-stored ∙ rw (now.stored, now.counted, ← zero-add (length old)) (sets_then old (new_at F s least m i) list₀ 0));
        counted = rw (add-one i) (v-counted ∙ rw now.counted (sym (length-append old (new_at F s least m i))));
        few = omega (arith, now.few, v-counted, new_few F s least m i);
        within = omega arith;
        list_long = ll ∙ now.list_long;
        floats_long = fl ∙ now.floats_long;
        words_long = ul ∙ now.words_long;
      }

  pub search_done : variables F ≤ i → Lists F s least list₀ list r
  unfolding anchors_of
  search_done l =
      let e : i ≡ variables F = le_antisymm now.within l in
      record {
        stored = now.stored ∙ ap (λ (k : ℕ). sets list₀ 0 (anchors_to F s least k).anchors) e;
        counted = now.counted ∙ ap (λ (k : ℕ). length (anchors_to F s least k).anchors) e;
      }
