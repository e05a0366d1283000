-- One start after another: the code's steps on lent memory are steps on stages. Assumes nothing.
use Prim.Native.Nat.{ℕ, ◌+◌, ◌<◌, ◌≤◌}
use mathlib.Core.Path.{◌≡◌, refl, ap, ap₂, ◌∙◌}
use mathlib.Core.Bool.{true}
use mathlib.Core.List.{List}
use native.Mathlib.Numerals.{add-one}
use native.Mathlib.Omega.{arith}
use borrow.Author.Tests.{eq-eqb, ne_eqb, le-leb, lt-leb}
use lib.ListN.{length, get_or}
use Rattle.scratch.specs.Region.{region}
use Rattle.field.specs.Field.{Field, variables}
use Rattle.parts.specs.Walk.{members_from}
use Rattle.parts.specs.Cells.{base, members_base, marks_in, Walked}
use Rattle.parts.proofs.Calls.{mark_read, count_is, member_variable}
use Rattle.enumeration.specs.Held.{Held, Small}
use Rattle.enumeration.specs.Terms.{solved}
use Rattle.enumeration.proofs.Putting.{put_long}
use Rattle.components.specs.Small.{solved_part}
use Rattle.components.specs.Stages.{Stage, stage, stage_at, stage_to, Standing, Staged}

pub solved_long : (F : Field) (s members : List ℕ) → length (solved F s members) ≡ length s
unfolding solved
solved_long F s members = put_long s members _ (length members)

module _ {F : Field} {s u : List ℕ} (S : Standing F s u) {start : ℕ} (h : start < variables F) where
  -- a start that is not open
  pub stage_shut : (get_or u (base F + start) 0 ≡ 2 → ⊥) → Staged F (λ g. stage_at F g start) s u s u
  unfolding stage_at
  stage_shut ne = record { standing = S; words_long = refl; goes = rw (ne_eqb (get_or (marks_in F u) start 0) 2 (rw (mark_read F u h) ne)) }

  module _ (opens : get_or u (base F + start) 0 ≡ 2) {u' : List ℕ} {r : ℕ} (W : Walked F true start u u' r) where
    room : members_base F + r ≤ length u'
    room = omega (arith, W.placed.words_room, W.count)

    -- what the enumeration asks
    pub walk_held : Held F s u'
    walk_held = record { placed = record { shaped = W.placed.shaped; adjacent = W.placed.adjacent }; values_long = S.values_long }

    pub walk_small : r ≤ 10 → Small (variables F) u' (members_base F) r
    walk_small few = record { few = few; room = room; below = member_variable W }

    walked : {s' : List ℕ} → length s' ≡ length s → s' ≡ solved_part F s (members_from F true (marks_in F u) start) → Staged F (λ g. stage_at F g start) s u s' u'
    unfolding stage_at
    walked long e = record {
      standing = record { placed = W.placed; values_long = long ∙ S.values_long };
      words_long = W.long;
      goes = rw (eq-eqb (get_or (marks_in F u) start 0) 2 (mark_read F u h ∙ opens)) (ap₂ stage W.marks e);
    }

    -- more than 10 members
    pub stage_large : 10 < r → Staged F (λ g. stage_at F g start) s u s u'
    unfolding solved_part
    stage_large many = walked refl (rw (lt-leb (length (members_from F true (marks_in F u) start)) 10 (omega (arith, count_is W))) refl)

    -- at most 10
    pub stage_small : {s' : List ℕ} → r ≤ 10 → s' ≡ solved F s (region (members_base F) r u') → Staged F (λ g. stage_at F g start) s u s' u'
    unfolding solved_part
    stage_small few e =
        walked (ap length e ∙ solved_long F s (region (members_base F) r u'))
        (rw (le-leb (length (members_from F true (marks_in F u) start)) 10 (omega (arith, count_is W))) (e ∙ ap (solved F s) W.members))

-- ---- the loop

pub record Staging (F : Field) (s₀ u₀ s u : List ℕ) (i : ℕ) : Type 0 where
  pub within : i ≤ variables F
  pub staged : Staged F (λ g. stage_to F g i) s₀ u₀ s u

pub staging_start : {F : Field} {s u : List ℕ} → Standing F s u → Staging F s u s u 0
unfolding stage_to
staging_start S = record { within = omega arith; staged = record { standing = S; words_long = refl; goes = refl } }

module _ {F : Field} {s₀ u₀ s u : List ℕ} {i : ℕ} (L : Staging F s₀ u₀ s u i) where
  pub staging_turn : {s' u' : List ℕ} → i < variables F → Staged F (λ g. stage_at F g i) s u s' u' → Staging F s₀ u₀ s' u' (i + 1)
  unfolding stage_to
  staging_turn h D = record {
    within = omega arith;
    staged = record {
      standing = D.standing;
      words_long = D.words_long ∙ L.staged.words_long;
      goes = rw (add-one i) (D.goes ∙ ap (λ (g : Stage). stage_at F g i) L.staged.goes);
    };
  }

  pub staging_done : variables F ≤ i → Staged F (λ g. stage_to F g (variables F)) s₀ u₀ s u
  staging_done h = let e : i ≡ variables F = omega (arith, L.within) in rw e at L.staged
