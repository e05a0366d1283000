-- The promise of each step and of each call leaves one result only. Assumes nothing.
use Prim.Native.Nat.{ℕ, suc, ◌+◌, ◌-◌, ◌<◌}
use mathlib.Core.Path.{◌≡◌, refl, sym, ap, ◌∙◌}
use mathlib.Core.Bool.{Bool}
use mathlib.Core.List.{List, ◌++◌}
use native.Mathlib.Decide.{dec_lt}
use native.Mathlib.Omega.{arith}
use lib.ListN.{length, get_or, take, drop, take-append-drop}
use lib.Seq.{drop-drop, ext_get_or}
use Rattle.scratch.specs.Region.{region}
use Rattle.scratch.proofs.Region.{length_region, region_at}
use Rattle.field.specs.Field.{Field, variables}
use Rattle.parts.specs.Walk.{Search, members_from}
use Rattle.parts.specs.Cells.{Cells, cells, base, stack_base, members_base, past, marks_in, stack_in, search_in, Placed, Does, Begun, Walked}
use Rattle.parts.proofs.Cells.{stack_long, stack_at}

-- a list from a on is a region there and what lies behind it
next_part : (a n : ℕ) (u : List ℕ) → drop a u ≡ region a n u ++ drop (a + n) u
unfolding region
next_part a n u = sym (take-append-drop n (drop a u)) ∙ ap (λ (l : List ℕ). take n (drop a u) ++ l) (drop-drop n a u)

-- lists are equal that have the same front, marks, stack and rest
four_parts : (F : Field) (u v : List ℕ) → take (base F) u ≡ take (base F) v → marks_in F u ≡ marks_in F v → region (stack_base F) (variables F) u ≡ region (stack_base F) (variables F) v
    → drop (members_base F) u ≡ drop (members_base F) v → u ≡ v
four_parts F u v front marks stack rest = split u ∙ rw (front, marks, stack, rest) (sym (split v))
  where
    split : (w : List ℕ) → w ≡ take (base F) w ++ (marks_in F w ++ (region (stack_base F) (variables F) w ++ drop (members_base F) w))
    split w =
        sym (take-append-drop (base F) w)
        ∙ ap (λ (l : List ℕ). take (base F) w ++ l)
        (next_part (base F) (variables F) w ∙ ap (λ (l : List ℕ). marks_in F w ++ l) (next_part (stack_base F) (variables F) w))

-- ---- the stack and the zeros above it

tops : (u v : List ℕ) (a top : ℕ) → stack_in u a top ≡ stack_in v a top → (h : ℕ) → h < top → get_or u (a + h) 0 ≡ get_or v (a + h) 0
tops u v a top e h l = sym (at u) ∙ ap (λ (s : List ℕ). get_or s (top - suc h) 0) e ∙ at v
  where
    at : (w : List ℕ) → get_or (stack_in w a top) (top - suc h) 0 ≡ get_or w (a + h) 0
    at w = let k : top - suc (top - suc h) ≡ h = omega arith in rw k at (stack_at w a top (top - suc h) (omega arith))

module _ {F : Field} {u v : List ℕ} {top : ℕ} (P : Placed F (cells u top)) (Q : Placed F (cells v top)) where
  same_stack : stack_in u (stack_base F) top ≡ stack_in v (stack_base F) top → region (stack_base F) (variables F) u ≡ region (stack_base F) (variables F) v
  same_stack e =
      let n = variables F in
      ext_get_or 0 (region (stack_base F) n u) (region (stack_base F) n v)
      (length_region (stack_base F) n u (omega (arith, P.words_room)) ∙ sym (length_region (stack_base F) n v (omega (arith, Q.words_room)))) (λ h l.
      let k : h < n = omega (arith, length_region (stack_base F) n u (omega (arith, P.words_room))) in
      region_at (stack_base F) n u h 0 k ∙ elim (dec_lt h top) [
        | yes below ↦ tops u v (stack_base F) top e h below
        | no above ↦ P.blank h (omega arith) k ∙ sym (Q.blank h (omega arith) k)
      ] ∙ sym (region_at (stack_base F) n v h 0 k))

-- ---- two results are equal

module _ {F : Field} {g : Search → Search} {s a b : Cells} (A : Does F g s a) (B : Does F g s b) where
  same_search : search_in F a ≡ search_in F b
  same_search = A.search ∙ sym B.search

  same_top : a.top ≡ b.top
  unfolding search_in
  same_top =
      sym (stack_long a.words (stack_base F) a.top) ∙ ap (λ (w : Search). length w.stack) same_search ∙ stack_long b.words (stack_base F) b.top

  -- of one step
  pub does_unique : a ≡ b
  unfolding search_in
  does_unique = both words same_top
    where
      words : a.words ≡ b.words
      words = four_parts F a.words b.words (A.kept.front ∙ sym B.kept.front) (ap (λ (w : Search). w.marks) same_search)
          (same_stack (rw same_top at A.kept.placed) B.kept.placed (rw same_top at (ap (λ (w : Search). w.stack) same_search)))
          (A.kept.rest ∙ sym B.kept.rest)

      both : {u v : List ℕ} {x y : ℕ} → u ≡ v → x ≡ y → cells u x ≡ cells v y
      both p q = rw (p, q)

-- of `walk`
pub walked_unique : {F : Field} {zeros : Bool} {start : ℕ} {u₀ u v : List ℕ} {r t : ℕ} → Walked F zeros start u₀ u r → Walked F zeros start u₀ v t → (u ≡ v) × (r ≡ t)
unfolding stack_in
walked_unique {F} {zeros} {start} {u₀} {u} {v} {r} {t} A B = (words, count)
  where
    long : {w : List ℕ} {x : ℕ} → Walked F zeros start u₀ w x → x ≡ length (members_from F zeros (marks_in F u₀) start)
    long {w} {x} W = sym (length_region (members_base F) x w (omega (arith, W.count, W.placed.words_room))) ∙ ap length W.members

    count : r ≡ t
    count = long A ∙ sym (long B)

    rest : drop (members_base F) u ≡ drop (members_base F) v
    rest =
        next_part (members_base F) r u
        ∙ rw (A.members ∙ sym B.members, A.rest, count, sym B.rest) (sym (next_part (members_base F) t v))

    words : u ≡ v
    words = four_parts F u v (A.front ∙ sym B.front) (A.marks ∙ sym B.marks) (same_stack A.placed B.placed refl) rest

-- of `begin`
pub begun_unique : {F : Field} {all : Bool} {s u₀ u v : List ℕ} → Begun F all s u₀ u → Begun F all s u₀ v → u ≡ v
begun_unique {F} {all} {s} {u₀} {u} {v} A B =
    part_by (base F) u v (A.front ∙ sym B.front) (
    next_part (base F) (variables F) u
    ∙ rw (A.marks ∙ sym B.marks) (ap (λ (l : List ℕ). marks_in F v ++ l) behind)
    ∙ sym (next_part (base F) (variables F) v))
  where
    part_by : (a : ℕ) (x y : List ℕ) → take a x ≡ take a y → drop a x ≡ drop a y → x ≡ y
    part_by a x y p q = sym (take-append-drop a x) ∙ rw (p, q) (take-append-drop a y)

    behind : drop (stack_base F) u ≡ drop (stack_base F) v
    behind =
        let e : stack_base F + (variables F + variables F) ≡ past F = omega arith in
        next_part (stack_base F) (variables F + variables F) u
        ∙ rw (A.zeros ∙ sym B.zeros, e, A.rest ∙ sym B.rest)
        (sym (rw e at (next_part (stack_base F) (variables F + variables F) v)))
