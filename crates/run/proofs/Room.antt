-- The room of a run over every field: a forced variable takes no more than it frees. Assumes nothing.
use Prim.Native.Nat.{ℕ, ◌<◌}
use mathlib.Core.Path.{◌≡◌, refl, sym, ap, ◌∙◌}
use mathlib.Core.Logic.{◌≢◌, ◌⊎◌, inl, inr, ⊎_elim}
use mathlib.Core.List.{List, [], ◌∷◌, ◌++◌}
use native.Mathlib.Decide.{ℕ_discrete}
use native.Mathlib.Omega.{arith}
use lib.ListN.{length, get_or, set, length-set, length-append, get_or-append}
use lib.Seq.{get_or-set_same, get_or-set_other, get_or-append_seam}
use Rattle.meaning.proofs.Values.{inside, after_set, extends_refl, extends_trans, extends_set}
use Rattle.meaning.proofs.Free.{frees_le, frees_set}
use Rattle.field.specs.Field.{Field, variables, StartFor}
use Rattle.rows.specs.declared.Row.{Row}
use Rattle.run.specs.Run.{Run, force, move_row, scan_to, propagate}
use Rattle.run.specs.Room.{Room}
use Rattle.run.proofs.Keeps.{ByForce, ByMove, by_scan, by_propagate}

-- ---- a free variable takes 0 or 1

-- what is free after was free before, and is not it
pub free_after : (s : List ℕ) (t v : ℕ) → get_or s t 0 ≡ 2 → v < 2 → (j : ℕ) → get_or (set s t v) j 0 ≡ 2 → (j ≢ t) × (get_or s j 0 ≡ 2)
free_after s t v free l j h = go (ℕ_discrete j t)
  where
    go : Dec (j ≡ t) → (j ≢ t) × (get_or s j 0 ≡ 2)
    go (yes e) = let z : v ≡ 2 = sym (get_or-set_same s t v 0 (inside s t free)) ∙ ap (λ (x : ℕ). get_or (set s t v) x 0) (sym e) ∙ h in absurd (omega arith)
    go (no d) = (d, sym (get_or-set_other s t j v 0 d) ∙ h)

-- what has a value is not it, and keeps the value
fixed_other : (s : List ℕ) (t : ℕ) → get_or s t 0 ≡ 2 → (j : ℕ) → get_or s j 0 < 2 → j ≢ t
fixed_other s t free j l e = let z = ap (λ (y : ℕ). get_or s y 0) e ∙ free in omega arith

pub fixed_after : (s : List ℕ) (t v : ℕ) → get_or s t 0 ≡ 2 → (j : ℕ) → get_or s j 0 < 2 → get_or (set s t v) j 0 ≡ get_or s j 0
fixed_after s t v free j l = get_or-set_other s t j v 0 (fixed_other s t free j l)

-- ---- the queue, one longer

-- a place of it is an old one, or the new one
abbrev OldOrNew : List ℕ → ℕ → ℕ → Type 0
OldOrNew q t p = ((p < length q) × (get_or (q ++ (t ∷ [])) p 0 ≡ get_or q p 0)) ⊎ ((p ≡ length q) × (get_or (q ++ (t ∷ [])) p 0 ≡ t))

pub old_or_new : (q : List ℕ) (t p : ℕ) → p < length (q ++ (t ∷ [])) → OldOrNew q t p
old_or_new q t p h = go (ℕ_discrete p (length q))
  where
    go : Dec (p ≡ length q) → OldOrNew q t p
    go (yes e) = inr (e, rw e (get_or-append_seam q t [] 0))
    go (no d) = let l : p < length q = omega (arith, length-append q (t ∷ [])) in inl (l, get_or-append q (t ∷ []) 0 p l)

-- ---- the room

module _ {n : ℕ} {s values queue : List ℕ} (r : Room n s values queue) (t v : ℕ) (free : get_or values t 0 ≡ 2) (l : v < 2) where
  pub room_after : Room n s (set values t v) (queue ++ (t ∷ []))
  room_after = record {
    extends = extends_trans r.extends (extends_set values t v free);
    valid = record {
      long = length-set values t v ∙ r.valid.long;
      small = λ j. ⊎_elim (λ z. omega (arith, z.1)) (λ e. omega (arith, r.valid.small j)) (after_set values t v (inside values t free) j);
    };
    variable = λ p h. ⊎_elim
        (λ o. rw o.1 (r.variable p o.0))
        (λ o. rw o.1 (omega (arith, inside values t free, r.valid.long)))
        (old_or_new queue t p h);
    fixed = λ p h. ⊎_elim
        (λ o. rw (o.1, fixed_after values t v free (get_or queue p 0) (r.fixed p o.0)) (r.fixed p o.0))
        (λ o. rw (o.1, get_or-set_same values t v 0 (inside values t free)) l)
        (old_or_new queue t p h);
    apart = λ p q a h e. ⊎_elim
        (λ o. r.apart p q a o.0 (sym (old p (omega (arith, o.0))) ∙ e ∙ o.1))
        (λ o. fixed_other values t free (get_or queue p 0) (r.fixed p (omega (arith, o.0))) (sym (old p (omega (arith, o.0))) ∙ e ∙ o.1))
        (old_or_new queue t q h);
    count = omega (arith, r.count, length-append queue (t ∷ []), frees_set values t v free l);
  }
    where
      old : (p : ℕ) → p < length queue → get_or (queue ++ (t ∷ [])) p 0 ≡ get_or queue p 0
      old p = get_or-append queue (t ∷ []) 0 p

-- ---- the run keeps it

-- the room of a run
abbrev pub RoomOf : ℕ → List ℕ → Run → Type 0
RoomOf n s run = Room n s run.values run.queue

module _ (n : ℕ) (s : List ℕ) where
  pub room_force : ByForce (RoomOf n s)
  unfolding force
  room_force run t v free l r = room_after r t v free l

  pub room_move : ByMove (RoomOf n s)
  unfolding move_row
  room_move run t a v r = r

pub room_start : {n : ℕ} {s : List ℕ} → StartFor n s → Room n s s []
room_start {s = s} start = record {
  extends = extends_refl s;
  valid = start;
  variable = λ p h. absurd (omega arith);
  fixed = λ p h. absurd (omega arith);
  apart = λ p q a h. absurd (omega arith);
  count = omega (arith, frees_le s, start.long);
}

module _ (F : Field) {s : List ℕ} (rows : List Row) (start : StartFor (variables F) s) where
  pub room_scan : (i : ℕ) → RoomOf (variables F) s (scan_to (record { values = s; rows = rows; queue = [] }) i)
  room_scan i = by_scan (RoomOf (variables F) s) (room_force (variables F) s) (record { values = s; rows = rows; queue = [] }) i (room_start start)

  pub room_propagate : RoomOf (variables F) s (propagate F s rows)
  room_propagate = by_propagate (RoomOf (variables F) s) (room_force (variables F) s) (room_move (variables F) s) F s rows (room_start start)

-- ---- there are as many rows after as before

abbrev RowsOf : ℕ → Run → Type 0
RowsOf l run = length run.rows ≡ l

rows_force : (l : ℕ) → ByForce (RowsOf l)
unfolding force
rows_force l run t v free small e = e

rows_move : (l : ℕ) → ByMove (RowsOf l)
unfolding move_row
rows_move l run t a v e = length-set run.rows t _ ∙ e

pub propagate_rows_long : (F : Field) (s : List ℕ) (rows : List Row) → length (propagate F s rows).rows ≡ length rows
propagate_rows_long F s rows = by_propagate (RowsOf (length rows)) (rows_force (length rows)) (rows_move (length rows)) F s rows refl
