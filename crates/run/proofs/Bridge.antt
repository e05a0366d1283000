-- THE BRIDGE: on an exact field the floats reach the closure of the field in whole numbers. Assumes nothing.
-- The idea. While a variable is served, the values run ahead of the rows: a value counts in a row only once its term there has been moved.
-- So the proof follows a view, what each entry has seen of the values so far: a variable is free for an entry until its term has been moved there.
-- Throughout the run three things hold. The row of each free variable is worth low and high at the view, in whole numbers, since no sum rounds.
-- What is seen forces no free variable, but for those still to be judged. And a variable that has a value is seen by every entry, or is
-- being served, or waits in the queue and is seen by none. Each step keeps all three (Invariant, Sight and Serve).
-- Bounds at a view that lags are never tighter than those at the values, so each value that is forced is one that the rule forces.
-- At the end nothing waits: every entry sees the values themselves, and no free variable is forced there. So the values are the closure.
use Prim.Native.Nat.{ℕ, zero, suc, ◌+◌, ◌≤◌, ◌<◌}
use mathlib.Core.Path.{◌≡◌, refl, sym, ap, ◌∙◌}
use mathlib.Core.Logic.{◌≢◌, inl, inr, ⊎_elim}
use mathlib.Core.Bool.{Bool, true, false, cond}
use mathlib.Core.List.{List, []}
use native.Mathlib.Decide.{ℕ_discrete}
use native.Mathlib.Omega.{arith}
use borrow.Author.Tests.{eqb-true, eqb-false, ltb-true, ltb-false}
use lib.ListN.{length, get_or}
use lib.Dec.{ltb}
use Rattle.whole.specs.Whole.{Whole, min0, max0, ◌≈◌}
use Rattle.meaning.specs.Steps.{stop}
use Rattle.meaning.specs.Gradient.{View, view, gradient}
use Rattle.meaning.proofs.Values.{inside}
use Rattle.meaning.proofs.Views.{caught_up}
use Rattle.field.specs.Field.{Field, variables, entries, Shaped, StartFor}
use Rattle.field.specs.Grade.{ExactIn}
use Rattle.field.specs.Reading.{whole_of}
use Rattle.rows.specs.declared.Row.{Row}
use Rattle.rows.specs.Model.{row_of}
use Rattle.rows.specs.Stored.{up_to}
use Rattle.rows.proofs.Terms.{as_row}
use Rattle.rows.proofs.Counted.{row_worth}
use Rattle.rows.proofs.Upto.{get_d_up_to}
use Rattle.run.specs.Run.{Run, no_row, is_free, judged, scan_at, scan_to, serve, work, propagate}
use Rattle.run.specs.Ended.{RowsWorth, Ended}
use Rattle.run.proofs.Room.{room_start}
use Rattle.run.proofs.Rests.{grounded_start}
use Rattle.run.proofs.Invariant.{Holds, still_same, judged_holds}
use Rattle.run.proofs.Serve.{Rest, serve_rest}

-- the rows at the start values are such that the run may start from them
pub start_rows_worth : {u : ℕ} {F : Field} → Shaped F → ExactIn u F → {s : List ℕ} → StartFor (variables F) s → RowsWorth u F s (up_to (row_of F s) (variables F))
start_rows_worth {F = F} shaped exact {s} start t free =
    let l : t < variables F = omega (arith, inside s t free, start.long) in
    rw (get_d_up_to (row_of F s) (variables F) t no_row l) (row_worth exact shaped t l start)

-- ---- the scan

-- a variable that is not free is passed over
pub scan_past : {u : ℕ} {F : Field} {s : List ℕ} {run : Run} {w : View} {h last : ℕ} (i : ℕ) → Holds u F s run w i h last (entries F) → is_free run i ≡ false
    → Holds u F s run w (suc i) h last (entries F)
scan_past {run = run} i a e = record {
  room = a.room;
  counted = a.counted;
  quiet = λ t b f. a.quiet t (omega (arith, other t f)) f;
  queued = a.queued;
  grounded = a.grounded;
}
  where
    other : (t : ℕ) → get_or run.values t 0 ≡ 2 → t ≢ i
    other t f n = eqb-false _ _ e (ap (λ (y : ℕ). get_or run.values y 0) (sym n) ∙ f)

module _ {u : ℕ} {F : Field} {s : List ℕ} (start : StartFor (variables F) s) (rows : List Row) (long : variables F ≤ length rows) (worth : RowsWorth u F s rows) where
  pub unscanned_holds : Holds u F s (record { values = s; rows = rows; queue = [] }) (view s) 0 0 0 (entries F)
  unscanned_holds = record {
    room = room_start start;
    counted = record { reached = stop; rows_long = long; lag = λ k j. inr refl; worth = worth };
    quiet = λ t b. absurd (omega arith);
    queued = record {
      cursor = omega arith;
      waiting = λ p a b. absurd (omega arith);
      ahead = λ k a b. absurd (omega arith);
      caught = λ j f. inl (λ k a b. refl);
    };
    grounded = grounded_start s;
  }

  unscanned : Rest u F s 0 0 (record { values = s; rows = rows; queue = [] })
  unscanned = record { seen = view s; last = 0; holds = unscanned_holds }

  pub scanned : (i : ℕ) → Rest u F s i 0 (scan_to (record { values = s; rows = rows; queue = [] }) i)
  unfolding scan_to scan_at
  scanned zero = unscanned
  scanned (suc i) = go (scanned i) (is_free run i) refl
    where
      run : Run
      run = scan_to (record { values = s; rows = rows; queue = [] }) i

      go : Rest u F s i 0 run → (b : Bool) → is_free run i ≡ b → Rest u F s (suc i) 0 (cond b (judged run i) run)
      go a true e = record {
        seen = a.seen;
        last = a.last;
        holds = judged_holds i a.holds.room a.holds.counted (λ t b n. a.holds.quiet t (omega arith)) a.holds.queued a.holds.grounded (eqb-true _ _ e);
      }
      go a false e = record { seen = a.seen; last = a.last; holds = scan_past i a.holds e }

-- ---- the queue

module _ {u : ℕ} {F : Field} (shaped : Shaped F) (exact : ExactIn u F) {s : List ℕ} where
  -- nothing waits: every entry sees the values, and nothing is forced
  done : (run : Run) (h : ℕ) → length run.queue ≤ h → Rest u F s (variables F) h run → Ended u F s run
  done run h l a = record {
    closed = record {
      reached = a.holds.counted.reached;
      closed = λ i v free. still_same (omega (arith, up min0 i)) (omega (arith, up max0 i)) (a.holds.quiet i (omega (arith, inside run.values i free, a.holds.room.valid.long)) free) v;
    };
    worth = λ t free. as_row (a.holds.counted.worth t free) (up min0 t) (up max0 t);
  }
    where
      sees : (k j : ℕ) → k < entries F → a.seen k j ≡ get_or run.values j 0
      sees k j b = elim (ℕ_discrete (get_or run.values j 0) 2) [
        | yes e ↦ ⊎_elim (λ y. y ∙ sym e) (λ y. y) (a.holds.counted.lag k j)
        | no e ↦ ⊎_elim (λ y. y k b (λ z. b)) (λ y. absurd (omega (arith, y.1, y.2))) (a.holds.queued.caught j e)
      ]

      up : (free : Whole → Whole) (t : ℕ) → gradient free (whole_of u F) a.seen t ≈ gradient free (whole_of u F) (view run.values) t
      up = caught_up a.seen run.values (whole_of u F) sees

  -- what is served and what may still be served are n at most, so n turns are enough
  worked : (turns : ℕ) (run : Run) (h : ℕ) → variables F ≤ h + turns → Rest u F s (variables F) h run → Ended u F s (work F turns run h)
  unfolding work
  worked zero run h l a = done run h (omega (arith, a.holds.room.count)) a
  worked (suc turns) run h l a = go (ltb h (length run.queue)) refl (λ b. worked turns next (suc h) (omega arith) (serve_rest shaped exact h run b a))
    where
      next : Run
      next = serve F run (get_or run.queue h 0)

      go : (b : Bool) → ltb h (length run.queue) ≡ b → (h < length run.queue → Ended u F s (work F turns next (suc h))) → Ended u F s (cond b (work F turns next (suc h)) run)
      go true e rest = rest (ltb-true _ _ e)
      go false e rest = done run h (ltb-false _ _ e) a

  pub propagate_ends : StartFor (variables F) s → (rows : List Row) → variables F ≤ length rows → RowsWorth u F s rows → Ended u F s (propagate F s rows)
  unfolding propagate
  propagate_ends start rows long worth = worked (variables F) _ 0 (omega arith) (scanned start rows long worth (variables F))
