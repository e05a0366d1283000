-- What a run touches: values of the variables that it forces, and rows joined to them. Assumes nothing.
use Prim.Native.Nat.{ℕ, zero, suc, ◌<◌}
use mathlib.Core.Path.{◌≡◌, refl, sym, ◌∙◌}
use mathlib.Core.Logic.{◌⊎◌, inl, inr, ⊎_elim}
use mathlib.Core.Bool.{Bool, true, false, cond}
use mathlib.Core.List.{List, [], ◌∷◌, ◌++◌}
use native.Mathlib.Decide.{ℕ_discrete}
use native.Mathlib.Omega.{arith}
use borrow.Author.Tests.{eqb-true, ltb-true}
use lib.Dec.{ltb}
use lib.Ieee.{Float}
use lib.ListN.{length, get_or, set}
use lib.Seq.{get_or-set_other}
use Rattle.field.specs.Field.{Field, variables}
use Rattle.rows.specs.Model.{coeff_of, row_of}
use Rattle.places.specs.Places.{places, other_end, Touches}
use Rattle.places.proofs.Places.{places_touch}
use Rattle.run.specs.Run.{Run, no_row, row_for, is_free, force, judged, scan_to, move_row, serve_at, serve_all, serve, work, propagate}
use Rattle.run.proofs.Keeps.{ByForce, by_judged, by_scan}
use Rattle.scanning.specs.Merge.{In}
use Rattle.workspace.specs.Restored.{Reached}
use Rattle.scanning.proofs.Scanned.{in_more, in_last}

-- the variables with Y, and those of a queue
abbrev pub Fixed : (ℕ → Type 0) → List ℕ → ℕ → Type 0
Fixed Y queue x = Y x ⊎ In x queue

pub record TouchedRun (F : Field) (s : List ℕ) (Y : ℕ → Type 0) (run : Run) : Type 0 where
  pub values : (j : ℕ) → (get_or run.values j 0 ≡ get_or s j 0) ⊎ Fixed Y run.queue j
  pub rows : (t : ℕ) → t < variables F → (row_for run t ≡ row_of F s t) ⊎ Reached F (Fixed Y run.queue) t

module _ (F : Field) (s : List ℕ) (Y : ℕ → Type 0) where
  more : {x : ℕ} (queue rest : List ℕ) → Fixed Y queue x → Fixed Y (queue ++ rest) x
  more queue rest h = ⊎_elim inl (λ m. inr (in_more queue rest m)) h

  -- a forced variable is in the queue
  by_force : ByForce (TouchedRun F s Y)
  unfolding force
  by_force run t v free small T = record {
    values = λ j. at j (ℕ_discrete j t);
    rows = λ j h. ⊎_elim inl
        (λ r. inr (record { variable = r.variable; fixed = more run.queue (t ∷ []) r.fixed; joined = r.joined })) (T.rows j h);
  }
    where
      at : (j : ℕ) → Dec (j ≡ t) → (get_or (set run.values t v) j 0 ≡ get_or s j 0) ⊎ Fixed Y (run.queue ++ (t ∷ [])) j
      at j (yes e) = inr (inr (rw e (in_last t run.queue)))
      at j (no ne) = ⊎_elim (λ e. inl (get_or-set_other run.values t j v 0 ne ∙ e)) (λ h. inr (more run.queue (t ∷ []) h)) (T.values j)

  pub scan_touches : (run : Run) (i : ℕ) → TouchedRun F s Y run → TouchedRun F s Y (scan_to run i)
  scan_touches run i T = by_scan (TouchedRun F s Y) by_force run i T

  -- while x is served it stays in the queue
  abbrev Serves : ℕ → Run → Type 0
  Serves x run = TouchedRun F s Y run × In x run.queue

  serves_force : (x : ℕ) → ByForce (Serves x)
  unfolding force
  serves_force x run t v free small p = (by_force run t v free small p.0, in_more run.queue (t ∷ []) p.1)

  module _ (x v : ℕ) where
    moves : (run : Run) (k : ℕ) (a : Float) → k < length F.rows → Touches F.rows F.cols x k → Serves x run
        → Serves x (move_row run (other_end F.rows F.cols x k) a v)
    unfolding move_row
    moves run k a h touch p = (record { values = p.0.values; rows = λ j l. at j l (ℕ_discrete j (other_end F.rows F.cols x k)) }, p.1)
      where
        at : (j : ℕ) → j < variables F → Dec (j ≡ other_end F.rows F.cols x k)
            → (row_for (move_row run (other_end F.rows F.cols x k) a v) j ≡ row_of F s j) ⊎ Reached F (Fixed Y run.queue) j
        at j l (yes e) = inr (record { variable = x; fixed = inr p.1; joined = record { entry = k; within = h; touches = touch; other = sym e } })
        at j l (no ne) = ⊎_elim (λ e. inl (get_or-set_other run.rows (other_end F.rows F.cols x k) j _ no_row ne ∙ e)) inr (p.0.rows j l)

    one_place : (run : Run) (k : ℕ) → k < length F.rows → Touches F.rows F.cols x k → Serves x run → Serves x (serve_at F x v run k)
    unfolding serve_at move_row
    one_place run k h touch p = go (is_free run (other_end F.rows F.cols x k)) refl
      where
        go : (b : Bool) → is_free run (other_end F.rows F.cols x k) ≡ b
            → Serves x (cond b (judged (move_row run (other_end F.rows F.cols x k) (coeff_of F k) v) (other_end F.rows F.cols x k)) run)
        go true e = by_judged (Serves x) (serves_force x) (move_row run (other_end F.rows F.cols x k) (coeff_of F k) v) (other_end F.rows F.cols x k)
            (eqb-true _ _ e) (moves run k (coeff_of F k) h touch p)
        go false e = p

    all_places : (run : Run) (ks : List ℕ) → ((p : ℕ) → p < length ks → (get_or ks p 0 < length F.rows) × Touches F.rows F.cols x (get_or ks p 0))
        → Serves x run → Serves x (serve_all F x v run ks)
    unfolding serve_all
    all_places run [] each p = p
    all_places run (k ∷ ks) each p =
        let z = each 0 (omega arith) in
        all_places (serve_at F x v run k) ks (λ q h. each (suc q) (omega arith)) (one_place run k z.0 z.1 p)

  one_turn : (run : Run) (x : ℕ) → Serves x run → Serves x (serve F run x)
  unfolding serve
  one_turn run x p = all_places x (get_or run.values x 0) run (places F.rows F.cols x) (places_touch F.rows F.cols x) p

  work_touches : (turns : ℕ) (run : Run) (h : ℕ) → TouchedRun F s Y run → TouchedRun F s Y (work F turns run h)
  unfolding work
  work_touches zero run h T = T
  work_touches (suc turns) run h T = go (ltb h (length run.queue)) refl (λ U. work_touches turns (serve F run (get_or run.queue h 0)) (suc h) U)
    where
      go : (b : Bool) → ltb h (length run.queue) ≡ b
          → (TouchedRun F s Y (serve F run (get_or run.queue h 0)) → TouchedRun F s Y (work F turns (serve F run (get_or run.queue h 0)) (suc h)))
          → TouchedRun F s Y (cond b (work F turns (serve F run (get_or run.queue h 0)) (suc h)) run)
      go true e rest = rest (one_turn run (get_or run.queue h 0) (T, record { place = h; within = ltb-true _ _ e; holds = refl })).0
      go false e rest = T

  -- from the values and rows to the run from them
  pub propagate_touches : (run : Run) → run.queue ≡ [] → TouchedRun F s Y run → TouchedRun F s Y (propagate F run.values run.rows)
  unfolding propagate
  propagate_touches run e T =
      let began : TouchedRun F s Y (record { values = run.values; rows = run.rows; queue = [] })
      = record {
        values = λ j. rw e at (T.values j);
        rows = λ t h. rw e at (T.rows t h);
      } in
      work_touches (variables F) _ 0 (scan_touches _ (variables F) began)
