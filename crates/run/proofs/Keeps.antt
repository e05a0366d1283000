-- Whatever a forced variable and a moved row keep, the run keeps. Assumes nothing.
use Prim.Native.Nat.{ℕ, zero, suc, ◌<◌, ◌≤◌}
use mathlib.Core.Path.{◌≡◌, refl}
use mathlib.Core.Bool.{Bool, true, false, cond, true≢false}
use mathlib.Core.List.{List, [], ◌∷◌}
use native.Mathlib.Omega.{arith}
use borrow.Author.Tests.{eqb-true, le-ltb}
use lib.ListN.{length, get_or}
use lib.Dec.{ltb}
use lib.Ieee.{Float}
use Rattle.field.specs.Field.{Field, variables}
use Rattle.rows.specs.declared.Row.{Row}
use Rattle.rows.specs.declared.Verdict.{Verdict}
use Rattle.rows.specs.declared.Verdict.TheVariants.{Zero, One, Flat, Open}
use Rattle.rows.specs.Row.{judge_of, is_forced}
use Rattle.rows.specs.Model.{coeff_of}
use Rattle.places.specs.Places.{other_end, places}
use Rattle.run.specs.Run.{Run, row_for, is_free, force, settle, judged, scan_at, scan_to, move_row, serve_at, serve_all, serve, work, propagate}

-- a verdict that forces nothing is passed over
pub unforced_stays : (run : Run) (t : ℕ) (v : Verdict) → is_forced v ≡ false → settle run t v ≡ run
unfolding settle
unforced_stays run t (Zero b) e = absurd (true≢false e)
unforced_stays run t (One b) e = absurd (true≢false e)
unforced_stays run t Flat e = refl
unforced_stays run t Open e = refl

-- P is kept where a free variable takes 0 or 1
abbrev pub ByForce : (Run → Type 0) → Type 0
ByForce P = (run : Run) (t v : ℕ) → get_or run.values t 0 ≡ 2 → v < 2 → P run → P (force run t v)

-- P is kept where a row is moved
abbrev pub ByMove : (Run → Type 0) → Type 0
ByMove P = (run : Run) (t : ℕ) (a : Float) (v : ℕ) → P run → P (move_row run t a v)

module _ (P : Run → Type 0) (by_force : ByForce P) where
  by_settle : (run : Run) (t : ℕ) (r : Verdict) → get_or run.values t 0 ≡ 2 → P run → P (settle run t r)
  unfolding settle
  by_settle run t (Zero b) free p = by_force run t 0 free (omega arith) p
  by_settle run t (One b) free p = by_force run t 1 free (omega arith) p
  by_settle run t Flat free p = p
  by_settle run t Open free p = p

  pub by_judged : (run : Run) (t : ℕ) → get_or run.values t 0 ≡ 2 → P run → P (judged run t)
  unfolding judged
  by_judged run t free p = by_settle run t (judge_of (row_for run t)) free p

  pub by_scan : (run : Run) (i : ℕ) → P run → P (scan_to run i)
  unfolding scan_to scan_at
  by_scan run zero p = p
  by_scan run (suc i) p = go (is_free (scan_to run i) i) refl (by_scan run i p)
    where
      go : (b : Bool) → is_free (scan_to run i) i ≡ b → P (scan_to run i) → P (cond b (judged (scan_to run i) i) (scan_to run i))
      go true e q = by_judged (scan_to run i) i (eqb-true _ _ e) q
      go false e q = q

  module _ (by_move : ByMove P) (F : Field) where
    pub by_place : (i v : ℕ) (run : Run) (k : ℕ) → P run → P (serve_at F i v run k)
    unfolding serve_at move_row
    by_place i v run k p = go (is_free run t) refl
      where
        t : ℕ
        t = other_end F.rows F.cols i k

        go : (b : Bool) → is_free run t ≡ b → P (cond b (judged (move_row run t (coeff_of F k) v) t) run)
        go true e = by_judged (move_row run t (coeff_of F k) v) t (eqb-true _ _ e) (by_move run t (coeff_of F k) v p)
        go false e = p

    pub by_places : (i v : ℕ) (run : Run) (ks : List ℕ) → P run → P (serve_all F i v run ks)
    unfolding serve_all
    by_places i v run [] p = p
    by_places i v run (k ∷ ks) p = by_places i v (serve_at F i v run k) ks (by_place i v run k p)

    pub by_serve : (run : Run) (i : ℕ) → P run → P (serve F run i)
    unfolding serve
    by_serve run i p = by_places i (get_or run.values i 0) run (places F.rows F.cols i) p

    pub by_work : (turns : ℕ) (run : Run) (h : ℕ) → P run → P (work F turns run h)
    unfolding work
    by_work zero run h p = p
    by_work (suc turns) run h p = go (ltb h (length run.queue)) (by_work turns (serve F run (get_or run.queue h 0)) (suc h) (by_serve run (get_or run.queue h 0) p))
      where
        go : (b : Bool) → P (work F turns (serve F run (get_or run.queue h 0)) (suc h)) → P (cond b (work F turns (serve F run (get_or run.queue h 0)) (suc h)) run)
        go true q = q
        go false q = p

    pub by_propagate : (s : List ℕ) (rows : List Row) → P (record { values = s; rows = rows; queue = [] }) → P (propagate F s rows)
    unfolding propagate
    by_propagate s rows p = by_work (variables F) _ 0 (by_scan _ (variables F) p)

-- where the queue has been served, further turns change nothing
pub work_stays : (F : Field) (turns : ℕ) (run : Run) (h : ℕ) → length run.queue ≤ h → work F turns run h ≡ run
unfolding work
work_stays F zero run h l = refl
work_stays F (suc turns) run h l = rw (le-ltb h (length run.queue) l) refl
