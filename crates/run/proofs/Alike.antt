-- Two runs that differ in the rows of fixed variables alone stay so: the rows of free variables are all that a run reads. Assumes nothing.
use Prim.Native.Nat.{ℕ, zero, suc, ◌<◌}
use mathlib.Core.Path.{◌≡◌, refl, sym, ap, ◌∙◌}
use mathlib.Core.Bool.{Bool, true, false, cond}
use mathlib.Core.List.{List, [], ◌∷◌, ◌++◌}
use native.Mathlib.Decide.{ℕ_discrete, dec_lt}
use native.Mathlib.Omega.{arith}
use borrow.Author.Tests.{eqb-true}
use lib.ListN.{length, get_or, set, length-set}
use lib.Seq.{get_or-set_same, get_or-set_other, set_out}
use lib.Dec.{ltb}
use lib.Ieee.{Float}
use Rattle.meaning.specs.Free as free
use Rattle.field.specs.Field.{Field, variables}
use Rattle.rows.specs.declared.Row.{Row}
use Rattle.rows.specs.declared.Verdict.{Verdict}
use Rattle.rows.specs.declared.Verdict.TheVariants.{Zero, One, Flat, Open}
use Rattle.rows.specs.Row.{judge_of}
use Rattle.rows.specs.Model.{coeff_of}
use Rattle.places.specs.Places.{other_end, places}
use Rattle.run.specs.Run.{Run, no_row, row_for, is_free, force, settle, judged, scan_at, scan_to, moved, move_row, serve_at, serve_all, serve, work, propagate}
use Rattle.run.proofs.Room.{free_after}

pub record Alike (run other : Run) : Type 0 where
  pub values : other.values ≡ run.values
  pub queue : other.queue ≡ run.queue
  pub rows_long : length other.rows ≡ length run.rows
  pub agree : (t : ℕ) → get_or run.values t 0 ≡ 2 → row_for other t ≡ row_for run t

-- a test that comes out the same leads both the same way
both : {run other run' other' : Run} (b c : Bool) → c ≡ b → (b ≡ true → Alike run other) → Alike run' other' → Alike (cond b run run') (cond c other other')
both true c e p q = rw e (p refl)
both false c e p q = rw e q

same_free : {run other : Run} → Alike run other → (t : ℕ) → is_free other t ≡ is_free run t
same_free a t = ap (λ (s : List ℕ). free.is_free s t) a.values

-- ---- a free variable is judged

alike_force : (run other : Run) (t v : ℕ) → get_or run.values t 0 ≡ 2 → v < 2 → Alike run other → Alike (force run t v) (force other t v)
unfolding force
alike_force run other t v free l a = record {
  values = ap (λ (s : List ℕ). set s t v) a.values;
  queue = ap (λ (q : List ℕ). q ++ (t ∷ [])) a.queue;
  rows_long = a.rows_long;
  agree = λ j f. a.agree j (free_after run.values t v free l j f).1;
}

alike_settle : (run other : Run) (t : ℕ) (r : Verdict) → get_or run.values t 0 ≡ 2 → Alike run other → Alike (settle run t r) (settle other t r)
unfolding settle
alike_settle run other t (Zero b) free a = alike_force run other t 0 free (omega arith) a
alike_settle run other t (One b) free a = alike_force run other t 1 free (omega arith) a
alike_settle run other t Flat free a = a
alike_settle run other t Open free a = a

alike_judged : (run other : Run) (t : ℕ) → get_or run.values t 0 ≡ 2 → Alike run other → Alike (judged run t) (judged other t)
unfolding judged
alike_judged run other t free a = rw (a.agree t free) (alike_settle run other t (judge_of (row_for run t)) free a)

alike_scan : (run other : Run) (i : ℕ) → Alike run other → Alike (scan_to run i) (scan_to other i)
unfolding scan_to scan_at
alike_scan run other zero a = a
alike_scan run other (suc i) a =
    let b = alike_scan run other i a in
    both (is_free (scan_to run i) i) (is_free (scan_to other i) i) (same_free b i) (λ e. alike_judged (scan_to run i) (scan_to other i) i (eqb-true _ _ e) b) b

-- ---- a row is moved

set_alike : (l m : List Row) (t : ℕ) (x y : Row) → length m ≡ length l → y ≡ x → (j : ℕ) → get_or m j no_row ≡ get_or l j no_row → get_or (set m t y) j no_row ≡ get_or (set l t x) j no_row
set_alike l m t x y long e j same = elim (ℕ_discrete j t) [
  | no n ↦ get_or-set_other m t j y no_row n ∙ same ∙ sym (get_or-set_other l t j x no_row n)
  | yes i ↦ elim (dec_lt t (length l)) [
    | yes h ↦ rw i (get_or-set_same m t y no_row (omega arith) ∙ e ∙ sym (get_or-set_same l t x no_row h))
    | no h ↦ rw (set_out m t y (omega arith), set_out l t x (omega arith)) same
  ]
]

alike_move : (run other : Run) (t : ℕ) (a : Float) (v : ℕ) → get_or run.values t 0 ≡ 2 → Alike run other → Alike (move_row run t a v) (move_row other t a v)
unfolding move_row
alike_move run other t c v free a = record {
  values = a.values;
  queue = a.queue;
  rows_long = length-set other.rows t _ ∙ a.rows_long ∙ sym (length-set run.rows t _);
  agree = λ j f. set_alike run.rows other.rows t _ _ a.rows_long (ap (λ (r : Row). moved r c v) (a.agree t free)) j (a.agree j f);
}

-- ---- the queue is served

module _ (F : Field) where
  alike_place : (i v : ℕ) (run other : Run) (k : ℕ) → Alike run other → Alike (serve_at F i v run k) (serve_at F i v other k)
  unfolding serve_at move_row
  alike_place i v run other k a =
      let t = other_end F.rows F.cols i k in
      both (is_free run t) (is_free other t) (same_free a t)
      (λ e. alike_judged (move_row run t (coeff_of F k) v) (move_row other t (coeff_of F k) v) t (eqb-true _ _ e) (alike_move run other t (coeff_of F k) v (eqb-true _ _ e) a))
      a

  alike_places : (i v : ℕ) (run other : Run) (ks : List ℕ) → Alike run other → Alike (serve_all F i v run ks) (serve_all F i v other ks)
  unfolding serve_all
  alike_places i v run other [] a = a
  alike_places i v run other (k ∷ ks) a = alike_places i v (serve_at F i v run k) (serve_at F i v other k) ks (alike_place i v run other k a)

  alike_serve : (run other : Run) (i j : ℕ) → j ≡ i → Alike run other → Alike (serve F run i) (serve F other j)
  unfolding serve
  alike_serve run other i j e a = rw e (go (get_or other.values i 0) (ap (λ (s : List ℕ). get_or s i 0) a.values))
    where
      go : (v : ℕ) → v ≡ get_or run.values i 0 → Alike (serve_all F i (get_or run.values i 0) run (places F.rows F.cols i)) (serve_all F i v other (places F.rows F.cols i))
      go v e = rw e (alike_places i (get_or run.values i 0) run other (places F.rows F.cols i) a)

  alike_work : (turns : ℕ) (run other : Run) (h : ℕ) → Alike run other → Alike (work F turns run h) (work F turns other h)
  unfolding work
  alike_work zero run other h a = a
  alike_work (suc turns) run other h a =
      both (ltb h (length run.queue)) (ltb h (length other.queue)) (ap (λ (q : List ℕ). ltb h (length q)) a.queue)
      (λ e. alike_work turns _ _ (suc h) (alike_serve run other (get_or run.queue h 0) (get_or other.queue h 0) (ap (λ (q : List ℕ). get_or q h 0) a.queue) a))
      a

  pub alike_propagate : (s : List ℕ) (rows rows' : List Row) → length rows' ≡ length rows → ((t : ℕ) → get_or s t 0 ≡ 2 → get_or rows' t no_row ≡ get_or rows t no_row)
      → Alike (propagate F s rows) (propagate F s rows')
  unfolding propagate
  alike_propagate s rows rows' long agree =
      alike_work (variables F) _ _ 0 (alike_scan _ _ (variables F) (record { values = refl; queue = refl; rows_long = long; agree = agree }))
