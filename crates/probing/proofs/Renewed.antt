-- What renewing the neighbours' rows leaves, moved or made afresh, and the theorem that a probe is the closure with the one value added. Assumes nothing.
use Prim.Native.Nat.{ℕ, suc, ◌<◌}
use mathlib.Core.Path.{◌≡◌, refl, sym, ◌∙◌}
use mathlib.Core.Bool.{Bool, true, false, cond}
use mathlib.Core.List.{List, [], ◌∷◌}
use native.Mathlib.Omega.{arith}
use lib.ListN.{get_or, set, length-set}
use lib.Seq.{get_or-set_other}
use Rattle.field.specs.Field.{Field, variables, Shaped, StartFor}
use Rattle.field.specs.declared.Grade.TheVariants.{Exact}
use Rattle.field.specs.Grade.{is_exact_of, grade_of}
use Rattle.field.proofs.Exact.{exact_means}
use Rattle.places.specs.Places.{places, other_end}
use Rattle.run.specs.Run.{Run, no_row, row_for, move_row, propagate, closure_run, closure}
use Rattle.probing.specs.Remembered.{move_at, move_all, moves, fresh, renewed, remembered, probe_run}
use Rattle.probing.proofs.Afresh.{None, Same, all_same, none_kept, fresh_agrees}
use Rattle.probing.proofs.Moved.{moved_agrees}

-- ---- what is left where no place leads

module _ (F : Field) (i v : ℕ) where
  moved_same : (run : Run) (ks : List ℕ) → Same F i run (move_all F i v run ks)
  unfolding move_all move_at move_row
  moved_same run [] = record { values = refl; queue = refl; rows_long = refl }
  moved_same run (k ∷ ks) =
      let a = moved_same (move_at F i v run k) ks in
      record { values = a.values; queue = a.queue; rows_long = a.rows_long ∙ length-set run.rows _ _ }

  moved_none : (run : Run) (ks : List ℕ) (t : ℕ) → None F i t ks → row_for (move_all F i v run ks) t ≡ row_for run t
  unfolding move_all move_at move_row
  moved_none run [] t none = refl
  moved_none run (k ∷ ks) t none =
      moved_none (move_at F i v run k) ks t (λ x h. none (suc x) (omega arith))
      ∙ get_or-set_other run.rows (other_end F.rows F.cols i k) t _ no_row (λ z. none 0 (omega arith) (sym z))

  pub renewed_same : (run : Run) → Same F i run (renewed F v run i)
  unfolding renewed moves fresh
  renewed_same run = go (is_exact_of F)
    where
      go : (b : Bool) → Same F i run (cond b (moves F v run i) (fresh F run i))
      go true = moved_same run (places F.rows F.cols i)
      go false = all_same F i run (places F.rows F.cols i)

  pub renewed_none : (run : Run) (t : ℕ) → None F i t (places F.rows F.cols i) → row_for (renewed F v run i) t ≡ row_for run t
  unfolding renewed moves fresh
  renewed_none run t none = go (is_exact_of F)
    where
      go : (b : Bool) → row_for (cond b (moves F v run i) (fresh F run i)) t ≡ row_for run t
      go true = moved_none run (places F.rows F.cols i) t none
      go false = none_kept F i run (places F.rows F.cols i) t none

-- ---- the probe is the closure with the one value added

told_exact : (F : Field) → is_exact_of F ≡ true → grade_of F ≡ Exact
unfolding grade_of
told_exact F e = rw e

module _ {F : Field} (S : Shaped F) {s : List ℕ} (start : StartFor (variables F) s) (i v : ℕ) (free : get_or s i 0 ≡ 2) (small : v < 2) where
  probe_agrees : ((probe_run F s i v).values ≡ (closure_run F (set s i v)).values) × ((probe_run F s i v).queue ≡ (closure_run F (set s i v)).queue)
  unfolding probe_run renewed
  probe_agrees = go (is_exact_of F) refl
    where
      go : (b : Bool) → is_exact_of F ≡ b → let run = cond b (moves F v (remembered F s (set s i v)) i) (fresh F (remembered F s (set s i v)) i) in
          ((propagate F run.values run.rows).values ≡ (closure_run F (set s i v)).values) × ((propagate F run.values run.rows).queue ≡ (closure_run F (set s i v)).queue)
      go true e = moved_agrees S ((exact_means F S.rows_long).0 (told_exact F e)).exact start i v free small
      go false e = fresh_agrees S start i v free small

  -- Theorem. On every field, exact or not, a probe with remembered rows gives the closure of the start values with the one value added.
  pub probe_is_closure : (probe_run F s i v).values ≡ closure F (set s i v)
  unfolding closure
  probe_is_closure = probe_agrees.0

  -- Theorem. It forces the same variables in the same order.
  pub probe_queue : (probe_run F s i v).queue ≡ (closure_run F (set s i v)).queue
  probe_queue = probe_agrees.1
