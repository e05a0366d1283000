-- A term moved in the cells is a term moved in the run; the turns of the loop over places. Assumes nothing.
use Prim.Native.Nat.{ℕ, ◌+◌, ◌<◌, ◌≤◌}
use mathlib.Core.Path.{◌≡◌, refl, sym, ap, ◌∙◌}
use mathlib.Core.Bool.{Bool, true, false, cond}
use mathlib.Core.List.{List}
use lib.Ieee.{Float}
use lib.ListN.{get_or}
use Rattle.field.specs.Field.{Field, variables, entries}
use Rattle.field.specs.declared.Grade.{Grade}
use Rattle.field.specs.declared.Grade.TheVariants.{Exact, Inexact}
use Rattle.field.specs.Grade.{is_exact_of, grade_of}
use Rattle.rows.specs.declared.Row.{Row}
use Rattle.rows.specs.Model.{coeff_of}
use Rattle.rows.specs.Stored.{row_on, put_row}
use Rattle.rows.proofs.Upto.{get_d_up_to}
use Rattle.places.specs.Places.{other_end, entry_in}
use Rattle.places.proofs.Shape.{other_end_below}
use Rattle.places.proofs.Walk.{Along, along_start, along_turn, along_front, along_end}
use Rattle.run.specs.Run.{Run, no_row, with_row, moved, move_row}
use Rattle.run.specs.Cells.{Cells, cells, run_in, Placed, Kept, Does}
use Rattle.run.proofs.Moves.{put_does}
use Rattle.run.proofs.Cells.{kept_same, kept_then, does_as}
use Rattle.probing.specs.Remembered.{move_at, move_all, moves, fresh, renewed}

-- ---- a place of the probed variable

module _ {F : Field} {s : Cells} (P : Placed F s) (i v : ℕ) {k t : ℕ} (hk : k < entries F) (et : t ≡ other_end F.rows F.cols i k) where
  is_moved : {a : Float} {r : Row} → a ≡ coeff_of F k → r ≡ moved (row_on s.floats (variables F) t) a v → with_row (run_in F s) t r ≡ move_at F i v (run_in F s) k
  unfolding move_at move_row run_in
  is_moved ea er = rw (← et, er, ea, get_d_up_to (row_on s.floats (variables F)) (variables F) t no_row (other_end_below P.shaped i hk et))

  pub move_does : {a : Float} {r : Row} {f' : List Float} → a ≡ coeff_of F k → r ≡ moved (row_on s.floats (variables F) t) a v → f' ≡ put_row s.floats (variables F) t r
      → Does F (λ run. move_at F i v run k) s (cells s.values f' s.words s.tail)
  move_does {r = r} ea er ef = rw ef (does_as (λ run. move_at F i v run k) (put_does P (other_end_below P.shaped i hk et) r) (is_moved ea er))

-- ---- the places of i: p is the place to come

pub record Moves (F : Field) (i v end p : ℕ) (s₀ s : Cells) : Type 0 where
  pub along : Along (move_all F i v) (variables F) F.rows F.cols s₀.words s.words i end p (run_in F s₀) (run_in F s)
  pub kept : Kept F s₀ s

pub moves_start : {F : Field} {s : Cells} {i v a b : ℕ} → Placed F s → i < variables F → a ≡ get_or s.words i 0 → b ≡ get_or s.words (i + 1) 0 → Moves F i v b a s s
moves_start {F} {s} {i} {v} P h ea eb = record { along = along_start (move_all F i v) (run_in F s) P.adjacent h ea eb; kept = kept_same P }

module _ {F : Field} {i v end p : ℕ} {s₀ s : Cells} (S : Moves F i v end p s₀ s) where
  pub moves_turn : {s' : Cells} {k : ℕ} → p < end → k ≡ entry_in (get_or s.words (variables F + 1 + p) 0) → Does F (λ run. move_at F i v run k) s s' → Moves F i v end (p + 1) s₀ s'
  unfolding move_all
  moves_turn l e D = record {
    along = along_front (along_turn S.along l e (λ ks. ap (λ (r : Run). move_all F i v r ks) (sym D.run))) D.kept.front D.kept.words_long;
    kept = kept_then S.kept D.kept;
  }

  pub moves_done : end ≤ p → Does F (λ run. moves F v run i) s₀ s
  unfolding moves move_all
  moves_done l = record { run = along_end S.along l; kept = S.kept }

-- ---- which way is taken

-- the grade says whether the field is exact
told_exact : (F : Field) {g : Grade} → g ≡ Exact → g ≡ grade_of F → is_exact_of F ≡ true
unfolding grade_of
told_exact F ex eg = go (is_exact_of F) (sym eg ∙ ex)
  where
    go : (x : Bool) → cond x Exact Inexact ≡ Exact → x ≡ true
    go true h = refl
    go false h = cc h

told_inexact : (F : Field) {g : Grade} → g ≡ Inexact → g ≡ grade_of F → is_exact_of F ≡ false
unfolding grade_of
told_inexact F ex eg = go (is_exact_of F) (sym eg ∙ ex)
  where
    go : (x : Bool) → cond x Exact Inexact ≡ Inexact → x ≡ false
    go true h = cc h
    go false h = refl

module _ {F : Field} {g : Grade} (graded : g ≡ grade_of F) where
  pub by_moves : g ≡ Exact → (i v : ℕ) {s s' : Cells} → Does F (λ run. moves F v run i) s s' → Does F (λ run. renewed F v run i) s s'
  unfolding renewed
  by_moves e i v D = does_as (λ run. renewed F v run i) D (rw (told_exact F e graded))

  pub by_fresh : g ≡ Inexact → (i v : ℕ) {s s' : Cells} → Does F (λ run. fresh F run i) s s' → Does F (λ run. renewed F v run i) s s'
  unfolding renewed
  by_fresh e i v D = does_as (λ run. renewed F v run i) D (rw (told_inexact F e graded))
