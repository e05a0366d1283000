-- The promise of each step leaves one result only. Assumes nothing.
use Prim.Native.Nat.{ℕ, ◌+◌, ◌<◌}
use mathlib.Core.Path.{◌≡◌, refl, sym, ap, ◌∙◌}
use mathlib.Core.List.{List, ◌++◌}
use lib.Ieee.{Float}
use lib.ListN.{length, get_or, take, drop, take-append-drop}
use lib.Seq.{drop-drop}
use Rattle.scratch.specs.Region.{region}
use Rattle.field.specs.Field.{Field, variables}
use Rattle.rows.specs.Stored.{row_on, Written}
use Rattle.rows.proofs.Upto.{get_d_up_to}
use Rattle.rows.proofs.Stored.{written_unique}
use Rattle.run.specs.Run.{Run, no_row}
use Rattle.run.specs.Cells.{Cells, cells, base, run_in, Does}
use Rattle.run.proofs.Cells.{queue_long}

-- a list is its front, a region behind it, and the rest
three_parts : (m t : ℕ) (u : List ℕ) → u ≡ take m u ++ (region m t u ++ drop (m + t) u)
unfolding region
three_parts m t u =
    sym (take-append-drop m u)
    ∙ ap (λ (z : List ℕ). take m u ++ z) (sym (take-append-drop t (drop m u)))
    ∙ ap (λ (z : List ℕ). take m u ++ (take t (drop m u) ++ z)) (drop-drop t m u)

module _ {F : Field} {g : Run → Run} {s a b : Cells} (A : Does F g s a) (B : Does F g s b) where
  pub same_run : run_in F a ≡ run_in F b
  same_run = A.run ∙ sym B.run

  pub same_values : a.values ≡ b.values
  unfolding run_in
  same_values = ap (λ (r : Run). r.values) same_run

  same_tail : a.tail ≡ b.tail
  same_tail = sym (queue_long A.kept.placed) ∙ ap (λ (r : Run). length r.queue) same_run ∙ queue_long B.kept.placed

  same_row : (i : ℕ) → i < variables F → row_on a.floats (variables F) i ≡ row_on b.floats (variables F) i
  unfolding run_in
  same_row i l =
      sym (get_d_up_to (row_on a.floats (variables F)) (variables F) i no_row l)
      ∙ ap (λ (r : Run). get_or r.rows i no_row) same_run
      ∙ get_d_up_to (row_on b.floats (variables F)) (variables F) i no_row l

  same_floats : a.floats ≡ b.floats
  same_floats = written_unique left right
    where
      left : Written (variables F) (row_on b.floats (variables F)) s.floats a.floats (variables F)
      left = record { long = A.kept.floats_long; rows = same_row; rest = A.kept.floats_rest }

      right : Written (variables F) (row_on b.floats (variables F)) s.floats b.floats (variables F)
      right = record { long = B.kept.floats_long; rows = λ i l. refl; rest = B.kept.floats_rest }

  same_words : a.words ≡ b.words
  unfolding run_in
  same_words =
      let front : take (base F) a.words ≡ take (base F) b.words = A.kept.front ∙ sym B.kept.front in
      let queue : region (base F) a.tail a.words ≡ region (base F) b.tail b.words = ap (λ (r : Run). r.queue) same_run in
      let rest : drop (base F + a.tail) a.words ≡ drop (base F + b.tail) b.words
      = A.kept.words_rest ∙ ap (λ (t : ℕ). drop (base F + t) s.words) same_tail ∙ sym B.kept.words_rest in
      three_parts (base F) a.tail a.words ∙ rw (front, queue, rest) (sym (three_parts (base F) b.tail b.words))

  -- Theorem. Two results of one step are equal.
  pub does_unique : a ≡ b
  does_unique = all same_values same_floats same_words same_tail
    where
      all : {vs vs' : List ℕ} {f f' : List Float} {u u' : List ℕ} {t t' : ℕ} → vs ≡ vs' → f ≡ f' → u ≡ u' → t ≡ t' → cells vs f u t ≡ cells vs' f' u' t'
      all p q r e = rw (p, q, r, e)
