-- What a list of variables holds: each once, free at the start, and no more of them without a value than are free. Assumes nothing.
use Prim.Native.Nat.{ℕ, zero, suc, ◌+◌, ◌<◌, ◌≤◌}
use mathlib.Core.Path.{◌≡◌, refl, sym, ◌∙◌}
use mathlib.Core.Logic.{◌≢◌, ⊎_elim}
use mathlib.Core.Bool.{Bool, true, false, cond}
use mathlib.Core.List.{List}
use native.Mathlib.Omega.{arith}
use borrow.Author.Tests.{ltb-false}
use lib.Dec.{ltb}
use lib.ListN.{length, get_or, set}
use lib.Seq.{get_or-set_other}
use Rattle.meaning.specs.Free.{frees}
use Rattle.meaning.specs.Steps.{Extends}
use Rattle.meaning.proofs.Free.{frees_set}
use Rattle.meaning.proofs.Values.{extends_refl, extends_trans, extends_set}
use Rattle.field.specs.Field.{Field, variables, StartFor}
use Rattle.rows.specs.Model.{row_of}
use Rattle.rows.specs.Stored.{up_to}
use Rattle.run.specs.Run.{Run, force, move_row, closure_run, closure}
use Rattle.run.specs.Room.{Room}
use Rattle.run.proofs.Room.{old_or_new, room_propagate}
use Rattle.run.proofs.Keeps.{ByForce, ByMove, by_propagate}
use Rattle.finding.specs.Emit.{chosen_to}

-- ---- how many are chosen

pub chosen_most : (t : List ℕ) (least : ℕ) (u : List ℕ) (from k : ℕ) → chosen_to t least u from k ≤ k
unfolding chosen_to
chosen_most t least u from zero = omega arith
chosen_most t least u from (suc k) = one (ltb (get_or t (get_or u (from + k) 0) 0) least) (chosen_most t least u from k)
  where
    one : (b : Bool) → chosen_to t least u from k ≤ k → chosen_to t least u from k + cond b 0 1 ≤ suc k
    one true h = omega arith
    one false h = omega arith

module _ (t u : List ℕ) (from : ℕ) where
  -- the values, where the variables chosen of the first k are no longer free
  marked_to : ℕ → List ℕ
  marked_to zero = t
  marked_to (suc k) = cond (ltb (get_or t (get_or u (from + k) 0) 0) 2) (marked_to k) (set (marked_to k) (get_or u (from + k) 0) 0)

  marked_other : (k j : ℕ) → ((p : ℕ) → p < k → get_or u (from + p) 0 ≢ j) → get_or (marked_to k) j 0 ≡ get_or t j 0
  unfolding marked_to
  marked_other zero j apart = refl
  marked_other (suc k) j apart = by (ltb (get_or t (get_or u (from + k) 0) 0) 2) (marked_other k j (λ p h. apart p (omega arith)))
    where
      by : (b : Bool) → get_or (marked_to k) j 0 ≡ get_or t j 0 → get_or (cond b (marked_to k) (set (marked_to k) (get_or u (from + k) 0) 0)) j 0 ≡ get_or t j 0
      by true e = e
      by false e = get_or-set_other (marked_to k) (get_or u (from + k) 0) j 0 0 (λ z. apart k (omega arith) (sym z)) ∙ e

  chosen_marked : (count : ℕ) → ((j : ℕ) → get_or t j 0 ≤ 2) → ((p q : ℕ) → p < q → q < count → get_or u (from + p) 0 ≢ get_or u (from + q) 0)
      → (k : ℕ) → k ≤ count → chosen_to t 2 u from k + frees (marked_to k) ≤ frees t
  unfolding chosen_to marked_to
  chosen_marked count small apart zero h = omega arith
  chosen_marked count small apart (suc k) h = by (ltb (get_or t (get_or u (from + k) 0) 0) 2) refl (chosen_marked count small apart k (omega arith))
    where
      by : (b : Bool) → ltb (get_or t (get_or u (from + k) 0) 0) 2 ≡ b → chosen_to t 2 u from k + frees (marked_to k) ≤ frees t
          → chosen_to t 2 u from k + cond b 0 1 + frees (cond b (marked_to k) (set (marked_to k) (get_or u (from + k) 0) 0)) ≤ frees t
      by true e l = omega arith
      by false e l =
          let j = get_or u (from + k) 0 in
          let two : get_or t j 0 ≡ 2 = omega (arith, ltb-false (get_or t j 0) 2 e, small j) in
          omega (arith, l, frees_set (marked_to k) j 0 (marked_other k j (λ p q. apart p k q (omega arith)) ∙ two) (omega arith))

  pub chosen_frees : (count : ℕ) → ((j : ℕ) → get_or t j 0 ≤ 2) → ((p q : ℕ) → p < q → q < count → get_or u (from + p) 0 ≢ get_or u (from + q) 0)
      → chosen_to t 2 u from count ≤ frees t
  chosen_frees count small apart = omega (arith, chosen_marked count small apart count (omega arith))

-- ---- the queue of a closure

module _ (F : Field) {s : List ℕ} (start : StartFor (variables F) s) where
  pub closure_room : Room (variables F) s (closure F s) (closure_run F s).queue
  unfolding closure closure_run
  closure_room = room_propagate F (up_to (row_of F s) (variables F)) start

  record Freed (run : Run) : Type 0 where
    extends : Extends s run.values
    freed : (p : ℕ) → p < length run.queue → get_or s (get_or run.queue p 0) 0 ≡ 2

  freed_force : ByForce Freed
  unfolding force
  freed_force run t v free small r = record {
    extends = extends_trans r.extends (extends_set run.values t v free);
    freed = λ p h. ⊎_elim
        (λ o. rw o.1 (r.freed p o.0))
        (λ o. rw o.1 (⊎_elim (λ z. z) (λ z. sym z ∙ free) (r.extends.kept t)))
        (old_or_new run.queue t p h);
  }

  freed_move : ByMove Freed
  unfolding move_row
  freed_move run t a v r = record { extends = r.extends; freed = r.freed }

  -- what a closure forces was free at the start
  pub closure_freed : (p : ℕ) → p < length (closure_run F s).queue → get_or s (get_or (closure_run F s).queue p 0) 0 ≡ 2
  unfolding closure_run
  closure_freed = (by_propagate Freed freed_force freed_move F s (up_to (row_of F s) (variables F)) record { extends = extends_refl s; freed = λ p h. absurd (omega arith) }).freed
