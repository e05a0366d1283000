-- On an exact field the rows in which the probed variable's term is moved are worth what rows made afresh are worth, so the run is the closure's. Assumes nothing.
use Prim.Native.Nat.{ℕ, suc, ◌+◌, ◌<◌, ◌≤◌}
use mathlib.Core.Path.{◌≡◌, refl, sym, ap, ap₂, ◌∙◌}
use mathlib.Core.Logic.{◌≢◌, ◌⊎◌, inl, inr, ⊎_elim}
use mathlib.Core.Bool.{Bool, true, false, ◌||◌}
use mathlib.Core.List.{List, [], ◌∷◌}
use native.Mathlib.Decide.{ℕ_discrete}
use native.Mathlib.Nat.{add-zero, zero-add, le_refl}
use native.Mathlib.Omega.{arith}
use lib.ListN.{length, get_or, set, length-set}
use lib.Seq.{get_or-set_same, get_or-set_other}
use lib.Dec.{eqb}
use Rattle.whole.specs.Whole.{Whole, ◌⊕◌, ◌⊖◌, min0, max0, ◌≈◌}
use Rattle.meaning.specs.Gradient.{View, view, see, share, gradient}
use Rattle.meaning.proofs.Values.{inside}
use Rattle.meaning.proofs.Views.{caught_up, see_here, see_variable, see_entry, see_apart, see_joined}
use Rattle.field.specs.Field.{Field, variables, entries, row_end, column_end, Shaped, StartFor}
use Rattle.field.specs.Grade.{ExactIn}
use Rattle.field.specs.Reading.{whole_of}
use Rattle.rows.specs.Model.{coeff_of, row_of}
use Rattle.rows.specs.Counted.{RowWorth}
use Rattle.rows.specs.Stored.{up_to}
use Rattle.rows.proofs.Terms.{as_row, moved_worth}
use Rattle.rows.proofs.Counted.{coeff_worth, weight_under, low_under, high_under, row_worth}
use Rattle.rows.proofs.Upto.{length_up_to, get_d_up_to}
use Rattle.places.specs.Places.{keep, places_from, places, other_end}
use Rattle.run.specs.Run.{Run, no_row, row_for, moved, move_row, propagate, closure_run}
use Rattle.run.specs.Ended.{RowsWorth}
use Rattle.run.proofs.Room.{free_after}
use Rattle.run.proofs.Sight.{meets, Joins, Parts, joins_other, parts_other, neither}
use Rattle.run.proofs.Bridge.{start_rows_worth}
use Rattle.run.proofs.Theorems.{rows_of_worth}
use Rattle.probing.specs.Remembered.{move_at, move_all, moves, remembered}

module _ {u : ℕ} {F : Field} (shaped : Shaped F) (exact : ExactIn u F) {s : List ℕ} (start : StartFor (variables F) s) (i v : ℕ) (free : get_or s i 0 ≡ 2) (small : v < 2) where
  abbrev after : List ℕ
  after = set s i v

  -- before entry k: the entries below k see i at v, the others as free, and all else is seen as it is
  record Moving (k : ℕ) (run : Run) : Type 0 where
    seen : View
    values : run.values ≡ after
    rows_long : length run.rows ≡ variables F
    worth : (t : ℕ) → get_or after t 0 ≡ 2 → RowWorth u (row_for run t) (gradient min0 (whole_of u F) seen t) (gradient max0 (whole_of u F) seen t)
    ahead : (l : ℕ) → k ≤ l → seen l i ≡ 2
    sees : (l j : ℕ) → (j ≢ i) ⊎ (l < k) → seen l j ≡ get_or after j 0

  begin : Moving 0 (remembered F s after)
  unfolding remembered
  begin = record {
    seen = view s;
    values = refl;
    rows_long = length_up_to (row_of F s) (variables F);
    worth = λ t h.
        let l : t < variables F = omega (arith, inside s t (free_after s i v free small t h).1, start.long) in
        rw (get_d_up_to (row_of F s) (variables F) t no_row l) (row_worth exact shaped t l start);
    ahead = λ l h. free;
    sees = λ l j h. ⊎_elim (λ n. sym (get_or-set_other s i j v 0 n)) (λ z. absurd (omega arith)) h;
  }

  module _ {k : ℕ} {run : Run} (M : Moving k run) (l : k < entries F) where
    abbrev sight : View
    sight = see M.seen k i v

    ahead_next : (k' : ℕ) → suc k ≤ k' → sight k' i ≡ 2
    ahead_next k' h = see_entry M.seen k i v k' i (omega arith) ∙ M.ahead k' (omega arith)

    sees_next : (k' j : ℕ) → (j ≢ i) ⊎ (k' < suc k) → sight k' j ≡ get_or after j 0
    sees_next k' j h = go (ℕ_discrete j i) (ℕ_discrete k' k) h
      where
        go : Dec (j ≡ i) → Dec (k' ≡ k) → (j ≢ i) ⊎ (k' < suc k) → sight k' j ≡ get_or after j 0
        go (no n) d h = see_variable M.seen k i v k' j n ∙ M.sees k' j (inl n)
        go (yes e) (yes f) h = rw (e, f) (see_here M.seen k i v ∙ sym (get_or-set_same s i v 0 (inside s i free)))
        go (yes e) (no f) h = see_entry M.seen k i v k' j f ∙ M.sees k' j (inr (⊎_elim (λ n. absurd (n e)) (λ z. omega arith) h))

    worth_apart : (t : ℕ) → Parts (whole_of u F) k i t → get_or after t 0 ≡ 2 → RowWorth u (row_for run t) (gradient min0 (whole_of u F) sight t) (gradient max0 (whole_of u F) sight t)
    worth_apart t p h = as_row (M.worth t h) (omega (arith, same min0)) (omega (arith, same max0))
      where
        same : (f : Whole → Whole) → gradient f (whole_of u F) sight t ≈ gradient f (whole_of u F) M.seen t
        same f = see_apart (whole_of u F) M.seen k i v f t l p.0 p.1

    pass_by : meets F i k ≡ false → Moving (suc k) run
    pass_by m =
        let n = neither (row_end F k) (column_end F k) i m in
        record {
          seen = sight;
          values = M.values;
          rows_long = M.rows_long;
          worth = λ t h. worth_apart t ((λ e. n.1), (λ e. n.0)) h;
          ahead = ahead_next;
          sees = sees_next;
        }

    module _ (t : ℕ) (o : Joins (whole_of u F) k i t) where
      worth_moved : get_or after t 0 ≡ 2 → RowWorth u (moved (row_for run t) (coeff_of F k) v) (gradient min0 (whole_of u F) sight t) (gradient max0 (whole_of u F) sight t)
      worth_moved h =
          let below : t < variables F = omega (arith, inside s t (free_after s i v free small t h).1, start.long) in
          as_row
          (moved_worth (M.worth t h) (low_under exact shaped t below M.seen (entries F) (le_refl _)) (high_under exact shaped t below M.seen (entries F) (le_refl _))
          (coeff_worth exact k l) (weight_under exact k l) v small)
          (omega (arith, joined min0))
          (omega (arith, joined max0))
        where
          q : Whole
          q = (whole_of u F).weight k

          joined : (f : Whole → Whole) → gradient f (whole_of u F) sight t ≈ gradient f (whole_of u F) M.seen t ⊖ f q ⊕ share (f q) q v
          joined f = see_joined (whole_of u F) M.seen k i v f t l (exact.standard k l) o (M.ahead k (le_refl _))

      turn : Moving (suc k) (move_row run t (coeff_of F k) v)
      unfolding move_row
      turn = record {
        seen = sight;
        values = M.values;
        rows_long = length-set run.rows t (moved (row_for run t) (coeff_of F k) v) ∙ M.rows_long;
        worth = λ j h. elim (ℕ_discrete j t) [
          | yes e ↦ rw (e, get_or-set_same run.rows t (moved (row_for run t) (coeff_of F k) v) no_row (here j e h)) (worth_moved (rw e at h))
          | no n ↦ rw (get_or-set_other run.rows t j (moved (row_for run t) (coeff_of F k) v) no_row n) (worth_apart j (parts_other (whole_of u F) k i t j (exact.standard k l) o n) h)
        ];
        ahead = ahead_next;
        sees = sees_next;
      }
        where
          here : (j : ℕ) → j ≡ t → get_or after j 0 ≡ 2 → t < length run.rows
          here j e h = omega (arith, inside s j (free_after s i v free small j h).1, start.long, M.rows_long)

  at_place : {k : ℕ} {run : Run} → k < entries F → meets F i k ≡ true → Moving k run → Moving (suc k) (move_at F i v run k)
  unfolding move_at other_end
  at_place {k} l m M = turn M l (other_end F.rows F.cols i k) (joins_other (row_end F k) (column_end F k) i m)

  turns : (rs cs : List ℕ) (k : ℕ) (run : Run) → length rs ≡ length cs → k + length rs ≡ entries F
      → ((j : ℕ) → get_or rs j 0 ≡ row_end F (k + j)) → ((j : ℕ) → get_or cs j 0 ≡ column_end F (k + j))
      → Moving k run → Moving (entries F) (move_all F i v run (places_from rs cs i k))
  unfolding move_all places_from keep
  turns [] [] k run e f p q a = rw (← f, add-zero k) a
  turns [] (c ∷ cs) k run e f p q a = absurd (omega arith)
  turns (r ∷ rs) [] k run e f p q a = absurd (omega arith)
  turns (r ∷ rs) (c ∷ cs) k run e f p q a =
      go (eqb r i || eqb c i)
      (ap₂ (λ (y z : ℕ). eqb y i || eqb z i) (sym (p 0 ∙ ap (row_end F) (add-zero k))) (sym (q 0 ∙ ap (column_end F) (add-zero k))))
      (λ next b. turns rs cs (suc k) next (omega arith) (omega arith) (λ j. p (suc j) ∙ ap (row_end F) (omega arith)) (λ j. q (suc j) ∙ ap (column_end F) (omega arith)) b)
    where
      here : k < entries F
      here = omega arith

      go : (b : Bool) → meets F i k ≡ b → ((next : Run) → Moving (suc k) next → Moving (entries F) (move_all F i v next (places_from rs cs i (suc k))))
          → Moving (entries F) (move_all F i v run (keep b k (places_from rs cs i (suc k))))
      go true m rest = rest (move_at F i v run k) (at_place here m a)
      go false m rest = rest run (pass_by a here m)

  all_moved : Moving (entries F) (moves F v (remembered F s after) i)
  unfolding moves places
  all_moved =
      turns F.rows F.cols 0 (remembered F s after) (shaped.rows_long ∙ sym shaped.cols_long) (zero-add _ ∙ shaped.rows_long)
      (λ j. ap (row_end F) (sym (zero-add j))) (λ j. ap (column_end F) (sym (zero-add j))) begin

  -- Theorem. The moved rows are worth low and high at the values.
  pub moved_rows_worth : RowsWorth u F (set s i v) (moves F v (remembered F s (set s i v)) i).rows
  moved_rows_worth t h =
      let m = all_moved in
      let up = caught_up m.seen after (whole_of u F) (λ k j b. m.sees k j (inr b)) in
      as_row (m.worth t h) (up min0 t) (up max0 t)

  start_after : StartFor (variables F) after
  start_after = record {
    long = length-set s i v ∙ start.long;
    small = λ j. elim (ℕ_discrete j i) [
      | yes e ↦ rw e (omega (arith, get_or-set_same s i v 0 (inside s i free)))
      | no n ↦ omega (arith, get_or-set_other s i j v 0 n, start.small j)
    ];
  }

  -- Theorem. So the run from there has the values and the queue of the closure with the one value added.
  pub moved_agrees : let run = moves F v (remembered F s (set s i v)) i in
      ((propagate F run.values run.rows).values ≡ (closure_run F (set s i v)).values) × ((propagate F run.values run.rows).queue ≡ (closure_run F (set s i v)).queue)
  unfolding closure_run
  moved_agrees =
      let m = all_moved in
      rw m.values (rows_of_worth shaped exact start_after (up_to (row_of F after) (variables F)) (moves F v (remembered F s after) i).rows
      (omega (arith, length_up_to (row_of F after) (variables F))) (omega (arith, m.rows_long)) (start_rows_worth shaped exact start_after) moved_rows_worth)
