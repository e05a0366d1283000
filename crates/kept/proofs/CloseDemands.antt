-- The demands for the closure from a record, over the promise of the call `close` alone. Assumes nothing.
use Prim.Native.Nat.{ℕ}
use mathlib.Core.Path.{◌≡◌, refl, sym, ap, ◌∙◌}
use mathlib.Core.Logic.{◌≢◌, ◌↔◌}
use mathlib.Core.List.{List}
use borrow.Author.Tests.{ne_eqb, eqb-false}
use lib.Dec.{eqb}
use lib.ListN.{length}
use lib.Ieee.{Float}
use Rattle.weights.specs.Worth.{zero64}
use Rattle.scratch.specs.Cleared.{cleared}
use Rattle.scratch.proofs.Means.{eq_is}
use Rattle.meaning.specs.Steps.{Extends, Agrees, Closure}
use Rattle.meaning.specs.Field.{Best}
use Rattle.meaning.specs.Gradient.{Forces, flats}
use Rattle.field.specs.declared.Grade.{Grade}
use Rattle.field.specs.declared.Refusal.{Refusal}
use Rattle.field.specs.declared.Refusal.TheVariants.{Room}
use Rattle.field.specs.Field.{Field, variables}
use Rattle.field.specs.Table.{FirstToFail}
use Rattle.field.specs.Grade.{grade_of, Serves}
use Rattle.field.specs.Reading.{whole_of}
use Rattle.field.proofs.Table.{group_is, last_is}
use Rattle.calls.specs.Call.{table, no_stage}
use Rattle.calls.proofs.Answers.{same_refused, done_apart, same_counted}
use Rattle.calls.proofs.Call as any
use Rattle.calls.proofs.Usual as usual
use Rattle.calls.proofs.Usual.{this_stage, other_stage}
use Rattle.run.specs.Run.{closure, flat_rows}
use Rattle.run.proofs.Theorems as run
use Rattle.run.proofs.FlatRows.{flat_rows_exact}
use Rattle.kept.specs.Kept.{made}
use Rattle.kept.specs.Calls.{lent_tests, Lendable, run_from, Closed, closed, close_call, close_table}
use Rattle.kept.proofs.Tests.{lent_passes, never_room}
use Rattle.kept.proofs.FromRows.{made_closes, made_closure}
use Rattle.field.specs.Answers.{counted_answer}
use Rattle.std.specs.Prelude.{Err}

module _ (F : Field) (s : List ℕ) (b : List Float) (l : List ℕ) (f : List Float) (u : List ℕ) where
  -- Theorem. Any two results that the promise permits are equal.
  pub one_result : (x y : Closed) → x ≡ close_call F s b l f u → y ≡ close_call F s b l f u → x ≡ y
  one_result = any.one_result (close_call F s b l f u)

  -- Theorem. The call is refused with r exactly if the tests before r's own pass, and its own fails: 1 to 6, then 8, then 9.
  pub refused_when : (r : Refusal) → ((close_call F s b l f u).answer ≡ Err r) ↔ FirstToFail (close_table F s (length b) l (length f) (length u)) r
  unfolding close_call table
  refused_when = usual.refused_when Err _ _ _ _ same_refused done_apart refl

  -- Theorem. A refusal from 1 to 8 changes nothing lent.
  pub refused_leaves : (r : Refusal) → r ≢ Room → (close_call F s b l f u).answer ≡ Err r → close_call F s b l f u ≡ closed (Err r) l f u
  unfolding close_call
  refused_leaves r x e = usual.refused_leaves Err _ _ _ _ same_refused done_apart r (other_stage x no_stage) e

  -- Theorem. 9 is given exactly if those tests pass and the list is not n long.
  pub room_when : ((close_call F s b l f u).answer ≡ Err Room) ↔ (Lendable F s (length b) (length f) (length u) × (length l ≢ variables F))
  unfolding close_call
  room_when =
      let w = usual.last_when Err _ _ Room _ _ same_refused done_apart (never_room F s (length b) (length f) (length u)) (eqb (length l) (variables F)) in
      let p = lent_passes F s (length b) (length f) (length u) in
      ((λ e. (p.0 (w.0 e).0, eqb-false _ _ (w.0 e).1)), λ h. w.1 (p.1 h.0, ne_eqb _ _ h.1))

  -- Theorem. On 9 the list and both scratches are all zeros.
  pub room_leaves : (close_call F s b l f u).answer ≡ Err Room → close_call F s b l f u ≡ closed (Err Room) (cleared 0 l) (cleared zero64 f) (cleared 0 u)
  unfolding close_call
  room_leaves e = usual.later_leaves Err _ _ _ _ same_refused done_apart Room _ (never_room F s (length b) (length f) (length u)) (this_stage no_stage) e

  -- Theorem. It is done exactly if the field, the record, both scratches and the list are as the table asks, and then gives the grade and the count.
  pub done_when : ((close_call F s b l f u).answer ≡ counted_answer (grade_of F) (flat_rows (run_from F s b))) ↔ (Lendable F s (length b) (length f) (length u) × (length l ≡ variables F))
  unfolding close_call table
  done_when =
      usual.done_when Err _ _ _ _ same_refused done_apart
      (group_is (lent_tests F s (length b) (length f) (length u)) _ (lent_passes F s (length b) (length f) (length u)) (last_is Room _ (eq_is (length l) (variables F))))

  module _ {g : Grade} {k : ℕ} (e : (close_call F s b l f u).answer ≡ counted_answer g k) where
    -- Theorem. Then what the run from the record's rows reaches is in the list, and both scratches are all zeros.
    pub done_leaves : close_call F s b l f u ≡ closed (counted_answer (grade_of F) (flat_rows (run_from F s b))) (run_from F s b).values (cleared zero64 f) (cleared 0 u)
    unfolding close_call
    done_leaves = usual.done_leaves Err _ _ _ _ same_refused done_apart (λ r z. done_apart r (sym e ∙ z))

    -- Theorem. It is done only where the field, the values, the record and both scratches are as the table asks.
    pub lendable : Lendable F s (length b) (length f) (length u)
    lendable = (done_when.0 (ap (λ (x : Closed). x.answer) done_leaves)).0

    list_is : (close_call F s b l f u).lent.values ≡ (run_from F s b).values
    list_is = ap (λ (x : Closed). x.lent.values) done_leaves

    count_is : k ≡ flat_rows (run_from F s b)
    count_is = (same_counted (sym e ∙ ap (λ (x : Closed). x.answer) done_leaves)).1

    -- ---- on an exact field, in every unit that serves, where the bounds are those of the values worked out afresh

    module _ {unit : ℕ} (serving : Serves unit F) (Made-so : b ≡ (made F s).bounds) where
      -- Theorem. The list is what the call `closure` leaves in the start values.
      pub list_closure : (close_call F s b l f u).lent.values ≡ closure F s
      list_closure = let r = lendable.ready.sound in
          list_is ∙ ap (λ (z : List Float). (run_from F s z).values) Made-so ∙ made_closure r.shaped serving.exact r.start

      -- Theorem. DEMAND 2. It is the gradient closure of the values over whole numbers, no more and no fewer.
      pub values_close : Closure (Forces (whole_of unit F)) s (close_call F s b l f u).lent.values
      values_close = let r = lendable.ready.sound in rw list_closure (run.closure_is_closure r.shaped serving.exact r.start)

      -- Theorem. The count is the number of free variables with low = high = 0 there.
      pub flat_exact : k ≡ flats (whole_of unit F) (close_call F s b l f u).lent.values
      flat_exact = let r = lendable.ready.sound in
          count_is ∙ rw (list_is, Made-so) (flat_rows_exact (made_closes r.shaped serving.exact r.start))

      -- Theorem. DEMAND 3. Every best completion of the values obeys every one of the list.
      pub best_obeys : {x : List ℕ} → Best (whole_of unit F) s x → Extends (close_call F s b l f u).lent.values x
      best_obeys best = let r = lendable.ready.sound in rw list_closure (run.closure_obeyed r.shaped serving.exact r.start best)

-- Theorem. Further values that contradict none of the list keep each of it.
pub further_keep : {unit : ℕ} (F : Field) (s s' : List ℕ) (b b' : List Float) (l l' : List ℕ) (f f' : List Float) (u u' : List ℕ) {g g' : Grade} {k k' : ℕ} → Serves unit F
    → (close_call F s b l f u).answer ≡ counted_answer g k → b ≡ (made F s).bounds → (close_call F s' b' l' f' u').answer ≡ counted_answer g' k' → b' ≡ (made F s').bounds
    → Extends s s' → Agrees s' (close_call F s b l f u).lent.values → Extends (close_call F s b l f u).lent.values (close_call F s' b' l' f' u').lent.values
further_keep F s s' b b' l l' f f' u u' serving e m e' m' =
    let x = (lendable F s b l f u e).ready.sound in
    let y = (lendable F s' b' l' f' u' e').ready.sound in
    rw (list_closure F s b l f u e serving m, list_closure F s' b' l' f' u' e' serving m') (run.closure_keeps x.shaped serving.exact x.start y.start)
