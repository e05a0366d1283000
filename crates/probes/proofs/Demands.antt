-- Demand 1 over any list of candidates: the laws from which FullCall and LimitedCall have theirs. Assumes nothing.
use Prim.Native.Nat.{ℕ, ◌*◌, ◌<◌, ◌≤◌}
use mathlib.Core.Path.{◌≡◌, refl, sym, ap, ◌∙◌}
use mathlib.Core.Logic.{◌≢◌, ◌↔◌, ◌⊎◌, inl, inr}
use mathlib.Core.Bool.{Bool, true, false, ◌&&◌}
use mathlib.Core.List.{List}
use native.Mathlib.Omega.{arith}
use borrow.Author.Tests.{ne_eqb, lt-leb, eqb-false, leb-false}
use lib.Dec.{eqb, leb}
use lib.ListN.{length, take, drop}
use lib.Seq.{take_at}
use lib.Ieee.{Float}
use Rattle.weights.specs.Worth.{zero64}
use Rattle.scratch.specs.Cleared.{cleared}
use Rattle.scratch.proofs.Means.{le_is, eq_is, both_is}
use Rattle.constraints.specs.Record.{room, records, filled}
use Rattle.constraints.proofs.Records.{filled_rest, records_filled}
use Rattle.field.specs.declared.Grade.{Grade}
use Rattle.field.specs.declared.Refusal.{Refusal}
use Rattle.field.specs.declared.Refusal.TheVariants.{Room}
use Rattle.field.specs.Field.{Field, variables}
use Rattle.field.specs.Table.{FirstToFail}
use Rattle.field.specs.Tests.{ready_tests, Ready}
use Rattle.field.specs.Grade.{grade_of}
use Rattle.field.proofs.Table.{group_is, last_is}
use Rattle.field.proofs.Means.{ready_passes}
use Rattle.probe.specs.Call.{cold}
use Rattle.calls.specs.Call.{table, no_stage}
use Rattle.calls.proofs.Answers.{same_refused, done_apart, same_counted}
use Rattle.calls.proofs.Call as any
use Rattle.calls.proofs.Usual as usual
use Rattle.calls.proofs.Usual.{this_stage, other_stage}
use Rattle.calls.proofs.Values.{never_room}
use Rattle.probes.specs.Call.{all_records, all_values, Left, left, fits, fits_by, candidates_table, result_by, candidates_call, candidates_by}
use Rattle.probes.specs.Says.{DoneSays}
use Rattle.field.specs.Answers.{counted_answer}
use Rattle.std.specs.Prelude.{Err}

module _ (F : Field) (s cands t k : List ℕ) (f : List Float) (u : List ℕ) where
  -- Theorem. Any two results that the promise permits are equal.
  pub one_result : (x y : Left) → x ≡ candidates_call F s cands t k f u → y ≡ candidates_call F s cands t k f u → x ≡ y
  one_result = any.one_result (candidates_call F s cands t k f u)

  -- ---- what 9 asks

  fit_is : (fits F s cands t k ≡ true) ↔ ((length t ≡ variables F) × (length (all_records F s cands) ≤ room k))
  unfolding fits_by
  fit_is = both_is _ _ (eq_is (length t) (variables F)) (le_is (length (all_records F s cands)) (room k))

  no_fit : fits F s cands t k ≡ false → (length t ≢ variables F) ⊎ (room k < length (all_records F s cands))
  unfolding fits_by
  no_fit e = go (eqb (length t) (variables F)) (leb (length (all_records F s cands)) (room k)) refl refl e
    where
      go : (a b : Bool) → eqb (length t) (variables F) ≡ a → leb (length (all_records F s cands)) (room k) ≡ b → a && b ≡ false
          → (length t ≢ variables F) ⊎ (room k < length (all_records F s cands))
      go false b p q z = inl (eqb-false _ _ p)
      go true false p q z = inr (leb-false _ _ q)
      go true true p q z = let y : ◌≡◌ {A = ℕ} 0 1 = cc in absurd (omega arith)

  fit_no : (length t ≢ variables F) ⊎ (room k < length (all_records F s cands)) → fits F s cands t k ≡ false
  unfolding fits_by
  fit_no (inl n) = rw (ne_eqb _ _ n) refl
  fit_no (inr m) = rw (lt-leb _ _ m) (last (eqb (length t) (variables F)))
    where
      last : (a : Bool) → a && false ≡ false
      last true = refl
      last false = refl

  -- ---- refusals

  -- Theorem. DEMAND 1. The call is refused with r exactly if the tests before r's own pass, and its own fails.
  pub refused_when : (r : Refusal) → ((candidates_call F s cands t k f u).answer ≡ Err r) ↔ FirstToFail (candidates_table F s cands t k (length f) (length u)) r
  unfolding candidates_by candidates_table table
  refused_when = usual.refused_when Err _ _ _ _ same_refused done_apart refl

  -- Theorem. A refusal from 1 to 8 changes nothing lent.
  pub refused_leaves : (r : Refusal) → r ≢ Room → (candidates_call F s cands t k f u).answer ≡ Err r → candidates_call F s cands t k f u ≡ left (Err r) t k f u
  unfolding candidates_by
  refused_leaves r n e = usual.refused_leaves Err _ _ _ _ same_refused done_apart r (other_stage n no_stage) e

  -- Theorem. 9 is given exactly if the tests before it pass, and the value list is not n long or the records, merged by pair, are more than the list has room for.
  pub room_when : ((candidates_call F s cands t k f u).answer ≡ Err Room)
      ↔ (Ready F s (length f) (length u) × ((length t ≢ variables F) ⊎ (room k < length (all_records F s cands))))
  unfolding candidates_by
  room_when =
      let w = usual.last_when Err _ _ Room _ _ same_refused done_apart (never_room F s (length f) (length u)) (fits F s cands t k) in
      let p = ready_passes F s (length f) (length u) in
      ((λ e. (p.0 (w.0 e).0, no_fit (w.0 e).1)), λ h. w.1 (p.1 h.0, fit_no h.1))

  -- Theorem. It leaves both answer lists and both scratches all zeros.
  pub room_leaves : (candidates_call F s cands t k f u).answer ≡ Err Room
      → candidates_call F s cands t k f u ≡ left (Err Room) (cleared 0 t) (cleared 0 k) (cleared zero64 f) (cleared 0 u)
  unfolding candidates_by
  room_leaves e = usual.later_leaves Err _ _ _ _ same_refused done_apart Room _ (never_room F s (length f) (length u)) (this_stage no_stage) e

  -- ---- done

  passed : ((candidates_call F s cands t k f u).answer ≡ (result_by cold F s cands k f u).answer)
      ↔ (Ready F s (length f) (length u) × ((length t ≡ variables F) × (length (all_records F s cands) ≤ room k)))
  unfolding candidates_by table
  passed =
      usual.done_when Err _ _ _ _ same_refused done_apart (group_is (ready_tests F s (length f) (length u)) _ (ready_passes F s (length f) (length u)) (last_is Room _ fit_is))

  ended : {g : Grade} {items : ℕ} → (candidates_call F s cands t k f u).answer ≡ counted_answer g items → candidates_call F s cands t k f u ≡ result_by cold F s cands k f u
  unfolding candidates_by
  ended e = usual.done_leaves Err _ _ _ _ same_refused done_apart (λ r z. done_apart r (sym e ∙ z))

  -- Theorem. The call is done exactly if every test passes, and then gives the grade and the number of records.
  pub done_when : (g : Grade) (items : ℕ) → ((candidates_call F s cands t k f u).answer ≡ counted_answer g items) ↔ DoneSays F s cands t k f u g items
  done_when g items = (
    λ e.
        let w : (result_by cold F s cands k f u).answer ≡ (candidates_call F s cands t k f u).answer = ap (λ (x : Left). x.answer) (sym (ended e)) in
        let q : (result_by cold F s cands k f u).answer ≡ counted_answer g items = w ∙ e in
        let p = passed.0 (sym w) in
        let z = same_counted q in
        let eg : g ≡ grade_of F = sym z.0 in
        let ei : items ≡ length (all_records F s cands) = sym z.1 in
        record { ready = p.0; values_long = p.1.0; enough = p.1.1; graded = eg; counted = ei },
    λ h. rw (h.graded, h.counted) (passed.1 (h.ready, (h.values_long, h.enough))),
  )

  module _ (g : Grade) (items : ℕ) (e : (candidates_call F s cands t k f u).answer ≡ counted_answer g items) where
    -- Theorem. Then the probe values are in the value list, the records at the front of their list, and both scratches are all zeros.
    pub done_leaves : candidates_call F s cands t k f u ≡ left (counted_answer g items) (all_values F s cands) (filled (all_records F s cands) k) (cleared zero64 f) (cleared 0 u)
    done_leaves =
        let d = (done_when g items).0 e in
        rw (d.graded, d.counted) (ended e)

    -- The first records of the list are those, no more and no fewer, and elements past the last of them are unchanged.
    pub list_holds : take items (records (candidates_call F s cands t k f u).lent.constraints) ≡ all_records F s cands
    list_holds =
        rw (ap (λ (x : Left). x.lent.constraints) done_leaves, ((done_when g items).0 e).counted, records_filled (all_records F s cands) k)
        (take_at (all_records F s cands) (records (drop (3 * length (all_records F s cands)) k)) (length (all_records F s cands)) refl)

    pub past_unchanged : drop (3 * items) (candidates_call F s cands t k f u).lent.constraints ≡ drop (3 * items) k
    past_unchanged = rw (ap (λ (x : Left). x.lent.constraints) done_leaves, ((done_when g items).0 e).counted) (filled_rest (all_records F s cands) k)
