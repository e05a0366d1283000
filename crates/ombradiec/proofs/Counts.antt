-- Every count that a call answers has room in its number; a refusal's count is its position. Assumes nothing.
use Prim.Native.Nat.{ℕ, zero, suc, ◌≤◌, ◌<◌}
use mathlib.Core.Bool.{Bool, true, false, cond}
use mathlib.Core.List.{List, [], ◌∷◌}
use native.Mathlib.Omega.{arith}
use lib.ListN.{length, length-append, length-take}
use lib.Ieee.{Float}
use Rattle.field.specs.Field.{Field, variables, entries}
use Rattle.field.specs.Tests.{loose_tests, open_tests, ready_tests}
use Rattle.field.proofs.Means.{loose_passes, admitted_passes, ready_passes}
use Rattle.field.proofs.Faults.{loose_near, open_near, ready_near}
use Rattle.calls.specs.Values.{values_by}
use Rattle.calls.proofs.Usual.{answer_has}
use Rattle.closure.specs.Call as closing
use Rattle.closure.proofs.Demands.{count_few}
use Rattle.no_effect.specs.Putting.{chosen_from}
use Rattle.no_effect.specs.Effect.{has_no_effect, no_effect}
use Rattle.no_effect.specs.Call as effectless
use Rattle.no_effect.proofs.Laws.{word_passes}
use Rattle.shift.specs.Closing.{kept_at, closed, closed_to}
use Rattle.shift.specs.Call as shifting
use Rattle.shift.proofs.Picked.{picked_few}
use Rattle.sub_problem.specs.Reduced.{stays_at}
use Rattle.sub_problem.specs.Call as reducing
use Rattle.sub_problem.proofs.Numbering.{back_few}
use Rattle.mending.proofs.Marks.{places_few}
use Rattle.mending.proofs.Accepted.{mended_long}
use Rattle.mend.specs.Call as mending
use Rattle.mend.proofs.Laws.{mend_passes, changes_few}
use Rattle.anchors.specs.Model.{new_at, anchor_at, anchors_to, anchors_of}
use Rattle.anchors.specs.Call as anchoring
use Rattle.anchors.proofs.Searching.{new_few}
use Rattle.pairs.specs.Listing.{examined, free_pairs, allowed, found}
use Rattle.pairs.specs.Call as pairing
use Rattle.pairs.proofs.ListLaws.{few_found}
use Rattle.reason.specs.Call as reasoning
use Rattle.reason.proofs.Laws.{list_few, unit_few}
use Rattle.packing.specs.Layout.{count_of}
use Rattle.ombradiec.specs.Reading.{Few, FewListed, FewLeft, FewMended}
use Rattle.ombradiec.proofs.Positions.{word_near, mend_near}
use Rattle.std.specs.Prelude.{Err}

-- ---- closure: at most n

module _ (F : Field) (s : List ℕ) (f : List Float) (u : List ℕ) where
  -- Theorem. The count of flat rows, at most n, has room in the number of `closure`.
  pub closure_fits : count_of (closing.closure_call F s f u).answer < 0x1000_0000
  unfolding values_by
  closure_fits =
      answer_has Err _ (ready_tests F s (length f) (length u)) [] _ (λ a. count_of a < 0x1000_0000) (λ r e. omega (arith, ready_near F s (length f) (length u) r e)) tt (λ e.
      let ready = ((ready_passes F s (length f) (length u)).0 e).sound in
      omega (arith, ready.shaped.few_variables, count_few F ready.start))

-- ---- no_effect: at most n

chosen_few : (p : ℕ → Bool) (i k : ℕ) → length (chosen_from p i k) ≤ k
unfolding chosen_from
chosen_few p i zero = omega arith
chosen_few p i (suc k) = go (p i) (chosen_few p (suc i) k)
  where
    go : (b : Bool) → length (chosen_from p (suc i) k) ≤ k → length (cond b (i ∷ chosen_from p (suc i) k) (chosen_from p (suc i) k)) ≤ suc k
    go true h = omega (arith, h)
    go false h = omega (arith, h)

-- Theorem. The count of variables of no effect, at most n, has room in the number.
pub no_effect_fits : (F : Field) (l u : List ℕ) → count_of (effectless.no_effect_call F l u).answer < 0x1000_0000
unfolding effectless.no_effect_call no_effect
no_effect_fits F l u =
    answer_has Err _ (effectless.word_tests F (length u)) _ _ (λ a. count_of a < 0x1000_0000) (λ r e. omega (arith, word_near F (length u) r e)) (omega arith, tt) (λ e.
    omega (arith, ((word_passes F (length u)).0 e).loose.shaped.few_variables, chosen_few (has_no_effect F) 0 (variables F)))

-- ---- shift: at most m

-- Theorem. The new m has room in the number of `shift`.
pub shift_fits : (F : Field) → count_of (shifting.shift_call F).answer < 0x1000_0000
unfolding shifting.shift_call closed closed_to
shift_fits F =
    answer_has Err F (loose_tests F) [] _ (λ a. count_of a < 0x1000_0000) (λ r e. omega (arith, loose_near F r e)) tt (λ e. omega (arith, picked_few (kept_at F) (entries F), ((loose_passes F).0 e).shaped.few_entries))

-- ---- sub_problem: at most m entries and n variables

module _ (F : Field) (s l : List ℕ) (f : List Float) (u : List ℕ) where
  -- Theorem. The new m and the new n have room in the number of `sub_problem`.
  pub sub_problem_fits : FewLeft (reducing.sub_problem_call F s l f u).answer
  unfolding reducing.sub_problem_call reducing.finished
  sub_problem_fits =
      answer_has Err _ (open_tests F s (length f) (length u)) _ _ FewLeft
      (λ r e. record { count = omega (arith, open_near F s (length f) (length u) r e); more = omega arith }) (record { count = omega arith; more = omega arith }, tt) (λ e.
      let admitted = (admitted_passes F s (length f) (length u)).0 e in
      record {
        count = omega (arith, picked_few (stays_at F s) (entries F), admitted.shaped.few_entries);
        more = omega (arith, back_few s, admitted.start.long, admitted.shaped.few_variables);
      })

-- ---- mend: at most m entries and m changes

module _ (F : Field) (report : List ℕ) (f : List Float) (u : List ℕ) where
  -- Theorem. The new m and the changes, both at most m, have room in the number of `mend`.
  pub mend_fits : FewMended (mending.mend_call F report f u).answer
  unfolding mending.mend_call
  mend_fits =
      answer_has Err _ (mending.mend_tests F (length f) (length u)) _ _ FewMended
      (λ r e. record { count = omega (arith, mend_near F (length f) (length u) r e); more = omega arith }) (record { count = omega arith; more = omega arith }, tt) (λ e.
      let M = (mend_passes F (length f) (length u)).0 e in
      record {
        count = omega (arith, mended_long F, places_few F, M.listed.few_entries);
        more = omega (arith, changes_few F, M.listed.few_entries);
      })

-- ---- anchors: at most one from each start

anchors_within : (F : Field) (s : List ℕ) (least i : ℕ) → length (anchors_to F s least i).anchors ≤ i
unfolding anchors_to anchor_at
anchors_within F s least zero = omega arith
anchors_within F s least (suc i) =
    let p = anchors_to F s least i in
    omega (arith, anchors_within F s least i, length-append p.anchors (new_at F s least p.marks i), new_few F s least p.marks i)

module _ (F : Field) (s : List ℕ) (least : ℕ) (list : List ℕ) (f : List Float) (u : List ℕ) where
  -- Theorem. The count of anchors, at most one from each start, has room in the number.
  pub anchors_fit : count_of (anchoring.anchors_call F s least list f u).answer < 0x1000_0000
  unfolding anchoring.anchors_call anchors_of
  anchors_fit =
      answer_has Err _ (open_tests F s (length f) (length u)) _ _ (λ a. count_of a < 0x1000_0000) (λ r e. omega (arith, open_near F s (length f) (length u) r e)) (omega arith, tt) (λ e.
      omega (arith, ((admitted_passes F s (length f) (length u)).0 e).shaped.few_variables, anchors_within F s least (variables F)))

-- ---- pairs: at most 250,000, and one record of each

examined_few : (limit : ℕ) (s : List ℕ) → length (examined limit s) ≤ 250000
examined_few limit s = omega (arith, length-take (allowed limit) (free_pairs s))

found_few : (F : Field) (s : List ℕ) (limit : ℕ) → length (found F s limit) ≤ 250000
unfolding found
found_few F s limit = omega (arith, few_found F s (examined limit s), examined_few limit s)

module _ (F : Field) (s : List ℕ) (limit : ℕ) (l : List ℕ) (f : List Float) (u : List ℕ) where
  -- Theorem. Records and pairs examined, at most 250,000 of each, have room in the number of `pairs`.
  pub pairs_fit : Few (pairing.pairs_call F s limit l f u).answer
  unfolding pairing.pairs_call
  pairs_fit =
      answer_has Err _ (ready_tests F s (length f) (length u)) _ _ Few
      (λ r e. record { count = omega (arith, ready_near F s (length f) (length u) r e); more = omega arith }) (record { count = omega arith; more = omega arith }, tt) (λ e.
      record { count = omega (arith, found_few F s limit); more = omega (arith, examined_few limit s) })

-- ---- reason: at most n, and a unit of the 41

module _ (F : Field) (s : List ℕ) (i : ℕ) (l : List ℕ) (f : List Float) (u : List ℕ) where
  -- Theorem. The neighbours listed, at most n, and the unit have room in the number of `reason`.
  pub reason_fits : FewListed (reasoning.reason_call F s i l f u).answer
  unfolding reasoning.reason_call
  reason_fits =
      answer_has Err _ (ready_tests F s (length f) (length u)) _ _ FewListed
      (λ r e. record { count = omega (arith, ready_near F s (length f) (length u) r e); unit = omega arith })
      (record { count = omega arith; unit = omega arith }, (record { count = omega arith; unit = omega arith }, (record { count = omega arith; unit = omega arith }, tt))) (λ e.
      record { count = omega (arith, ((ready_passes F s (length f) (length u)).0 e).sound.shaped.few_variables, list_few F s i); unit = omega (arith, unit_few F) })
