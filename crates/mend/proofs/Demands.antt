-- What the call `mend` does, over its promise alone. Assumes nothing.
use Prim.Native.Nat.{ℕ, ◌*◌, ◌/◌, ◌<◌, ◌≤◌}
use mathlib.Core.Path.{◌≡◌, refl, sym, ap, ◌∙◌, subst}
use mathlib.Core.Logic.{◌≢◌, ◌↔◌}
use mathlib.Core.Bool.{Bool, true, false}
use mathlib.Core.List.{List, [], ◌∷◌, ◌++◌, map, append-nil, Memᴰ}
use native.Mathlib.Omega.{arith}
use borrow.Author.Tests.{leb-false, lt-leb}
use lib.ListN.{length, get_or, take, drop, length-append, length-map, length-replicate, get_or-replicate, drop_of_length-le}
use lib.Ieee.{Float, nan}
use Rattle.weights.specs.Worth.{zero64}
use Rattle.scratch.specs.Cleared.{cleared}
use Rattle.scratch.specs.Over.{over}
use Rattle.scratch.proofs.Over.{over_front, over_rest, over_past}
use Rattle.scratch.proofs.Means.{le_is}
use Rattle.field.specs.declared.Grade.{Grade}
use Rattle.field.specs.declared.Refusal.{Refusal}
use Rattle.field.specs.declared.Refusal.TheVariants.{Variables, Lists, Weights, Scratch, Room, Sum}
use Rattle.field.specs.Field.{Field, variables, entries, row_end, column_end, quad_of, Shaped}
use Rattle.field.specs.Faults.{Listed}
use Rattle.field.specs.Table.{unless, tested, FirstToFail}
use Rattle.field.specs.Tests.{few_variables, lists_match, weights_finite, floats_fit, words_fit, loose_tests, Finite}
use Rattle.field.specs.Grade.{grade_of}
use Rattle.field.proofs.Table.{first_refuses, refused_by, group_is, last_is}
use Rattle.field.proofs.Means.{loose_passes, few_means, lists_mean, finite_means}
use Rattle.calls.specs.Call.{table, no_stage}
use Rattle.calls.proofs.Call as any
use Rattle.calls.proofs.Usual as usual
use Rattle.calls.proofs.Usual.{this_stage, other_stage}
use Rattle.mending.specs.Places.{sum_at, sums_finite, places_of, row_in, column_in, mended}
use Rattle.mending.specs.Changes.{Change, dropped, moved, joined, numbers_of, changes_of, numbered}
use Rattle.mending.specs.Meaning.{Named, sum_of, Overflow, Happens, InputRises}
use Rattle.mending.proofs.Accepted.{mended_long, mended_loose, overflow_means, keeps, only_named}
use Rattle.mending.proofs.Accepted as model
use Rattle.mending.proofs.Good as good
use Rattle.mending.proofs.Exactly as exactly
use Rattle.mend.specs.Call.{Left, left, sum_tests, mend_tests, Mendable, fits, mend_table, mend_call, field_left}
use Rattle.mend.proofs.Laws.{mend_passes, never_room}
use Rattle.field.specs.Answers.{Answer, passed}
use Rattle.std.specs.Prelude.{Err}
use Rattle.mend.specs.Answers.{mended_answer}
use Rattle.mend.specs.declared.Mended.{Mended}
use Rattle.calls.proofs.Answers.{done_apart, same_refused, same_done}

-- ---- answers

same_mended : {g h : Grade} {m k i j : ℕ} → mended_answer g m i ≡ mended_answer h k j → (g ≡ h) × ((m ≡ k) × (i ≡ j))
same_mended e = let z = same_done e in (ap (λ (x : Mended). x.grade) z, (ap (λ (x : Mended). x.entries) z, ap (λ (x : Mended). x.changes) z))

-- three numbers for each change
numbered_long : (l : List Change) → length (numbered l) ≡ 3 * length l
unfolding numbered
numbered_long [] = refl
numbered_long (x ∷ l) = omega (arith, length-append (numbers_of x) (numbered l), three x, numbered_long l)
  where
    three : (x : Change) → length (numbers_of x) ≡ 3
    three (dropped k) = refl
    three (moved k o) = refl
    three (joined k o) = refl

-- Theorem. Any two results that the promise permits are equal.
pub one_result : (F : Field) (report : List ℕ) (f : List Float) (u : List ℕ) (x y : Left) → x ≡ mend_call F report f u → y ≡ mend_call F report f u → x ≡ y
one_result F report f u = any.one_result (mend_call F report f u)

-- 18 comes first where 1, 2 and 5 pass and the sums are not finite
first_sum : (a b c d : Bool) (rest : Answer Unit) → (rest ≡ Err Sum → ⊥) → unless a Variables (unless b Lists (unless c Weights (unless d Sum rest))) ≡ Err Sum
    → (a ≡ true) × ((b ≡ true) × ((c ≡ true) × (d ≡ false)))
first_sum true true true true rest n e = absurd (n e)
first_sum true true true false rest n e = (refl, (refl, (refl, refl)))
first_sum true true false d rest n e = let z : ◌≡◌ {A = ℕ} 5 18 = cc in absurd (omega arith)
first_sum true false c d rest n e = let z : ◌≡◌ {A = ℕ} 2 18 = cc in absurd (omega arith)
first_sum false b c d rest n e = let z : ◌≡◌ {A = ℕ} 1 18 = cc in absurd (omega arith)

module _ (F : Field) (report : List ℕ) (f : List Float) (u : List ℕ) where
  -- Theorem. The call is refused with r exactly if the tests before r's own pass, and its own fails; 9 is tested last.
  pub refused_when : (r : Refusal) → ((mend_call F report f u).answer ≡ Err r) ↔ FirstToFail (mend_table F report (length f) (length u)) r
  unfolding mend_call mend_table table
  refused_when = usual.refused_when Err _ _ _ _ same_refused done_apart refl

  -- Theorem. A refusal but 9 changes nothing.
  pub refused_leaves : (r : Refusal) → r ≢ Room → (mend_call F report f u).answer ≡ Err r → mend_call F report f u ≡ left (Err r) F.rows F.cols F.quad report f u
  unfolding mend_call
  refused_leaves r n e = usual.refused_leaves Err _ _ _ _ same_refused done_apart r (other_stage n no_stage) e

  -- Theorem. 9 is given exactly if the tests before it pass and there are more changes than the report has room for.
  pub room_when : ((mend_call F report f u).answer ≡ Err Room) ↔ (Mendable F (length f) (length u) × (length report / 3 < length (changes_of F)))
  unfolding mend_call fits
  room_when =
      let t = usual.last_when Err _ _ Room _ _ same_refused done_apart (never_room F (length f) (length u)) (fits F report) in
      let p = mend_passes F (length f) (length u) in
      ((λ e. (p.0 (t.0 e).0, leb-false _ _ (t.0 e).1)), λ h. t.1 (p.1 h.0, lt-leb _ _ h.1))

  -- Theorem. 9 leaves the entries as they were and the report all zeros.
  pub room_leaves : (mend_call F report f u).answer ≡ Err Room
      → mend_call F report f u ≡ left (Err Room) F.rows F.cols F.quad (cleared 0 report) (cleared zero64 f) (cleared 0 u)
  unfolding mend_call
  room_leaves e = usual.later_leaves Err _ _ _ _ same_refused done_apart Room _ (never_room F (length f) (length u)) (this_stage no_stage) e

  -- Theorem. It is done exactly if the lists, the sums and both scratches are as the table asks and the report has room, and then gives the mended field's grade, the new m and the number of changes.
  pub done_when : ((mend_call F report f u).answer ≡ mended_answer (grade_of (mended F)) (entries (mended F)) (length (changes_of F)))
      ↔ (Mendable F (length f) (length u) × (length (changes_of F) ≤ length report / 3))
  unfolding mend_call fits table
  done_when =
      usual.done_when Err _ _ _ _ same_refused done_apart
      (group_is (mend_tests F (length f) (length u)) _ (mend_passes F (length f) (length u)) (last_is Room _ (le_is (length (changes_of F)) (length report / 3))))

  -- Theorem. 18 is given exactly if tests 1, 2 and 5 pass and some place inside the field has a sum that is not finite; dropped entries do not count, and the scratch is not asked.
  pub sum_when : ((mend_call F report f u).answer ≡ Err Sum) ↔ (Listed F × (Finite F × Overflow F))
  unfolding mend_table mend_tests sum_tests tested
  sum_when = (
    (λ e.
        let h = first_sum (few_variables (variables F)) (lists_match F.rows F.cols F.quad) (weights_finite F.linear F.quad) (sums_finite F) _ later (first_refuses ((refused_when Sum).0 e)) in
        let l = (lists_mean F.rows F.cols F.quad).0 h.1.0 in
        let w = (finite_means F.linear F.quad).0 h.1.1.0 in (
          record { few_variables = (few_means (variables F)).0 h.0; rows_long = l.0; cols_long = l.1.0; few_entries = l.1.1 },
          (record { linear = w.0; quad = w.1 }, (overflow_means F).0 h.1.1.1),
        )),
    λ h.
        let a = (few_means (variables F)).1 h.0.few_variables in
        let b = (lists_mean F.rows F.cols F.quad).1 (h.0.rows_long, (h.0.cols_long, h.0.few_entries)) in
        let c = (finite_means F.linear F.quad).1 (h.1.0.linear, h.1.0.quad) in
        let d = (overflow_means F).1 h.1.1 in
        (refused_when Sum).1 (refused_by (mend_table F report (length f) (length u)) Sum (rw (a, b, c, d))),
  )
    where
      later : unless (floats_fit (variables F) (entries F) (length f)) Scratch
          (unless (words_fit (variables F) (entries F) (length u)) Scratch (unless (fits F report) Room passed)) ≡ Err Sum → ⊥
      later = go (floats_fit (variables F) (entries F) (length f)) (words_fit (variables F) (entries F) (length u)) (fits F report)
        where
          go : (x y z : Bool) → unless x Scratch (unless y Scratch (unless z Room passed)) ≡ Err Sum → ⊥
          go true true true e = let z : ◌≡◌ {A = ℕ} 0 1 = cc in omega arith
          go true true false e = let z : ◌≡◌ {A = ℕ} 0 1 = cc in omega arith
          go true false c e = let z : ◌≡◌ {A = ℕ} 0 1 = cc in omega arith
          go false b c e = let z : ◌≡◌ {A = ℕ} 0 1 = cc in omega arith

-- ---- what it leaves when done

module _ (F : Field) (report : List ℕ) (f : List Float) (u : List ℕ) {g : Grade} {m changes : ℕ} (e : (mend_call F report f u).answer ≡ mended_answer g m changes) where
  -- Theorem. When it is done, entries, report and scratch are exactly these: the mended list with zeros behind it, and the changes.
  pub done_leaves : mend_call F report f u
      ≡ left (mended_answer (grade_of (mended F)) (entries (mended F)) (length (changes_of F))) (over (mended F).rows (cleared 0 F.rows)) (over (mended F).cols (cleared 0 F.cols))
      (over (mended F).quad (cleared zero64 F.quad)) (over (numbered (changes_of F)) report) (cleared zero64 f) (cleared 0 u)
  unfolding mend_call
  done_leaves = usual.done_leaves Err _ _ _ _ same_refused done_apart (λ r z. done_apart r (sym e ∙ z))

  answer_is : (g ≡ grade_of (mended F)) × ((m ≡ entries (mended F)) × (changes ≡ length (changes_of F)))
  answer_is = same_mended (sym e ∙ ap (λ (x : Left). x.answer) done_leaves)

  ready : Mendable F (length f) (length u) × (length (changes_of F) ≤ length report / 3)
  ready = (done_when F report f u).0 (ap (λ (x : Left). x.answer) done_leaves)

  kept : length (places_of F) ≡ m
  kept = sym (mended_long F) ∙ sym answer_is.1.0

  front : {A : Type 0} (h : ℕ → A) (old : List A) {new : List A} → new ≡ over (map h (places_of F)) old → take m new ≡ map h (places_of F)
  front h old z = ap (take m) z ∙ over_front (map h (places_of F)) old (length-map (places_of F) h ∙ kept)

  -- Theorem. The first m entries are the mended field.
  pub field_is : field_left F.linear m (mend_call F report f u) ≡ mended F
  unfolding mended
  field_is =
      rw (
        front (row_in (variables F)) (cleared 0 F.rows) (ap (λ (x : Left). x.lent.rows) done_leaves),
        front (column_in (variables F)) (cleared 0 F.cols) (ap (λ (x : Left). x.lent.cols) done_leaves),
        front (sum_at F) (cleared zero64 F.quad) (ap (λ (x : Left). x.lent.quad) done_leaves),
      )

  -- Theorem. What is left passes the tests of entries, 1, 2, 14 to 17 and 5.
  pub accepted : tested (loose_tests (field_left F.linear m (mend_call F report f u))) ≡ passed
  accepted = rw field_is ((loose_passes (mended F)).1 (mended_loose F ready.0.listed ready.0.finite_weights.linear ready.0.finite_sums))

  -- Theorem. What is left has every place named inside the field, and no other.
  pub places_kept : (r c : ℕ) → Named (field_left F.linear m (mend_call F report f u)) r c ↔ Named F r c
  places_kept r c = rw field_is (only_named F r c, keeps F r c)

  -- Theorem. Each of its weights is the sum of those at its place, in input order, from the first weight on.
  pub sum_in_order : (o : ℕ) → o < m
      → quad_of (field_left F.linear m (mend_call F report f u)) o
      ≡ sum_of F (row_end (field_left F.linear m (mend_call F report f u)) o) (column_end (field_left F.linear m (mend_call F report f u)) o)
  sum_in_order o h = subst (λ (G : Field). quad_of G o ≡ sum_of F (row_end G o) (column_end G o)) (sym field_is) (model.sum_in_order F o (omega (arith, kept)))

  -- Theorem. The grade that is answered is that of the mended field.
  pub graded : g ≡ grade_of (field_left F.linear m (mend_call F report f u))
  graded = answer_is.0 ∙ ap grade_of (sym field_is)

  -- what stands behind the new m is 0
  past : {A : Type 0} (h : ℕ → A) (z d : A) (old : List A) {new : List A} → new ≡ over (map h (places_of F)) (cleared z old) → (k : ℕ) → m ≤ k → k < length old → get_or new k d ≡ z
  past {A} h z d old w k l i =
      ap (λ (x : List A). get_or x k d) w
      ∙ over_past (map h (places_of F)) (cleared z old) k d (omega (arith, length-map (places_of F) h, kept))
      ∙ get_or-replicate (length old) k z d i

  module _ (k : ℕ) (l : m ≤ k) (h : k < entries F) where
    -- Theorem. Past the new m, each row of the list is 0.
    pub past_row : get_or (mend_call F report f u).lent.rows k 0 ≡ 0
    unfolding mended
    past_row = past (row_in (variables F)) 0 0 F.rows (ap (λ (x : Left). x.lent.rows) done_leaves) k l (omega (arith, ready.0.listed.rows_long))

    -- Theorem. Past the new m, each column of the list is 0.
    pub past_column : get_or (mend_call F report f u).lent.cols k 0 ≡ 0
    unfolding mended
    past_column = past (column_in (variables F)) 0 0 F.cols (ap (λ (x : Left). x.lent.cols) done_leaves) k l (omega (arith, ready.0.listed.cols_long))

    -- Theorem. Past the new m, each pair weight of the list is 0.0.
    pub past_weight : get_or (mend_call F report f u).lent.quad k nan ≡ zero64
    unfolding mended
    past_weight = past (sum_at F) zero64 nan F.quad (ap (λ (x : Left). x.lent.quad) done_leaves) k l h

  -- ---- the report

  -- Theorem. At its front stand the numbers of the changes, three each, and the rest of it is unchanged.
  pub report_is : take (3 * changes) (mend_call F report f u).lent.report ≡ numbered (changes_of F)
  report_is = ap (λ (x : Left). take (3 * changes) x.lent.report) done_leaves ∙ over_front (numbered (changes_of F)) report {n = 3 * changes} (omega (arith, numbered_long (changes_of F), answer_is.1.1))

  -- Theorem. The report past its last change is as it was.
  pub report_rest : drop (3 * changes) (mend_call F report f u).lent.report ≡ drop (3 * changes) report
  report_rest = ap (λ (x : Left). drop (3 * changes) x.lent.report) done_leaves ∙ over_rest (numbered (changes_of F)) report {n = 3 * changes} (omega (arith, numbered_long (changes_of F), answer_is.1.1))

  -- Theorem. The count of changes that is answered is how many entries are dropped, moved or joined.
  pub report_counts : changes ≡ length (changes_of F)
  report_counts = answer_is.1.1

-- Theorem. The changes are exactly those that happen.
pub report_exactly : (F : Field) (x : Change) → Memᴰ x (changes_of F) ↔ Happens F x
report_exactly = exactly.report_exactly

-- Theorem. The changes rise by input position, at most one for each entry.
pub input_rises : (F : Field) → InputRises (changes_of F)
input_rises = exactly.input_rises

-- A list that is in order comes back unchanged, with no change reported.
module _ (F : Field) (report : List ℕ) (f : List Float) (u : List ℕ) {g : Grade} {m changes : ℕ} (e : (mend_call F report f u).answer ≡ mended_answer g m changes) (S : Shaped F) where
  whole : {A : Type 0} (z : A) (l : List A) → over l (cleared z l) ≡ l
  unfolding over
  whole {A} z l = ap (λ (x : List A). l ++ x) (drop_of_length-le (cleared z l) {i = length l} (omega (arith, length-replicate (length l) z))) ∙ append-nil l

  -- Theorem. A list that has its shape already comes back bit for bit, with no change in the report.
  pub good_unchanged : mend_call F report f u ≡ left (mended_answer (grade_of F) (entries F) 0) F.rows F.cols F.quad report (cleared zero64 f) (cleared 0 u)
  unfolding numbered over
  good_unchanged = done_leaves F report f u e ∙ rw (good.good_unchanged F S, good.good_no_changes F S, whole 0 F.rows, whole 0 F.cols, whole zero64 F.quad)
