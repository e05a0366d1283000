-- What the call `shift` does, over its promise alone. Assumes nothing.
use Prim.Native.Nat.{ℕ, ◌≤◌, ◌<◌, ◌^◌, ◌+◌, ◌*◌}
use mathlib.Core.Path.{◌≡◌, sym, ap, subst, ◌∙◌}
use mathlib.Core.Logic.{◌↔◌}
use mathlib.Core.List.{List, [], map, append-nil}
use native.Mathlib.Omega.{arith}
use lib.ListN.{get_or, length-map}
use lib.Ieee.{nan}
use Rattle.whole.specs.Whole.{◌≈◌}
use Rattle.scratch.specs.Over.{over}
use Rattle.scratch.proofs.Over.{over_past}
use Rattle.meaning.specs.Field.{twice_f}
use Rattle.field.specs.declared.Grade.{Grade}
use Rattle.field.specs.declared.Refusal.{Refusal}
use Rattle.field.specs.Field.{Field, variables, linear_of, row_end, column_end, quad_of, Shaped, Standard}
use Rattle.field.specs.Table.{FirstToFail}
use Rattle.field.specs.Tests.{loose_tests, Loose}
use Rattle.field.specs.Grade.{grade_of, Weighs}
use Rattle.field.specs.Reading.{whole_of}
use Rattle.field.proofs.Means.{loose_passes}
use Rattle.calls.specs.Call.{table, no_stage}
use Rattle.calls.proofs.Answers.{same_refused, done_apart, same_counted}
use Rattle.calls.proofs.Call as any
use Rattle.calls.proofs.Usual as usual
use Rattle.shift.specs.Closing.{closed_to, closed}
use Rattle.shift.specs.Call.{Left, left, shift_call}
use Rattle.shift.specs.Shifted.{first_entries, shifted, WholeIn}
use Rattle.shift.proofs.Kept.{from, new_variables, shifted_standard, shifted_shaped}
use Rattle.shift.proofs.Keeps as keeps
use Rattle.field.specs.Answers.{counted_answer}
use Rattle.std.specs.Prelude.{Err}

-- Theorem. Any two results that the promise permits are equal.
pub one_result : (F : Field) (x y : Left) → x ≡ shift_call F → y ≡ shift_call F → x ≡ y
one_result F = any.one_result (shift_call F)

module _ (F : Field) where
  -- Theorem. The call is refused with r exactly if the tests before r's own pass, and its own fails.
  pub refused_when : (r : Refusal) → ((shift_call F).answer ≡ Err r) ↔ FirstToFail (loose_tests F) r
  unfolding shift_call table
  refused_when = usual.refused_when Err _ _ [] _ same_refused done_apart (append-nil (loose_tests F))

  -- Theorem. A refusal changes nothing lent.
  pub refused_leaves : (r : Refusal) → (shift_call F).answer ≡ Err r → shift_call F ≡ left (Err r) F
  unfolding shift_call
  refused_leaves r e = usual.refused_leaves Err _ _ [] _ same_refused done_apart r no_stage e

  -- Theorem. It is done exactly if the field is as tests 1, 2, 14 to 17 and 5 ask, and then gives the grade of the field as it was given, and the new m.
  pub done_when : ((shift_call F).answer ≡ counted_answer (grade_of F) (closed F).kept) ↔ Loose F
  unfolding shift_call table
  done_when = usual.done_when Err _ _ [] _ same_refused done_apart (rw (append-nil (loose_tests F)) (loose_passes F))

  module _ {g : Grade} {m : ℕ} (e : (shift_call F).answer ≡ counted_answer g m) where
    -- Theorem. When it is done, the answer and the four lists are exactly those of the diagonal gone into c.
    pub done_leaves : shift_call F ≡ left (counted_answer (grade_of F) (closed F).kept) (closed F).lists
    unfolding shift_call
    done_leaves = usual.done_leaves Err _ _ [] _ same_refused done_apart (λ r z. done_apart r (sym e ∙ z))

    loose : Loose F
    loose = done_when.0 (ap (λ (l : Left). l.answer) done_leaves)

    new_m : m ≡ (closed F).kept
    new_m = (same_counted (sym e ∙ ap (λ (l : Left). l.answer) done_leaves)).1

    is_shifted : first_entries m (shift_call F).lent ≡ shifted F
    is_shifted = rw (new_m, done_leaves)

    -- Theorem. The first m entries are a field in standard form, shaped as a field must be.
    pub new_field : Shaped (first_entries m (shift_call F).lent) × Standard (first_entries m (shift_call F).lent)
    new_field = subst (λ (G : Field). Shaped G × Standard G) (sym is_shifted) (shifted_shaped F loose.shaped, shifted_standard F)

    past : {A : Type 0} (a : ℕ → A) (old : List A) (d : A) (k : ℕ) → m ≤ k → get_or (over (map a (from F)) old) k d ≡ get_or old k d
    unfolding closed closed_to
    past a old d k h = over_past (map a (from F)) old k d (omega (arith, length-map (from F) a, new_m))

    -- Theorem. Places past the new m are unchanged.
    pub past_unchanged : (k : ℕ) → m ≤ k
        → (row_end (shift_call F).lent k ≡ row_end F k) × ((column_end (shift_call F).lent k ≡ column_end F k) × (quad_of (shift_call F).lent k ≡ quad_of F k))
    unfolding closed closed_to
    past_unchanged k h = simp done_leaves (past (row_end F) F.rows 0 k h, (past (column_end F) F.cols 0 k h, past (quad_of F) F.quad nan k h))

    -- Theorem. Where c is a whole number of units and q of double units, the new c is too: nothing is rounded.
    pub new_weighs : {u : ℕ} → WholeIn u F → (i : ℕ) → i < variables F → Weighs u (2 ^ 32 + 32768 * 2 ^ 31) (linear_of (shift_call F).lent i)
    new_weighs {u} w i h = subst (λ (l : Left). Weighs u (2 ^ 32 + 32768 * 2 ^ 31) (linear_of l.lent i)) (sym done_leaves)
        (keeps.weighs_more (omega (arith, loose.shaped.few_entries)) (keeps.shifted_weighs loose.shaped w i (omega (arith, new_variables F))))

    -- Theorem. Where c is a whole number of units and q of double units, f is kept at every x.
    pub keeps_f : {u : ℕ} → WholeIn u F → (x : List ℕ) → ((i : ℕ) → get_or x i 0 < 2)
        → twice_f (whole_of u (first_entries m (shift_call F).lent)) x ≈ twice_f (whole_of u F) x
    keeps_f {u} w x full = subst (λ (G : Field). twice_f (whole_of u G) x ≈ twice_f (whole_of u F) x) (sym is_shifted) (keeps.shift_keeps loose.shaped w x full)
