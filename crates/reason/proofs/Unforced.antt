-- Where the closure leaves i free, the bounds rest on the closure itself, and no bound of i is strict. Assumes nothing.
use Prim.Native.Nat.{ℕ, ◌-◌, ◌<◌, ◌≤◌}
use mathlib.Core.Path.{◌≡◌, refl, sym, ap, ◌∙◌}
use mathlib.Core.Bool.{Bool, true, false, cond}
use mathlib.Core.List.{List}
use native.Mathlib.Decide.{dec_lt}
use native.Mathlib.Omega.{arith}
use borrow.Author.Tests.{le-ltb}
use lib.ListN.{length, get_or}
use Rattle.meaning.specs.Gradient.{low, high, zero_by, one_by, Forces}
use Rattle.field.specs.Field.{Field, variables, Shaped, StartFor}
use Rattle.field.specs.Grade.{ExactIn}
use Rattle.field.specs.Reading.{whole_of}
use Rattle.rows.specs.declared.Verdict.TheVariants.{Flat, Open}
use Rattle.rows.specs.Row.{judge_of, both_zero}
use Rattle.rows.specs.Model.{row_of}
use Rattle.rows.proofs.Counted.{lower_test, upper_test}
use Rattle.run.specs.Run.{Run, closure_run, closure}
use Rattle.run.proofs.Keeps.{work_stays}
use Rattle.run.proofs.Theorems.{closure_is_closure}
use Rattle.reason.specs.declared.Ground.TheVariants.{Given}
use Rattle.reason.specs.Until.{stop_of, basis}
use Rattle.reason.specs.Ground.{ground_of}
use Rattle.reason.specs.Stages.{back}
use Rattle.reason.proofs.Until.{stop_split, run_is, stop_value, stop_rest}
use Rattle.reason.proofs.Theorems.{basis_start}
use Rattle.reason.proofs.Resting.{back_rests}

module _ {u : ℕ} {F : Field} (shaped : Shaped F) (exact : ExactIn u F) where
  open_given : {r : List ℕ} → StartFor (variables F) r → (i : ℕ) → i < variables F → ((v : ℕ) → Forces (whole_of u F) r i v → ⊥) → (k : ℕ) → ground_of k (judge_of (row_of F r i)) ≡ Given
  unfolding ground_of
  open_given {r} start i l none k =
      rw (
        lower_test exact shaped i l start,
        le-ltb (low (whole_of u F) r i).less (low (whole_of u F) r i).plus (elim (dec_lt (low (whole_of u F) r i).less (low (whole_of u F) r i).plus) [ yes b ↦ absurd (none 0 (zero_by b)) | no b ↦ omega arith ]),
        upper_test exact shaped i l start,
        le-ltb (high (whole_of u F) r i).plus (high (whole_of u F) r i).less (elim (dec_lt (high (whole_of u F) r i).plus (high (whole_of u F) r i).less) [ yes b ↦ absurd (none 1 (one_by b)) | no b ↦ omega arith ]),
      )
      (neither (both_zero (row_of F r i)))
    where
      neither : (b : Bool) → ground_of k (cond b Flat Open) ≡ Given
      neither true = refl
      neither false = refl

  module _ {s : List ℕ} (start : StartFor (variables F) s) (i : ℕ) (free : get_or (closure F s) i 0 ≡ 2) where
    over : length (stop_of F s i).run.queue ≤ (stop_of F s i).head
    over = (stop_split F start i).over (stop_value F start i ∙ free)

    whole_run : closure_run F s ≡ (stop_of F s i).run
    whole_run = let a = stop_split F start i in run_is F start i ∙ a.rest ∙ work_stays F a.left (stop_of F s i).run (stop_of F s i).head over

    pub basis_closure : basis F s i ≡ closure F s
    unfolding basis closure back
    basis_closure =
        let a = stop_split F start i in
        let e : length (stop_of F s i).run.queue - (stop_of F s i).head ≡ 0 = omega (arith, over) in
        sym (rw e at (back_rests a.room (stop_rest shaped exact i start).holds.grounded a.served)) ∙ sym (ap (λ (r : Run). r.values) whole_run)

    -- so 13 is answered of it
    pub unforced_given : i < variables F → (k : ℕ) → ground_of k (judge_of (row_of F (basis F s i) i)) ≡ Given
    unforced_given l k = open_given (basis_start F start i) i l (λ v f. (closure_is_closure shaped exact start).closed i v free (rw basis_closure at f)) k
