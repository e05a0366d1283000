-- What the record of an exact field is worth: its rows are low and high, and its number counts the variables that are forced. Assumes nothing.
use Prim.Native.Nat.{ℕ, zero, suc, ◌+◌, ◌<◌}
use mathlib.Core.Path.{◌≡◌, refl, ap, ap₂, ◌∙◌}
use mathlib.Core.Bool.{Bool, true, false, cond, not, ◌&&◌}
use mathlib.Core.List.{List}
use native.Mathlib.Omega.{arith}
use borrow.Author.Tests.{eqb-true}
use lib.Dec.{eqb}
use lib.ListN.{length, get_or}
use Rattle.meaning.specs.Free.{is_free}
use Rattle.meaning.specs.Gradient.{low, high, verdict}
use Rattle.meaning.proofs.Values.{inside}
use Rattle.field.specs.Field.{Field, variables, Shaped, StartFor}
use Rattle.field.specs.Grade.{ExactIn}
use Rattle.field.specs.Reading.{whole_of}
use Rattle.rows.specs.declared.Verdict.{Verdict}
use Rattle.rows.specs.declared.Verdict.TheVariants.{Zero, One, Flat, Open}
use Rattle.rows.specs.Row.{judge_of, value_of, is_forced, is_strict}
use Rattle.rows.specs.Stored.{row_on}
use Rattle.rows.specs.Counted.{RowWorth}
use Rattle.rows.proofs.Terms.{value_worth}
use Rattle.rows.proofs.Upto.{get_d_up_to}
use Rattle.run.specs.Run.{no_row}
use Rattle.kept.specs.Kept.{strict_to, made}
use Rattle.kept.specs.Meaning.{stricts_to, stricts}
use Rattle.kept.proofs.FromRows.{made_worth}

abbrev one : Bool → ℕ
one b = cond b 1 0

-- a verdict forces a value where that value is not 2
forced_value : (v : Verdict) → is_forced v ≡ not (eqb (value_of v) 2)
unfolding value_of
forced_value (Zero b) = refl
forced_value (One b) = refl
forced_value Flat = refl
forced_value Open = refl

module _ {u : ℕ} {F : Field} (shaped : Shaped F) (exact : ExactIn u F) {s : List ℕ} (start : StartFor (variables F) s) where
  pub row_is_worth : (t : ℕ) → get_or s t 0 ≡ 2 → RowWorth u (row_on (made F s).bounds (variables F) t) (low (whole_of u F) s t) (high (whole_of u F) s t)
  row_is_worth t free =
      let l : t < variables F = omega (arith, inside s t free, start.long) in
      rw (get_d_up_to (row_on (made F s).bounds (variables F)) (variables F) t no_row l) at (made_worth shaped exact start t free)

  strict_to_lem : (i : ℕ) → strict_to s (made F s).bounds i ≡ stricts_to (whole_of u F) s i
  unfolding strict_to stricts_to verdict
  strict_to_lem zero = refl
  strict_to_lem (suc i) = ap₂ (λ (a b : ℕ). a + b) (strict_to_lem i) (go (is_free s i) refl)
    where
      go : (b : Bool) → is_free s i ≡ b
          → one (b && is_strict (row_on (made F s).bounds (length s) i)) ≡ one (b && not (eqb (verdict (whole_of u F) s i) 2))
      go true e =
          ap (λ (n : ℕ). one (is_strict (row_on (made F s).bounds n i))) start.long
          ∙ ap one (forced_value (judge_of (row_on (made F s).bounds (variables F) i)) ∙ ap (λ (v : ℕ). not (eqb v 2)) (value_worth (row_is_worth i (eqb-true _ _ e))))
      go false e = refl

  -- THE NUMBER: it is that of the free variables on which the values force one.
  pub strict_is : (made F s).strict ≡ stricts (whole_of u F) s
  unfolding made
  strict_is = strict_to_lem (length s)
