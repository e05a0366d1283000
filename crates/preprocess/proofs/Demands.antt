-- What the call `preprocess` does, over its promise alone. Assumes nothing.
use Prim.Native.Nat.{ℕ, ◌<◌, ◌≤◌}
use mathlib.Core.Path.{◌≡◌, ◌∙◌}
use mathlib.Core.Logic.{⊎_elim, ◌↔◌}
use mathlib.Core.Bool.{true}
use mathlib.Core.List.{List}
use native.Mathlib.Omega.{arith}
use lib.ListN.{length, get_or}
use lib.Ieee.{Float, eq}
use Rattle.meaning.specs.Steps.{Extends}
use Rattle.meaning.specs.Part.{Safe}
use Rattle.meaning.proofs.Values.{extends_trans}
use Rattle.meaning.proofs.Safe.{safe_trans}
use Rattle.weights.specs.Worth.{zero64}
use Rattle.scratch.specs.Cleared.{cleared}
use Rattle.field.specs.declared.Grade.{Grade}
use Rattle.field.specs.declared.Grade.TheVariants.{Exact}
use Rattle.field.specs.declared.Refusal.{Refusal}
use Rattle.field.specs.Field.{Field, variables, linear_of, Shaped, StartFor}
use Rattle.field.specs.Table.{FirstToFail}
use Rattle.field.specs.Tests.{ready_tests, Sound, Ready}
use Rattle.field.specs.Grade.{grade_of, ExactIn, Serves}
use Rattle.field.specs.Reading.{whole_of}
use Rattle.calls.specs.Values.{Left, left}
use Rattle.calls.proofs.Values as values
use Rattle.run.specs.Run.{closure}
use Rattle.run.proofs.Theorems.{closure_extends, closure_valid, closure_stands}
use Rattle.components.proofs.Bridge.{parts_extend, parts_safe}
use Rattle.no_effect.specs.Effect.{has_no_effect, NoEntry}
use Rattle.no_effect.proofs.Listed.{effect_means}
use Rattle.preprocess.specs.Working.{with_no_effect, preprocess}
use Rattle.preprocess.specs.Call.{preprocess_call}
use Rattle.preprocess.proofs.Idle.{idle_start, idle_extends, idle_stands, closure_stays}
use Rattle.preprocess.proofs.Zeroed.{idle_zero}
use Rattle.std.specs.Prelude.{Ok, Err}

-- ---- the model

module _ (F : Field) (shaped : Shaped F) {s : List ℕ} (start : StartFor (variables F) s) where
  closed : StartFor (variables F) (closure F (with_no_effect F s))
  closed = closure_valid F (idle_start F start)

  from_closed : Extends (closure F (with_no_effect F s)) (preprocess F s)
  unfolding preprocess
  from_closed = (parts_extend shaped closed).0

  from_idle : Extends (with_no_effect F s) (preprocess F s)
  from_idle = extends_trans (closure_extends F (idle_start F start)) from_closed

  preprocess_extends : Extends s (preprocess F s)
  preprocess_extends = extends_trans (idle_extends F start) from_idle

  preprocess_closes : Extends (closure F s) (preprocess F s)
  preprocess_closes = extends_trans (closure_stays shaped start) from_closed

  pub preprocess_idle : (i : ℕ) → i < variables F → has_no_effect F i ≡ true → get_or s i 0 ≡ 2 → get_or (preprocess F s) i 0 ≡ 0
  preprocess_idle i h e free =
      let z = idle_zero F s i h e free in
      ⊎_elim (λ two. absurd (omega arith)) (λ k. k ∙ z) (from_idle.kept i)

  preprocess_stands : {u : ℕ} → u ≤ 2044 → ExactIn u F → Safe (whole_of u F) s (preprocess F s)
  unfolding preprocess
  preprocess_stands unit exact =
      safe_trans (idle_stands shaped exact start) (safe_trans (closure_stands shaped exact (idle_start F start)) (parts_safe shaped closed unit exact))

-- ---- the call

module _ (F : Field) (s : List ℕ) (f : List Float) (u : List ℕ) where
  -- Theorem. Any two results that the promise permits are equal.
  pub one_result : (x y : Left) → x ≡ preprocess_call F s f u → y ≡ preprocess_call F s f u → x ≡ y
  one_result = values.one_result _ F s f u

  -- Theorem. The call is refused with r exactly if the tests before r's own pass, and its own fails.
  pub refused_when : (r : Refusal) → ((preprocess_call F s f u).answer ≡ Err r) ↔ FirstToFail (ready_tests F s (length f) (length u)) r
  refused_when = values.refused_when _ F s f u

  -- Theorem. A refusal changes nothing lent.
  pub refused_leaves : (r : Refusal) → (preprocess_call F s f u).answer ≡ Err r → preprocess_call F s f u ≡ left (Err r) s f u
  refused_leaves = values.refused_leaves _ F s f u

  -- Theorem. It is done exactly if the field, the start values and both scratches are as the table asks, and then gives the grade.
  pub done_when : ((preprocess_call F s f u).answer ≡ Ok (grade_of F)) ↔ Ready F s (length f) (length u)
  done_when = values.done_when _ F s f u

  module _ (g : Grade) (e : (preprocess_call F s f u).answer ≡ Ok g) where
    -- Theorem. Then the values are in the start values, and both scratches are all zeros.
    pub done_leaves : preprocess_call F s f u ≡ left (Ok (grade_of F)) (preprocess F s) (cleared zero64 f) (cleared 0 u)
    done_leaves = values.done_leaves _ F s f u g e

    pub values_are : (preprocess_call F s f u).lent.values ≡ preprocess F s
    values_are = values.values_are _ F s f u g e

    sound : Sound F s
    sound = (values.ready _ F s f u g e).sound

    -- Theorem. The start values are kept, a 1 of a variable of no effect too.
    pub values_extend : Extends s (preprocess_call F s f u).lent.values
    values_extend = rw values_are (preprocess_extends F sound.shaped sound.start)

    -- Theorem. A free variable of no effect ends as 0.
    pub idle_ends : (i : ℕ) → i < variables F → NoEntry F i → eq (linear_of F i) zero64 ≡ true → get_or s i 0 ≡ 2 → get_or (preprocess_call F s f u).lent.values i 0 ≡ 0
    idle_ends i h apart zero free =
        rw values_are (preprocess_idle F sound.shaped sound.start i h ((effect_means F i sound.shaped.rows_long).1 (apart, zero)) free)

    -- Theorem. Every value of the closure is among them, on any field.
    pub closure_among : Extends (closure F s) (preprocess_call F s f u).lent.values
    closure_among = rw values_are (preprocess_closes F sound.shaped sound.start)

-- Theorem. DEMAND 3. On an exact field some best completion of the start values agrees with all values.
pub some_best_agrees : (F : Field) (s : List ℕ) (f : List Float) (u : List ℕ) → (preprocess_call F s f u).answer ≡ Ok Exact
    → {unit : ℕ} → Serves unit F → Safe (whole_of unit F) s (preprocess_call F s f u).lent.values
some_best_agrees F s f u e v =
    let x = values.exact_field _ F s f u e in
    rw (values_are F s f u Exact e) (preprocess_stands F x.0 x.1.1 (omega (arith, v.to)) v.exact)
