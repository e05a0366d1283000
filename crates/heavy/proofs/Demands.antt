-- What the call `heavy` does, over its promise alone. Assumes nothing.
use Prim.Native.Nat.{ℕ, zero, suc, ◌<◌}
use mathlib.Core.Path.{◌≡◌, refl, sym, ◌∙◌}
use mathlib.Core.Logic.{◌↔◌, inr}
use mathlib.Core.Bool.{true}
use mathlib.Core.List.{List}
use native.Mathlib.Omega.{arith}
use lib.ListN.{length, get_or, get_or-eq_default}
use lib.Ieee.{Float, eq}
use Rattle.meaning.specs.Steps.{Extends}
use Rattle.meaning.specs.Part.{Safe}
use Rattle.meaning.proofs.Values.{fixed, extends_refl, extends_trans}
use Rattle.meaning.proofs.Free.{frees_le}
use Rattle.weights.specs.Worth.{zero64}
use Rattle.scratch.specs.Cleared.{cleared}
use Rattle.field.specs.declared.Grade.{Grade}
use Rattle.field.specs.declared.Grade.TheVariants.{Exact}
use Rattle.field.specs.declared.Refusal.{Refusal}
use Rattle.field.specs.Field.{Field, variables, linear_of}
use Rattle.field.specs.Table.{FirstToFail}
use Rattle.field.specs.Tests.{ready_tests, Sound, Ready}
use Rattle.field.specs.Grade.{grade_of, Serves}
use Rattle.field.specs.Reading.{whole_of}
use Rattle.calls.specs.Values.{Left, left}
use Rattle.calls.proofs.Values as values
use Rattle.run.specs.Run.{closure}
use Rattle.no_effect.specs.Effect.{NoEntry}
use Rattle.preprocess.specs.Working.{preprocess}
use Rattle.heavy.specs.Rounds.{round, rounds, all_rounds, heavy}
use Rattle.heavy.specs.Call.{heavy_call}
use Rattle.heavy.proofs.Added.{preprocess_start, preprocess_closes, preprocess_idle, rounds_extend, rounds_are, rounds_close, rounds_preprocess, rounds_stand}
use Rattle.std.specs.Prelude.{Ok, Err}

-- ---- the model

module _ {F : Field} {s : List ℕ} (S : Sound F s) where
  heavy_extends : Extends s (heavy F s)
  unfolding heavy
  heavy_extends = rounds_extend (variables F) S (extends_refl s)

  heavy_all : heavy F s ≡ all_rounds F (variables F) s
  unfolding heavy
  heavy_all = rounds_are (variables F) S

  heavy_closed : round F (heavy F s) ≡ heavy F s
  unfolding heavy
  heavy_closed = rounds_close (variables F) S (omega (arith, frees_le s, S.start.long))

  heavy_stands : grade_of F ≡ Exact → {unit : ℕ} → Serves unit F → Safe (whole_of unit F) s (heavy F s)
  unfolding heavy
  heavy_stands g v = rounds_stand (variables F) S g v

  -- with no variable there is no value
  heavy_preprocess : Extends (preprocess F s) (heavy F s)
  unfolding heavy rounds
  heavy_preprocess = by (variables F) refl
    where
      by : (n : ℕ) → variables F ≡ n → Extends (preprocess F s) (rounds F n s)
      by zero e = record {
        as_long = S.start.long ∙ sym (preprocess_start S).long;
        kept = λ i. inr (get_or-eq_default s 0 {n = i} (omega (arith, S.start.long))
            ∙ sym (get_or-eq_default (preprocess F s) 0 {n = i} (omega (arith, (preprocess_start S).long))));
      }
      by (suc k) e = rounds_preprocess k S

-- ---- the call

module _ (F : Field) (s : List ℕ) (f : List Float) (u : List ℕ) where
  -- Theorem. Any two results that the promise permits are equal.
  pub one_result : (x y : Left) → x ≡ heavy_call F s f u → y ≡ heavy_call F s f u → x ≡ y
  one_result = values.one_result _ F s f u

  -- Theorem. The call is refused with r exactly if the tests before r's own pass, and its own fails.
  pub refused_when : (r : Refusal) → ((heavy_call F s f u).answer ≡ Err r) ↔ FirstToFail (ready_tests F s (length f) (length u)) r
  refused_when = values.refused_when _ F s f u

  -- Theorem. A refusal changes nothing lent.
  pub refused_leaves : (r : Refusal) → (heavy_call F s f u).answer ≡ Err r → heavy_call F s f u ≡ left (Err r) s f u
  refused_leaves = values.refused_leaves _ F s f u

  -- Theorem. It is done exactly if the field, the start values and both scratches are as the table asks, and then gives the grade.
  pub done_when : ((heavy_call F s f u).answer ≡ Ok (grade_of F)) ↔ Ready F s (length f) (length u)
  done_when = values.done_when _ F s f u

  module _ (g : Grade) (e : (heavy_call F s f u).answer ≡ Ok g) where
    -- Theorem. Then the values are in the start values, and both scratches are all zeros.
    pub done_leaves : heavy_call F s f u ≡ left (Ok (grade_of F)) (heavy F s) (cleared zero64 f) (cleared 0 u)
    done_leaves = values.done_leaves _ F s f u g e

    pub values_are : (heavy_call F s f u).lent.values ≡ heavy F s
    values_are = values.values_are _ F s f u g e

    pub sound : Sound F s
    sound = (values.ready _ F s f u g e).sound

    -- Theorem. The start values are kept, a 1 of a variable of no effect too.
    pub values_extend : Extends s (heavy_call F s f u).lent.values
    values_extend = rw values_are (heavy_extends sound)

    -- Theorem. A free variable of no effect ends as 0.
    pub idle_ends : (i : ℕ) → i < variables F → NoEntry F i → eq (linear_of F i) zero64 ≡ true → get_or s i 0 ≡ 2 → get_or (heavy_call F s f u).lent.values i 0 ≡ 0
    idle_ends i h apart weightless free =
        let z = preprocess_idle sound i h apart weightless free in
        rw values_are (fixed ((heavy_preprocess sound).kept i) (omega arith) ∙ z)

    -- Theorem. Every value of preprocess is among them, on any field.
    pub preprocess_among : Extends (preprocess F s) (heavy_call F s f u).lent.values
    preprocess_among = rw values_are (heavy_preprocess sound)

    -- Theorem. Every value of the closure is among them, on any field.
    pub closure_among : Extends (closure F s) (heavy_call F s f u).lent.values
    closure_among = extends_trans (preprocess_closes sound) preprocess_among

    -- Theorem. The stop leaves what n rounds leave, and a further round adds nothing.
    pub rounds_end : ((heavy_call F s f u).lent.values ≡ all_rounds F (variables F) s) × (round F (heavy_call F s f u).lent.values ≡ (heavy_call F s f u).lent.values)
    rounds_end = rw values_are (heavy_all sound, heavy_closed sound)

-- Theorem. DEMAND 3. On an exact field some best completion of the start values agrees with all values.
pub some_best_agrees : (F : Field) (s : List ℕ) (f : List Float) (u : List ℕ) → (heavy_call F s f u).answer ≡ Ok Exact
    → {unit : ℕ} → Serves unit F → Safe (whole_of unit F) s (heavy_call F s f u).lent.values
some_best_agrees F s f u e v = rw (values_are F s f u Exact e) (heavy_stands (sound F s f u Exact e) (values.graded _ F s f u Exact e) v)
