-- Variables of no effect count as 0 while the call works: whatever value they start with, the others end the same. Assumes nothing.
use Prim.Native.Nat.{ℕ}
use mathlib.Core.Path.{◌≡◌, refl, sym, ap, ◌∙◌}
use mathlib.Core.Logic.{◌≢◌, ⊎_elim}
use mathlib.Core.Bool.{Bool, true, false}
use mathlib.Core.List.{List}
use native.Mathlib.Decide.{ℕ_discrete}
use native.Mathlib.Omega.{arith}
use borrow.Author.Tests.{ne_eqb}
use lib.Dec.{eqb}
use lib.ListN.{get_or}
use lib.Ieee.{Float}
use Rattle.meaning.proofs.Values.{inside}
use Rattle.field.specs.declared.Grade.{Grade}
use Rattle.field.specs.Field.{Field, variables, Shaped, StartFor}
use Rattle.calls.proofs.Values as values
use Rattle.run.specs.Run.{closure}
use Rattle.run.proofs.Theorems.{closure_extends, closure_valid}
use Rattle.components.proofs.Alike.{Alike, small_same}
use Rattle.components.proofs.Bridge.{parts_extend}
use Rattle.no_effect.specs.Effect.{has_no_effect}
use Rattle.preprocess.specs.Working.{with_no_effect, preprocess}
use Rattle.preprocess.specs.Elsewhere.{SameElsewhere}
use Rattle.preprocess.specs.Call.{preprocess_call}
use Rattle.preprocess.proofs.Blind.{ends_touch, closure_blind, closure_leaves}
use Rattle.preprocess.proofs.Idle.{idle_start, idle_extends, idle_passes}
use Rattle.preprocess.proofs.Zeroed.{idle_zero}
use Rattle.preprocess.proofs.Demands.{values_are}
use Rattle.std.specs.Prelude.{Ok}

-- none of them is free where the work begins
pub idle_given : (F : Field) {s : List ℕ} → StartFor (variables F) s → (i : ℕ) → has_no_effect F i ≡ true → get_or (with_no_effect F s) i 0 ≢ 2
idle_given F {s} start i e two = elim (ℕ_discrete (get_or s i 0) 2) [
  | yes f ↦ absurd (omega (arith, idle_zero F s i (omega (arith, inside s i f, start.long)) e f))
  | no n ↦ ⊎_elim (λ f. n f) (λ k. n (sym k ∙ two)) ((idle_extends F start).kept i)
]

module _ {F : Field} (S : Shaped F) {s s' : List ℕ} (start : StartFor (variables F) s) (start' : StartFor (variables F) s') (E : SameElsewhere F s s') where
  begun : SameElsewhere F (with_no_effect F s) (with_no_effect F s')
  begun = record {
    long = (idle_start F start').long ∙ sym (idle_start F start).long;
    at = λ i e. idle_passes F s' i e ∙ E.at i e ∙ sym (idle_passes F s i e);
  }

  closed : SameElsewhere F (closure F (with_no_effect F s)) (closure F (with_no_effect F s'))
  closed = record {
    long = (closure_extends F (idle_start F start')).as_long ∙ begun.long ∙ sym (closure_extends F (idle_start F start)).as_long;
    at = closure_blind S (with_no_effect F s) (with_no_effect F s') begun.long begun.at;
  }

  alike : Alike (closure F (with_no_effect F s)) (closure F (with_no_effect F s'))
  alike = record { long = closed.long; opens = λ i. by i (has_no_effect F i) refl }
    where
      by : (i : ℕ) (b : Bool) → has_no_effect F i ≡ b → eqb (get_or (closure F (with_no_effect F s')) i 0) 2 ≡ eqb (get_or (closure F (with_no_effect F s)) i 0) 2
      by i false e = ap (λ (v : ℕ). eqb v 2) (closed.at i e)
      by i true e =
          ne_eqb _ 2 (λ two. idle_given F start' i e (sym (closure_leaves S (with_no_effect F s') i e) ∙ two))
          ∙ sym (ne_eqb _ 2 (λ two. idle_given F start i e (sym (closure_leaves S (with_no_effect F s) i e) ∙ two)))

  pub preprocess_blind : SameElsewhere F (preprocess F s) (preprocess F s')
  unfolding preprocess
  preprocess_blind =
      let Q = small_same S (λ i. has_no_effect F i ≡ false) (ends_touch S) (closure F (with_no_effect F s)) (closure F (with_no_effect F s')) alike (record { long = closed.long; at = closed.at }) in
      record { long = Q.long; at = Q.at }

-- they have a value at the end ..
pub idle_valued : {F : Field} → Shaped F → {s : List ℕ} → StartFor (variables F) s → (i : ℕ) → has_no_effect F i ≡ true → get_or (preprocess F s) i 0 ≢ 2
unfolding preprocess
idle_valued {F} S {s} start i e two =
    let n : get_or (closure F (with_no_effect F s)) i 0 ≢ 2 = λ z. idle_given F start i e (sym (closure_leaves S (with_no_effect F s) i e) ∙ z) in
    ⊎_elim n (λ k. n (sym k ∙ two)) ((parts_extend S (closure_valid F (idle_start F start))).0.kept i)

-- .. and so the same variables are free then
pub frees_alike : {F : Field} → Shaped F → {s s' : List ℕ} → StartFor (variables F) s → StartFor (variables F) s' → SameElsewhere F s s'
    → (i : ℕ) → eqb (get_or (preprocess F s') i 0) 2 ≡ eqb (get_or (preprocess F s) i 0) 2
frees_alike {F} S {s} {s'} start start' E i = by (has_no_effect F i) refl
  where
    by : (b : Bool) → has_no_effect F i ≡ b → eqb (get_or (preprocess F s') i 0) 2 ≡ eqb (get_or (preprocess F s) i 0) 2
    by false e = ap (λ (v : ℕ). eqb v 2) ((preprocess_blind S start start' E).at i e)
    by true e = ne_eqb _ 2 (idle_valued S start' i e) ∙ sym (ne_eqb _ 2 (idle_valued S start i e))

-- Theorem. The other variables end the same, whether those of no effect are free, 0 or 1 at the start.
pub idle_unseen : (F : Field) (s s' : List ℕ) (f f' : List Float) (u u' : List ℕ) (g g' : Grade)
    → (preprocess_call F s f u).answer ≡ Ok g → (preprocess_call F s' f' u').answer ≡ Ok g'
    → SameElsewhere F s s' → SameElsewhere F (preprocess_call F s f u).lent.values (preprocess_call F s' f' u').lent.values
idle_unseen F s s' f f' u u' g g' e e' E =
    let A = (values.ready _ F s f u g e).sound in
    let B = (values.ready _ F s' f' u' g' e').sound in
    rw (values_are F s f u g e, values_are F s' f' u' g' e') (preprocess_blind A.shaped A.start B.start E)
