-- What a caller reads from the number of an exported call is the answer of the call's model; any two results are equal. Assumes nothing.
use Prim.Native.Nat.{ℕ}
use mathlib.Core.Path.{◌≡◌, refl, sym, ap, ◌∙◌}
use mathlib.Core.List.{List}
use lib.Ieee.{Float}
use Rattle.field.specs.Answers.{answer_number, Answer}
use Rattle.field.specs.Field.{Field}
use Rattle.calls.specs.Call as any
use Rattle.calls.specs.Values as values
use Rattle.closure.specs.Call as closing
use Rattle.components.specs.Small.{small_parts}
use Rattle.components.specs.Call as components
use Rattle.preprocess.specs.Working as working
use Rattle.preprocess.specs.Call as preprocess
use Rattle.heavy.specs.Rounds as rounding
use Rattle.heavy.specs.Call as heavy
use Rattle.no_effect.specs.Call as effectless
use Rattle.shift.specs.Call as shifting
use Rattle.sub_problem.specs.Call as reducing
use Rattle.mend.specs.Call as mending
use Rattle.anchors.specs.Call as anchoring
use Rattle.pairs.specs.Call as pairing
use Rattle.probe.specs.Call as probing
use Rattle.reason.specs.Call as reasoning
use Rattle.probes.specs.Call as searching
use Rattle.propagation.specs.Call as propagating
use Rattle.allow.specs.Call as allowing
use Rattle.packing.specs.Layout.{Reads, packed_checked, checked_count, packed_answer, packed_counted, packed_paired, paired_grade, paired_count, pairs_examined, packed_reasoned, packed_reduced, reduced_grade, new_entries, new_variables, packed_mended, mended_grade, mended_entries, mended_changes, packed_allowed, allowed_grade, allowed_count}
use Rattle.ombradiec.specs.Exported.{Exported}
use Rattle.ombradiec.specs.Reading.{AnswerRead, CountRead, ReasonRead}
use Rattle.packing.proofs.Reading.{checked_reads, answer_reads, counted_reads, paired_reads, reasoned_reads, reduced_reads, mended_reads, allowed_reads}
use Rattle.ombradiec.proofs.Positions.{values_fit, probe_one_fits, propagate_fits, allow_fits}
use Rattle.ombradiec.proofs.Counts.{closure_fits, no_effect_fits, shift_fits, sub_problem_fits, mend_fits, anchors_fit, pairs_fit, reason_fits}
use Rattle.ombradiec.proofs.Probed.{probe_fits, probe_limited_fits}

-- ---- any call: `answer_in` takes the answer from the record of what a call leaves

module _ {A L : Type 0} {packed : A → ℕ} (answer_in : L → A) {left : A → L} (back : (a : A) → answer_in (left a) ≡ a) {r : ℕ} {call : L} where
  pub answer_is : (e : Exported packed left r call) → e.answer ≡ answer_in call
  answer_is e = sym (back e.answer) ∙ ap answer_in e.leaves

  pub number_is : Exported packed left r call → r ≡ packed (answer_in call)
  number_is e = e.number ∙ ap packed (answer_is e)

  -- what is lent ends as the call says
  pub leaves_is : Exported packed left r call → left (answer_in call) ≡ call
  leaves_is e = ap left (sym (answer_is e)) ∙ e.leaves

-- the same where a call leaves an answer and what was lent
pub number_from : {A L : Type 0} {packed : Answer A → ℕ} {l : L} {r : ℕ} {x : any.Left (Answer A) L} → Exported packed (λ a. any.left a l) r x → r ≡ packed x.answer
number_from {A} {L} e = number_is (λ (x : any.Left (Answer A) L). x.answer) (λ a. refl) e

-- any two results that the promise permits are equal: the number, and what is left
module _ {A L : Type 0} {packed : A → ℕ} (answer_in : L → A) {left left' : A → L} (back : (a : A) → answer_in (left a) ≡ a) (back' : (a : A) → answer_in (left' a) ≡ a) {r r' : ℕ} {call : L} where
  -- Theorem. Any two results that the promise of an exported call permits have the same number.
  pub one_number : Exported packed left r call → Exported packed left' r' call → r ≡ r'
  one_number e e' = number_is answer_in back e ∙ sym (number_is answer_in back' e')

  -- Theorem. Any two results that the promise of an exported call permits leave the same in all that was lent.
  pub one_leaving : Exported packed left r call → Exported packed left' r' call → left (answer_in call) ≡ left' (answer_in call)
  one_leaving e e' = leaves_is answer_in back e ∙ sym (leaves_is answer_in back' e')

-- ---- each call: what is read from its number is the answer of its model

module _ (F : Field) (s : List ℕ) (f : List Float) (u : List ℕ) {s' : List ℕ} {f' : List Float} {u' : List ℕ} {r : ℕ} where
  -- Theorem. What is read from the number of `closure` is the refusal, the grade and the count of its model.
  pub closure_reads : Exported packed_counted (λ a. closing.left a s' f' u') r (closing.closure_call F s f u) → CountRead (closing.closure_call F s f u).answer r
  closure_reads e = rw (number_from e) (counted_reads _ (closure_fits F s f u))

  pub components_reads : Exported packed_answer (λ a. values.left a s' f' u') r (components.components_call F s f u) → AnswerRead (components.components_call F s f u).answer r
  components_reads e = rw (number_from e) (answer_reads _ (values_fit small_parts F s f u))

  pub preprocess_reads : Exported packed_answer (λ a. values.left a s' f' u') r (preprocess.preprocess_call F s f u) → AnswerRead (preprocess.preprocess_call F s f u).answer r
  preprocess_reads e = rw (number_from e) (answer_reads _ (values_fit working.preprocess F s f u))

  pub heavy_reads : Exported packed_answer (λ a. values.left a s' f' u') r (heavy.heavy_call F s f u) → AnswerRead (heavy.heavy_call F s f u).answer r
  heavy_reads e = rw (number_from e) (answer_reads _ (values_fit rounding.heavy F s f u))

  pub probe_one_reads : (i v : ℕ) (t : List ℕ) → Exported packed_answer (λ a. probing.left a s' f' u') r (probing.probe_one_call F s i v t f u)
      → AnswerRead (probing.probe_one_call F s i v t f u).answer r
  probe_one_reads i v t e = rw (number_from e) (answer_reads _ (probe_one_fits F s i v t f u))

  pub probe_reads : (t k : List ℕ) {k' : List ℕ} → Exported packed_counted (λ a. searching.left a s' k' f' u') r (searching.probe_call F s t k f u)
      → CountRead (searching.probe_call F s t k f u).answer r
  probe_reads t k e = rw (number_from e) (counted_reads _ (probe_fits F s t k f u))

  pub probe_limited_reads : (limit : ℕ) (t k : List ℕ) {k' : List ℕ} → Exported packed_counted (λ a. searching.left a s' k' f' u') r (searching.probe_limited_call F s limit t k f u)
      → CountRead (searching.probe_limited_call F s limit t k f u).answer r
  probe_limited_reads limit t k e =
      rw (number_from e) (counted_reads _ (probe_limited_fits F s t k f u limit))

  pub anchors_reads : (least : ℕ) (l : List ℕ) → Exported packed_counted (λ a. anchoring.left a s' f' u') r (anchoring.anchors_call F s least l f u)
      → CountRead (anchoring.anchors_call F s least l f u).answer r
  anchors_reads least l e =
      rw (number_from e) (counted_reads _ (anchors_fit F s least l f u))

  pub pairs_reads : (limit : ℕ) (l : List ℕ) → Exported packed_paired (λ a. pairing.left a s' f' u') r (pairing.pairs_call F s limit l f u)
      → let a = (pairing.pairs_call F s limit l f u).answer in Reads r (answer_number a) (paired_grade a) (paired_count a) (pairs_examined a)
  pairs_reads limit l e =
      rw (number_from e) (paired_reads _ (pairs_fit F s limit l f u).count)

-- of a reason, with the unit and the ground in one part
pub reason_reads : (F : Field) (s : List ℕ) (i : ℕ) (l : List ℕ) (f : List Float) (u : List ℕ) {l' : List ℕ} {f' : List Float} {u' : List ℕ} {r : ℕ}
    → Exported packed_reasoned (λ a. reasoning.left a l' f' u') r (reasoning.reason_call F s i l f u) → ReasonRead (reasoning.reason_call F s i l f u).answer r
reason_reads F s i l f u e = rw (number_from e) (reasoned_reads _ (reason_fits F s i l f u).count)

pub no_effect_reads : (F : Field) (l u : List ℕ) {l' u' : List ℕ} {r : ℕ} → Exported packed_counted (λ a. effectless.left a l' u') r (effectless.no_effect_call F l u)
    → CountRead (effectless.no_effect_call F l u).answer r
no_effect_reads F l u e = rw (number_from e) (counted_reads _ (no_effect_fits F l u))

pub shift_reads : (F : Field) {G : Field} {r : ℕ} → Exported packed_counted (λ a. shifting.left a G) r (shifting.shift_call F) → CountRead (shifting.shift_call F).answer r
shift_reads F e = rw (number_from e) (counted_reads _ (shift_fits F))

-- Theorem. What is read from the number of `sub_problem` is the refusal, the grade, the new m and the new n of its model.
pub sub_problem_reads : (F : Field) (s l : List ℕ) (f : List Float) (u : List ℕ) {G : Field} {l' : List ℕ} {f' : List Float} {u' : List ℕ} {r : ℕ}
    → Exported packed_reduced (λ a. reducing.left a G l' f' u') r (reducing.sub_problem_call F s l f u)
    → let a = (reducing.sub_problem_call F s l f u).answer in Reads r (answer_number a) (reduced_grade a) (new_entries a) (new_variables a)
sub_problem_reads F s l f u e =
    rw (number_from e) (reduced_reads _ (sub_problem_fits F s l f u).count)

-- Theorem. What is read from the number of `mend` is the refusal, the grade, the new m and the changes of its model.
pub mend_reads : (F : Field) (report : List ℕ) (f : List Float) (u : List ℕ) {rows' cols' : List ℕ} {q' : List Float} {report' : List ℕ} {f' : List Float} {u' : List ℕ} {r : ℕ}
    → Exported packed_mended (λ a. mending.left a rows' cols' q' report' f' u') r (mending.mend_call F report f u)
    → let a = (mending.mend_call F report f u).answer in Reads r (answer_number a) (mended_grade a) (mended_entries a) (mended_changes a)
mend_reads F report f u e = rw (number_from e) (mended_reads _ (mend_fits F report f u).count)

pub propagate_reads : (s list u : List ℕ) {s' u' : List ℕ} {r : ℕ} → Exported packed_checked (λ a. propagating.left a s' u') r (propagating.propagate_call s list u)
    → let a = (propagating.propagate_call s list u).answer in Reads r (answer_number a) 0 (checked_count a) 0
propagate_reads s list u e = rw (number_from e) (checked_reads _ (propagate_fits s list u))

-- Theorem. What is read from the number of `allow` is its refusal, yes as 1 in place of the grade, and the variable that a no names.
pub allow_reads : (n : ℕ) (list a c w u : List ℕ) {a' c' w' u' : List ℕ} {r : ℕ} → Exported packed_allowed (λ x. allowing.left x a' c' w' u') r (allowing.allow_call n list a c w u)
    → let x = (allowing.allow_call n list a c w u).answer in Reads r (answer_number x) (allowed_grade x) (allowed_count x) 0
allow_reads n list a c w u e = rw (number_from e) (allowed_reads _ (allow_fits n list a c w u))
