-- The answer's text from what its parts promise: the parsed field, the call `closure`, and the writers. Assumes nothing.
use Rattle.calls.proofs.Answers.{same_counted}
use Prim.Native.Nat.{ℕ, ◌+◌, ◌*◌, ◌<◌, ◌≤◌}
use mathlib.Core.Path.{◌≡◌, refl, sym, ap, ◌∙◌}
use mathlib.Core.Bool.{Bool, true, false, cond, ◌&&◌}
use mathlib.Core.List.{List, [], ◌∷◌, ◌++◌}
use native.Mathlib.Omega.{arith}
use borrow.Author.Tests.{eq-eqb, ne_eqb}
use lib.Dec.{eqb}
use lib.ListN.{length, take}
use lib.Ieee.{Float}
use Rattle.std.specs.Prelude.{Option, Some, None, Err, Ok}
use Rattle.weights.specs.Worth.{zero64}
use Rattle.scratch.specs.Cleared.{cleared}
use Rattle.field.specs.declared.Counted.{Counted}
use Rattle.field.specs.declared.Grade.{Grade}
use Rattle.field.specs.declared.Refusal.{Refusal}
use Rattle.field.specs.declared.Refusal.TheVariants.{Scratch}
use Rattle.field.specs.Answers.{number_of, counted_answer, Answer, passed}
use Rattle.field.specs.Field.{Field, variables, entries}
use Rattle.field.specs.Table.{Test, test, tested}
use Rattle.field.specs.Tests.{floats_fit, words_fit, standard_tests, ready_tests}
use Rattle.field.specs.Grade.{grade_of}
use Rattle.field.proofs.Answers.{number_most}
use Rattle.field.proofs.Means.{floats_mean, words_mean}
use Rattle.field.proofs.Table.{test_ok, none_left, group_no, group_ok}
use Rattle.calls.specs.Values.{counts}
use Rattle.calls.proofs.ValuesBy.{refused_call, done_call}
use Rattle.run.specs.Run.{closure}
use Rattle.closure.specs.Call.{Left, left, flat, closure_call}
use Rattle.records.specs.Told.{Told, parsed}
use Rattle.records.specs.Parsing.{front, answer_of, Parses}
use Rattle.text.specs.Text.{refused_text, answer_text}
use Rattle.answering.specs.Answer.{checked_text, field_text, told_text, outcome_text, answer_bytes, Enough, Fits, Fronted, front_field}
use Rattle.records.specs.declared.parsing.Parsed.{Parsed}
use Rattle.records.proofs.Front.{field_whole, field_end, field_fronts}

-- ---- a refusal's number

pub refusal_small : {a : Answer Counted} {r : Refusal} {n : ℕ} → a ≡ Err r → n ≡ number_of r → n < 1000
refusal_small {r = r} e same = omega (arith, number_most r)

-- ---- the field's text

-- test 8 cannot fail where the scratch is as long as the table asks: then the tests 1 to 6 decide
pub scratch_fits : (F : Field) (s : List ℕ) {f u : ℕ} → 8 * variables F + 4 * entries F + 16 ≤ f → 16 * variables F + 8 * entries F + 16 ≤ u
    → tested (ready_tests F s f u) ≡ tested (standard_tests F s)
unfolding ready_tests
scratch_fits F s {f} {u} floats words = go (tested (standard_tests F s)) refl
  where
    eighth : List Test
    eighth = test Scratch (floats_fit (variables F) (entries F) f) ∷ test Scratch (words_fit (variables F) (entries F) u) ∷ []

    passes : passed ≡ tested eighth
    passes = test_ok Scratch _ ((floats_mean (variables F) (entries F) f).1 floats) (test_ok Scratch [] ((words_mean (variables F) (entries F) u).1 words) none_left)

    go : (k : Answer Unit) → tested (standard_tests F s) ≡ k → tested (standard_tests F s ++ eighth) ≡ tested (standard_tests F s)
    go (Ok x) e = sym (group_ok (standard_tests F s) eighth e passes) ∙ sym e
    go (Err r) e = sym (group_no (standard_tests F s) eighth e) ∙ sym e

-- what the closure's call says, of the start values in a copy and with scratch as long as the table asks
module _ (F : Field) (f : List Float) (u : List ℕ) {s v v' : List ℕ} {f' : List Float} {u' : List ℕ} {a : Answer Counted}
    (floats : 8 * variables F + 4 * entries F + 16 ≤ length f) (words : 16 * variables F + 8 * entries F + 16 ≤ length u)
    (same : v ≡ s) (call : left a v' f' u' ≡ closure_call F v f u) where
  decided : left a v' f' u' ≡ closure_call F s f u
  decided = call ∙ ap (λ (l : List ℕ). closure_call F l f u) same

  ready : tested (ready_tests F s (length f) (length u)) ≡ tested (standard_tests F s)
  ready = scratch_fits F s floats words

  -- what is left, where the tests pass and where one fails
  done_left : tested (ready_tests F s (length f) (length u)) ≡ passed → left a v' f' u' ≡ left (counted_answer (grade_of F) (flat F s)) (closure F s) (cleared zero64 f) (cleared 0 u)
  done_left p = decided ∙ sym (done_call (counts flat) closure F s f u refl p refl refl refl refl refl refl)

  refused_left : {r : Refusal} → tested (ready_tests F s (length f) (length u)) ≡ Err r → left a v' f' u' ≡ left (Err r) s f u
  refused_left p = decided ∙ sym (refused_call (counts flat) closure F s f u refl p)

  pub done_is : {g : Grade} {n : ℕ} → a ≡ counted_answer g n → (tested (standard_tests F s) ≡ passed) × (g ≡ grade_of F) × (v' ≡ closure F s)
  done_is {g} e = by (tested (standard_tests F s)) ready
    where
      by : (k : Answer Unit) → tested (ready_tests F s (length f) (length u)) ≡ k → (k ≡ passed) × (g ≡ grade_of F) × (v' ≡ closure F s)
      by (Ok x) p = (refl, (same_counted (sym e ∙ ap (λ (l : Left). l.answer) (done_left p))).0, ap (λ (l : Left). l.lent.values) (done_left p))
      by (Err r) p = let z : ◌≡◌ {A = ℕ} 0 1 = cc (ap (λ (l : Left). l.answer) (refused_left p)) in absurd (omega arith)

  pub refused_is : {r : Refusal} → a ≡ Err r → tested (standard_tests F s) ≡ Err r
  refused_is {r} e = by (tested (standard_tests F s)) ready
    where
      by : (k : Answer Unit) → tested (ready_tests F s (length f) (length u)) ≡ k → k ≡ Err r
      by (Ok x) p = let z : ◌≡◌ {A = ℕ} 0 1 = cc (ap (λ (l : Left). l.answer) (done_left p)) in absurd (omega arith)
      by (Err t) p = let z : r ≡ t = cc (ap (λ (l : Left). l.answer) (refused_left p)) in ap Err (sym z)

module _ (f : List Float) (u : List ℕ) {F : Field} {s v v' : List ℕ} {f' : List Float} {u' : List ℕ} {k out : ℕ} {a : Answer Counted}
    (fits : Fits F s k) (enough : Enough (length f) (length u) out) (same : v ≡ s) (call : left a v' f' u' ≡ closure_call F v f u) where
  floats : 8 * variables F + 4 * entries F + 16 ≤ length f
  floats = omega (arith, fits.few_variables, fits.few_entries, enough.floats)

  words : 16 * variables F + 8 * entries F + 16 ≤ length u
  words = omega (arith, fits.few_variables, fits.few_entries, enough.words)

  pub done_text : {g : Grade} {n : ℕ} → a ≡ counted_answer g n → answer_text g s v' ≡ field_text F s
  unfolding field_text checked_text
  done_text e = let is = done_is F f u floats words same call e in rw is.0 (rw (is.1, is.2))

  pub refused_text_lem : {r : Refusal} → a ≡ Err r → refused_text (number_of r) ≡ field_text F s
  unfolding field_text checked_text
  refused_text_lem e = rw (refused_is F f u floats words same call e)

-- ---- the input's text

module _ {s : List ℕ} {p p' : Told} {r : Option Parsed} (done : Parses s p r p') where
  pub found_fronted : {n m end : ℕ} → r ≡ Some (front n m end) → Fronted n m p'
  found_fronted e = let at = field_fronts done e in record {
    few_variables = omega (arith, at.variables, at.within.few_variables);
    few_entries = omega (arith, at.entries, at.within.few_entries);
    linear = omega (arith, at.variables, ap length at.linear);
    rows = omega (arith, at.entries, ap length at.rows, at.within.rows);
    cols = omega (arith, at.entries, ap length at.cols, at.within.cols);
    quad = omega (arith, at.entries, ap length at.quad);
    start = omega (arith, at.variables, ap length at.start, at.within.start);
  }

  pub field_text_lem : {n m end : ℕ} → r ≡ Some (front n m end) → length s ≤ end → field_text (front_field n m p') (take n p'.start) ≡ answer_bytes s
  unfolding answer_bytes
  field_text_lem {end = end} e last =
      let at = field_fronts done e in
      let all : end ≡ length s = omega (arith, (field_end done e).reached) in
      let text : outcome_text (length s) (parsed s) ≡ told_text (parsed s).told =
      ap (outcome_text (length s)) (field_whole done e) ∙ simp (eq-eqb end (length s) all) in
      rw (at.linear, at.rows, at.cols, at.quad, at.start) (sym text)

  pub longer_text : {n m end : ℕ} → r ≡ Some (front n m end) → end < length s → refused_text 11 ≡ answer_bytes s
  unfolding answer_bytes
  longer_text {end = end} e more =
      sym (ap (outcome_text (length s)) (field_whole done e) ∙ simp (ne_eqb end (length s) (λ z. omega (arith, z, more))))

  pub malformed_text : r ≡ None → refused_text 11 ≡ answer_bytes s
  unfolding answer_bytes
  malformed_text e = by (parsed s).whole (sym e ∙ done.answer)
    where
      by : (b : Bool) → None ≡ answer_of b (parsed s).told (parsed s).end
          → refused_text 11 ≡ cond (b && eqb (parsed s).end (length s)) (told_text (parsed s).told) (refused_text 11)
      by true q = let z : ◌≡◌ {A = ℕ} 0 1 = cc in absurd (omega arith)
      by false q = refl
