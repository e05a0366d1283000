-- What the program answers, in plain words, and that the bytes that it reads decide it. Assumes nothing.
use Prim.Native.Nat.{ℕ, zero, suc, ◌/◌, ◌<◌, ◌≤◌}
use mathlib.Core.Path.{◌≡◌, refl, sym, ap, ◌∙◌}
use mathlib.Core.Logic.{◌≢◌, ◌⊎◌, inl, inr, ◌↔◌}
use mathlib.Core.Bool.{Bool, true, false, cond, ◌&&◌, true≢false}
use mathlib.Core.List.{List, [], ◌∷◌, ◌++◌}
use native.Mathlib.Omega.{arith}
use borrow.Author.Tests.{ltb-true, ltb-false, lt-ltb, eq-eqb, eqb-true}
use lib.Dec.{eqb, ltb}
use lib.ListN.{length, get_or, set, take}
use lib.Seq.{take_all, length-take-le}
use Rattle.field.specs.declared.Grade.{Grade}
use Rattle.field.specs.declared.Grade.TheVariants.{Exact, Inexact}
use Rattle.field.specs.declared.Refusal.{Refusal}
use Rattle.field.specs.declared.Refusal.TheVariants.{Diagonal, Weights}
use Rattle.field.specs.Answers.{number_of, Answer, passed}
use Rattle.field.specs.Field.{Field}
use Rattle.field.specs.Faults.{Fault}
use Rattle.field.specs.Grade.{grade_of}
use Rattle.field.specs.Table.{FirstToFail, fails, passes, tested}
use Rattle.field.specs.Tests.{shape_tests, standard_tests, Sound}
use Rattle.field.proofs.Answers.{number_most, number_other}
use Rattle.field.proofs.Faults.{fault_means}
use Rattle.field.proofs.Means.{few_means, lists_mean, start_means, standard_passes}
use Rattle.field.proofs.Exact.{exact_means}
use Rattle.field.proofs.Table.{first_refuses}
use Rattle.run.specs.Run.{closure}
use Rattle.run.proofs.Theorems.{closure_is_closure}
use Rattle.text.specs.Text.{digits, decimal, refused_text, grade_line, answer_text}
use Rattle.records.specs.Told.{Told, field_told, outcome, parsed}
use Rattle.records.specs.WellFormed.{Item, weight, entry, given, tells, Fine, Tells, none, next, WellFormed, longest_input}
use Rattle.answering.specs.Answer.{checked_text, field_text, told_text, outcome_text, answer_bytes, Answered, ShowsClosure}
use Rattle.records.proofs.Laid.{Within}
use Rattle.records.proofs.Means.{whole_means}
use Rattle.records.proofs.Longest.{told_within, longest_field}
use Rattle.std.specs.Prelude.{Err, Ok}

-- ---- the answer

-- a sound field and its start values: the grade, and what the closure forces
pub sound_text : (t : Told) → Sound (field_told t) t.start → told_text t ≡ answer_text (grade_of (field_told t)) t.start (closure (field_told t) t.start)
unfolding field_text checked_text
sound_text t sound = rw ((standard_passes (field_told t) t.start).1 sound)

-- Theorem. What fails a test gets the number of the first of the tests that fails.
pub failed_text : (t : Told) {r : Refusal} → FirstToFail (standard_tests (field_told t) t.start) r → told_text t ≡ refused_text (number_of r)
unfolding field_text checked_text
failed_text t first = rw (first_refuses first)

module _ (s : List ℕ) (bytes : (i : ℕ) → get_or s i 0 < 256) where
  -- Theorem. THE ANSWER: a well-formed input gets the text of what it tells, and any other `refused 11`.
  pub answer_exactly : Answered s (answer_bytes s)
  unfolding answer_bytes
  answer_exactly = record {
    told = λ u w. ap (outcome_text (length s)) ((whole_means s bytes u).1 w) ∙ simp (eq-eqb (length s) (length s) refl);
    other = λ not-one. by not-one (parsed s).whole (eqb (parsed s).end (length s)) refl refl;
  }
    where
      by : ((u : Told) → WellFormed s u → ⊥) → (b d : Bool) → (parsed s).whole ≡ b → eqb (parsed s).end (length s) ≡ d
          → cond (b && d) (told_text (parsed s).told) (refused_text 11) ≡ refused_text 11
      by not-one true true e last =
          let all = eqb-true (parsed s).end (length s) last in
          absurd (not-one (parsed s).told ((whole_means s bytes (parsed s).told).0
          (ap (λ (b : Bool). outcome b (parsed s).told (parsed s).end) e ∙ ap (outcome true (parsed s).told) all)))
      by not-one true false e last = refl
      by not-one false d e last = refl

-- ---- the closure over whole numbers

module _ (F : Field) (s : List ℕ) where
  -- the first letter tells a refusal from a grade, and the seventh one grade from the other
  says_exact : take 12 (field_text F s) ≡ grade_line Exact → (tested (standard_tests F s) ≡ passed) × (grade_of F ≡ Exact)
  unfolding field_text checked_text answer_text grade_line refused_text
  says_exact = by (tested (standard_tests F s))
    where
      told : (g : Grade) → take 12 (answer_text g s (closure F s)) ≡ grade_line Exact → g ≡ Exact
      told Exact e = refl
      told Inexact e = absurd (omega (arith, ap (λ (l : List ℕ). get_or l 6 0) e))

      by : (k : Answer Unit) → take 12 (checked_text k F s) ≡ grade_line Exact → (k ≡ passed) × (grade_of F ≡ Exact)
      by (Ok x) e = (refl, told (grade_of F) e)
      by (Err r) e = absurd (omega (arith, ap (λ (l : List ℕ). get_or l 0 0) e))

module _ (s : List ℕ) (bytes : (i : ℕ) → get_or s i 0 < 256) (u : Told) (w : WellFormed s u) where
  -- Theorem. DEMAND 2. Where the answer is `grade exact`, its x lines are the gradient closure over whole numbers, no more and no fewer.
  pub exact_shows : take 12 (answer_bytes s) ≡ grade_line Exact → ShowsClosure (field_told u) u.start (answer_bytes s)
  exact_shows e =
      let text : answer_bytes s ≡ told_text u = (answer_exactly s bytes).told u w in
      let says = says_exact (field_told u) u.start (ap (take 12) (sym text) ∙ e) in
      let sound = (standard_passes (field_told u) u.start).0 says.0 in
      record {
        values = closure (field_told u) u.start;
        unit_serves = (exact_means (field_told u) sound.shaped.rows_long).0 says.1;
        closes = λ unit v. closure_is_closure sound.shaped v.exact sound.start;
        shown = text ∙ sound_text u sound ∙ ap (λ (g : Grade). answer_text g u.start (closure (field_told u) u.start)) says.1;
      }

-- ---- the longest input

module _ (s : List ℕ) (bytes : (i : ℕ) → get_or s i 0 < 256) where
  -- Theorem. No well-formed input is longer than 256 weights, 1,024 entries, 256 given values and the end.
  pub longest : (u : Told) → WellFormed s u → length s ≤ longest_input
  longest u w = omega (arith, longest_field w)

  longer : longest_input < length s → answer_bytes s ≡ refused_text 11
  longer long = (answer_exactly s bytes).other (λ u w. omega (arith, longest u w))

take_bytes : (n : ℕ) (s : List ℕ) → ((i : ℕ) → get_or s i 0 < 256) → (i : ℕ) → get_or (take n s) i 0 < 256
take_bytes zero s bytes i = omega arith
take_bytes (suc n) [] bytes i = omega arith
take_bytes (suc n) (x ∷ s) bytes zero = bytes zero
take_bytes (suc n) (x ∷ s) bytes (suc i) = take_bytes n s (λ j. bytes (suc j)) i

-- Theorem. One byte more than the longest well-formed input decides: what follows changes nothing.
pub answer_decided : (s : List ℕ) → ((i : ℕ) → get_or s i 0 < 256) → (n : ℕ) → longest_input < n → answer_bytes (take n s) ≡ answer_bytes s
answer_decided s bytes n enough = by (ltb n (length s)) refl
  where
    by : (b : Bool) → ltb n (length s) ≡ b → answer_bytes (take n s) ≡ answer_bytes s
    by true e =
        let cut : n < length s = ltb-true n (length s) e in
        longer (take n s) (take_bytes n s bytes) (omega (arith, length-take-le n s (omega arith))) ∙ sym (longer s bytes (omega arith))
    by false e = ap answer_bytes (take_all n s (ltb-false n (length s) e))

-- ---- which numbers are printed

-- a byte that a record gives is 0 or 1, and any other is 2
push_small : (s : List ℕ) → ((i : ℕ) → get_or s i 0 ≤ 2) → (i : ℕ) → get_or (s ++ 2 ∷ []) i 0 ≤ 2
push_small [] h zero = omega arith
push_small [] h (suc i) = omega arith
push_small (x ∷ s) h zero = h zero
push_small (x ∷ s) h (suc i) = push_small s (λ j. h (suc j)) i

set_small : (s : List ℕ) (v b : ℕ) → b < 2 → ((i : ℕ) → get_or s i 0 ≤ 2) → (i : ℕ) → get_or (set s v b) i 0 ≤ 2
set_small [] v b small h i = omega arith
set_small (x ∷ s) zero b small h zero = omega arith
set_small (x ∷ s) zero b small h (suc i) = h (suc i)
set_small (x ∷ s) (suc v) b small h zero = h zero
set_small (x ∷ s) (suc v) b small h (suc i) = set_small s v b small (λ j. h (suc j)) i

item_small : (t : Told) (i : Item) → Fine t i → ((k : ℕ) → get_or t.start k 0 ≤ 2) → (k : ℕ) → get_or (tells i t).start k 0 ≤ 2
unfolding tells Fine
item_small t (weight bits) f h = push_small t.start h
item_small t (entry row col bits) f h = h
item_small t (given v b) f h = set_small t.start v b f.3 h

start_small : {t u : Told} {items : List Item} → Tells t items u → ((k : ℕ) → get_or t.start k 0 ≤ 2) → (k : ℕ) → get_or u.start k 0 ≤ 2
start_small none h = h
start_small (next {t} {u} {i} f rest) h = start_small rest (item_small t i f h)

-- Theorem. The limits of records are narrower than those of tests 1 and 2, and their start values pass test 6: 14 to 17, 4 and 5 are left.
pub only_six : (s : List ℕ) → ((i : ℕ) → get_or s i 0 < 256) → (u : Told) {r : Refusal} → WellFormed s u → FirstToFail (standard_tests (field_told u) u.start) r
    → Fault (length u.linear) u.rows u.cols r ⊎ ((r ≡ Diagonal) ⊎ (r ≡ Weights))
unfolding standard_tests shape_tests
only_six s bytes u w first = by first
  where
    within : Within u
    within = told_within w

    never : {A : Type 0} {b : Bool} → b ≡ true → b ≡ false → A
    never p q = absurd (true≢false (sym p ∙ q))

    by : {r : Refusal} → FirstToFail (standard_tests (field_told u) u.start) r → Fault (length u.linear) u.rows u.cols r ⊎ ((r ≡ Diagonal) ⊎ (r ≡ Weights))
    by (fails e) = never ((few_means (length u.linear)).1 (omega (arith, within.few_variables))) e
    by (passes _ (fails e)) = never ((lists_mean u.rows u.cols u.quad).1 (within.rows, (within.cols, omega (arith, within.few_entries)))) e
    by (passes _ (passes _ (fails e))) = inl ((fault_means (length u.linear) u.rows u.cols (within.rows ∙ sym within.cols) _).0 (e, refl))
    by (passes _ (passes _ (passes _ (fails e)))) = inr (inl refl)
    by (passes _ (passes _ (passes _ (passes _ (fails e))))) = inr (inr refl)
    by (passes _ (passes _ (passes _ (passes _ (passes _ (fails e)))))) =
        never ((start_means (length u.linear) u.start).1 (record { long = within.start; small = start_small w.told (λ k. omega arith) })) e
    by (passes _ (passes _ (passes _ (passes _ (passes _ (passes _ x48)))))) = elim x48 [ ]

-- the second byte after `refused ` tells 11 from any number of the table
not_eleven : (k : Answer Unit) (F : Field) (s : List ℕ) → checked_text k F s ≢ refused_text 11
unfolding checked_text answer_text grade_line refused_text decimal digits
not_eleven (Ok x) F s e = by (grade_of F) (ap (λ (l : List ℕ). get_or l 0 0) e)
  where
    by : (g : Grade) → get_or (answer_text g s (closure F s)) 0 0 ≡ 114 → ⊥
    by Exact q = omega arith
    by Inexact q = omega arith
not_eleven (Err r) F s e = by (number_of r) (number_most r) (number_other r).1 (ap (λ (l : List ℕ). get_or l 9 0) e)
  where
    by : (n : ℕ) → n ≤ 18 → n ≢ 11 → get_or (refused_text n) 9 0 ≡ 49 → ⊥
    by n few other q = go (ltb n 10) refl
      where
        go : (b : Bool) → ltb n 10 ≡ b → ⊥
        go true l = let below : n < 10 = ltb-true n 10 l in omega (arith, simp (lt-ltb n 10 below) at q)
        go false l =
            let above : 10 ≤ n = ltb-false n 10 l in
            other (omega (arith, simp (l, lt-ltb (n / 10) 10 (omega arith)) at q))

-- Theorem. `refused 11` is printed exactly if the input is not well-formed.
pub eleven_exactly : (s : List ℕ) → ((i : ℕ) → get_or s i 0 < 256) → (answer_bytes s ≡ refused_text 11) ↔ ((u : Told) → WellFormed s u → ⊥)
unfolding field_text
eleven_exactly s bytes = ((λ e u w. not_eleven _ (field_told u) u.start (sym ((answer_exactly s bytes).told u w) ∙ e)), (answer_exactly s bytes).other)
