-- What the call's tests mean, and what its answers are told apart by. Assumes nothing.
use Rattle.reason.specs.declared.Reasoned.{Reasoned}
use Rattle.calls.proofs.Answers.{same_done}
use Prim.Native.Nat.{ℕ, ◌<◌, ◌≤◌}
use mathlib.Core.Path.{◌≡◌, refl, sym, ap, ◌∙◌}
use mathlib.Core.Logic.{◌≢◌, ◌⊎◌, inl, inr, ⊎_elim, ◌↔◌}
use mathlib.Core.Bool.{Bool, true, false, cond, not, ◌&&◌}
use mathlib.Core.List.{List, [], ◌∷◌}
use native.Mathlib.Omega.{arith}
use borrow.Author.Tests.{eq-eqb, eqb-true, ltb-true, lt-ltb}
use lib.Dec.{ltb}
use lib.ListN.{length, get_or}
use Rattle.scratch.proofs.Means.{lt_is, ne_is, both_is}
use Rattle.meaning.specs.Free.{is_free}
use Rattle.field.specs.declared.Grade.TheVariants.{Exact, Inexact as NotExact}
use Rattle.field.specs.declared.Refusal.{Refusal}
use Rattle.field.specs.declared.Refusal.TheVariants.{Inexact, Unforced, Room}
use Rattle.field.specs.Answers.{number_of}
use Rattle.field.specs.Field.{Field, variables}
use Rattle.field.specs.Table.{Test, test, FirstToFail, fails, passes}
use Rattle.field.specs.Tests.{ready_tests, standard_tests, shape_tests}
use Rattle.field.specs.Grade.{is_exact_of, grade_of}
use Rattle.field.proofs.Exact.{unit_within}
use Rattle.field.proofs.Faults.{fault_other}
use Rattle.calls.specs.Call.{without}
use Rattle.calls.proofs.Call.{never_first}
use Rattle.run.specs.Run.{closure}
use Rattle.reason.specs.declared.Ground.{Ground}
use Rattle.reason.specs.Until.{basis}
use Rattle.reason.specs.Listed.{listed_of}
use Rattle.reason.specs.Ground.{least_unit, reason_list}
use Rattle.reason.specs.Call.{has_value}
use Rattle.reason.proofs.Listed.{listed_few}
use Rattle.reason.specs.Answers.{reasoned_answer}

-- ---- what the answers are told apart by

pub same_because : {g h : Ground} {k j m n : ℕ} → reasoned_answer g k m ≡ reasoned_answer h j n → (g ≡ h) × ((k ≡ j) × (m ≡ n))
same_because e =
    let z = same_done e in
    (ap (λ (x : Reasoned). x.because) z, (ap (λ (x : Reasoned). x.unit) z, ap (λ (x : Reasoned). x.count) z))

-- none of the closure's tests gives 12 or 13
pub never_inexact : (F : Field) (s : List ℕ) (floats words : ℕ) → without Inexact (ready_tests F s floats words) ≡ true
unfolding without ready_tests standard_tests shape_tests
never_inexact F s floats words = rw (fault_other (variables F) F.rows F.cols 12 (omega arith)) refl

pub never_unforced : (F : Field) (s : List ℕ) (floats words : ℕ) → without Unforced (ready_tests F s floats words) ≡ true
unfolding without ready_tests standard_tests shape_tests
never_unforced F s floats words = rw (fault_other (variables F) F.rows F.cols 13 (omega arith)) refl

-- what the later tests mean
pub exact_true : (F : Field) → (is_exact_of F ≡ true) ↔ (grade_of F ≡ Exact)
unfolding grade_of
exact_true F = go (is_exact_of F)
  where
    go : (b : Bool) → (b ≡ true) ↔ (cond b Exact NotExact ≡ Exact)
    go true = ((λ e. refl), λ e. refl)
    go false = ((λ e. let z : ◌≡◌ {A = ℕ} 0 1 = cc in absurd (omega arith)), λ e. let z : false ≡ true = cc in z)

pub exact_false : (F : Field) → (is_exact_of F ≡ false) ↔ (grade_of F ≡ NotExact)
unfolding grade_of
exact_false F = go (is_exact_of F)
  where
    go : (b : Bool) → (b ≡ false) ↔ (cond b Exact NotExact ≡ NotExact)
    go true = ((λ e. let z : ◌≡◌ {A = ℕ} 0 1 = cc in absurd (omega arith)), λ e. let z : true ≡ false = cc in z)
    go false = ((λ e. refl), λ e. refl)

pub value_true : (F : Field) (s : List ℕ) (i : ℕ) → (has_value F s i ≡ true) ↔ ((i < variables F) × (get_or (closure F s) i 0 ≢ 2))
unfolding has_value
value_true F s i = both_is (ltb i (variables F)) (not (is_free (closure F s) i)) (lt_is i (variables F)) (ne_is (get_or (closure F s) i 0) 2)

pub value_false : (F : Field) (s : List ℕ) (i : ℕ) → (has_value F s i ≡ false) ↔ (i < variables F → get_or (closure F s) i 0 ≡ 2)
unfolding has_value
value_false F s i = (to (ltb i (variables F)) (is_free (closure F s) i) refl refl, λ h. from (ltb i (variables F)) refl h)
  where
    to : (x y : Bool) → ltb i (variables F) ≡ x → is_free (closure F s) i ≡ y → (x && not y) ≡ false → i < variables F → get_or (closure F s) i 0 ≡ 2
    to true true p q e l = eqb-true _ _ q
    to true false p q e l = let z : ◌≡◌ {A = ℕ} 0 1 = cc in absurd (omega arith)
    to false y p q e l = let z : true ≡ false = sym (lt-ltb i (variables F) l) ∙ p in let w : ◌≡◌ {A = ℕ} 0 1 = cc in absurd (omega arith)

    from : (x : Bool) → ltb i (variables F) ≡ x → (i < variables F → get_or (closure F s) i 0 ≡ 2) → (x && not (is_free (closure F s) i)) ≡ false
    from true p h = rw (eq-eqb (get_or (closure F s) i 0) 2 (h (ltb-true _ _ p))) refl
    from false p h = refl

-- ---- which of the later tests is the first to fail

pub apart_numbers : {A : Type 0} {r t : Refusal} → number_of r ≢ number_of t → r ≡ t → A
apart_numbers n e = absurd (n (ap number_of e))

first_of : {t : Test} {ts : List Test} {r : Refusal} → FirstToFail (t ∷ ts) r → ((t.passes ≡ false) × (r ≡ t.refusal)) ⊎ ((t.passes ≡ true) × FirstToFail ts r)
first_of (fails p) = inl (p, refl)
first_of (passes p h) = inr (p, h)

module _ {a b c : Bool} where
  pub first_inexact : FirstToFail (test Inexact a ∷ test Unforced b ∷ test Room c ∷ []) Inexact → a ≡ false
  unfolding without
  first_inexact h = ⊎_elim (λ x. x.0) (λ x. absurd (never_first (test Unforced b ∷ test Room c ∷ []) Inexact refl x.1)) (first_of h)

  pub first_unforced : FirstToFail (test Inexact a ∷ test Unforced b ∷ test Room c ∷ []) Unforced → (a ≡ true) × (b ≡ false)
  unfolding without
  first_unforced h = ⊎_elim
      (λ x. apart_numbers (λ e. omega arith) x.1)
      (λ x. ⊎_elim (λ y. (x.0, y.0)) (λ y. absurd (never_first (test Room c ∷ []) Unforced refl y.1)) (first_of x.1))
      (first_of h)

  pub first_room : FirstToFail (test Inexact a ∷ test Unforced b ∷ test Room c ∷ []) Room → (a ≡ true) × ((b ≡ true) × (c ≡ false))
  unfolding without
  first_room h = ⊎_elim
      (λ x. apart_numbers (λ e. omega arith) x.1)
      (λ x. ⊎_elim
      (λ y. apart_numbers (λ e. omega arith) y.1)
      (λ y. ⊎_elim (λ z. (x.0, (y.0, z.0))) (λ z. absurd (never_first [] Room refl z.1)) (first_of y.1))
      (first_of x.1))
      (first_of h)

-- ---- how large the parts of an answer are

pub list_few : (F : Field) (s : List ℕ) (i : ℕ) → length (reason_list F s i) ≤ variables F
unfolding reason_list listed_of
list_few F s i = go (is_free s i)
  where
    go : (b : Bool) → length (cond b (listed_of F (basis F s i) i) []) ≤ variables F
    go true = listed_few F (basis F s i) i (variables F)
    go false = omega arith

pub unit_few : (F : Field) → least_unit F ≤ 41
unit_few F = omega (arith, (unit_within F refl).1)
