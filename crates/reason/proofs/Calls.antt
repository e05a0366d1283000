-- How the code meets the promise of the call. Assumes nothing.
use Prim.Native.Nat.{ℕ, ◌+◌, ◌<◌, ◌≤◌}
use mathlib.Core.Path.{◌≡◌, refl, sym, ap, ◌∙◌}
use mathlib.Core.Logic.{◌≢◌, ⊎_elim}
use mathlib.Core.Bool.{Bool, true, false, cond}
use mathlib.Core.List.{List, [], ◌∷◌}
use native.Mathlib.Omega.{arith}
use borrow.Author.Tests.{eq-eqb, ne_eqb, eqb-true, eqb-false, ltb-true, ltb-false, lt-ltb, le-ltb, le-leb, lt-leb}
use lib.Dec.{leb, ltb}
use lib.ListN.{length, get_or, take, replicate, length-set, length-replicate}
use lib.Seq.{length-take-le}
use lib.Ieee.{Float}
use Rattle.weights.specs.Worth.{zero64}
use Rattle.scratch.specs.Cleared.{cleared}
use Rattle.scratch.specs.Over.{over}
use Rattle.meaning.specs.Free.{is_free}
use Rattle.field.specs.declared.Refusal.{Refusal}
use Rattle.field.specs.declared.Refusal.TheVariants.{Inexact, Unforced, Room}
use Rattle.field.specs.Field.{Field, field_of, variables, Shaped, StartFor}
use Rattle.field.specs.Table.{tested}
use Rattle.field.specs.Tests.{ready_tests, Ready}
use Rattle.field.specs.Grade.{coarsest, serves, unit_of, is_exact_of, grade_of, Serves}
use Rattle.field.specs.Reading.{whole_of}
use Rattle.field.proofs.Exact.{exact_means, unit_within}
use Rattle.field.proofs.Means.{diagonal_means, ready_passes}
use Rattle.calls.specs.Call.{run}
use Rattle.calls.proofs.Usual as usual
use Rattle.rows.specs.Row.{judge_of}
use Rattle.rows.specs.Model.{row_of}
use Rattle.run.specs.Run.{closure}
use Rattle.run.proofs.Theorems.{closure_extends}
use Rattle.reason.specs.declared.Ground.{Ground}
use Rattle.reason.specs.declared.Ground.TheVariants.{Given, Lower, Upper}
use Rattle.reason.specs.declared.Reasoned.{Reasoned}
use Rattle.reason.specs.Until.{basis}
use Rattle.reason.specs.Listed.{listed_of}
use Rattle.reason.specs.Ground.{least_unit, ground_of, reason_of, reason_list, Says, above, below}
use Rattle.reason.specs.Stages.{mark_all, marks_of, threes, Told, told, fitted, with_list, free_told, told_of, graded_told}
use Rattle.reason.specs.Call.{Left, left, has_value, fits, later_stages, because, reason_call}
use Rattle.reason.proofs.Marks.{marks_listed, threes_listed}
use Rattle.reason.proofs.Theorems.{basis_start, reason_says}
use Rattle.reason.proofs.Unforced.{unforced_given}
use Rattle.field.specs.Answers.{Answer, passed}
use Rattle.std.specs.Prelude.{Err}
use Rattle.reason.specs.Answers.{reasoned_answer}

-- ---- fit and finish

pub fit_full : (g : Ground) (k : ℕ) (l list : List ℕ) {list' : List ℕ} {count : ℕ} → count ≡ length l → length list < count → list' ≡ cleared 0 list → told (Err Room) list' ≡ fitted g k l list
unfolding fitted
fit_full g k l list e b c = rw (lt-leb (length l) (length list) (omega arith), c) refl

pub fit_done : (g : Ground) (k : ℕ) (l list : List ℕ) {list' : List ℕ} {count : ℕ} → count ≡ length l → count ≤ length list → list' ≡ over l list → told (reasoned_answer g k count) list' ≡ fitted g k l list
unfolding fitted
fit_done g k l list e b c = rw (le-leb (length l) (length list) (omega arith), e, c) refl

pub finish_given : {g : Ground} (k : ℕ) (l : List ℕ) {list : List ℕ} → g ≡ Given → told (Err Unforced) list ≡ with_list g k l list
unfolding with_list
finish_given k l e = rw e refl

pub finish_lower : (k : ℕ) (l list : List ℕ) {g : Ground} {b : Float} {x : Told} → g ≡ Lower b → x ≡ fitted g k l list → x ≡ with_list g k l list
unfolding with_list
finish_lower k l list e p = rw e (rw e at p)

pub finish_upper : (k : ℕ) (l list : List ℕ) {g : Ground} {b : Float} {x : Told} → g ≡ Upper b → x ≡ fitted g k l list → x ≡ with_list g k l list
unfolding with_list
finish_upper k l list e p = rw e (rw e at p)

-- ---- answer_free: the marks are the list

mark_long : (rows cols : List ℕ) (i : ℕ) (ks values : List ℕ) → length (mark_all rows cols i values ks) ≡ length values
unfolding mark_all
mark_long rows cols i [] values = refl
mark_long rows cols i (k ∷ ks) values = mark_long rows cols i ks _ ∙ length-set values _ _

module _ {F : Field} (shaped : Shaped F) {s : List ℕ} (start : StartFor (variables F) s) (i : ℕ) where
  pub marks_long : length (marks_of F (basis F s i) i) ≡ variables F
  marks_long = mark_long F.rows F.cols i _ (basis F s i) ∙ (basis_start F start i).long

  marks_list : threes (marks_of F (basis F s i) i) (length (marks_of F (basis F s i) i)) ≡ listed_of F (basis F s i) i
  unfolding listed_of
  marks_list = ap (λ (n : ℕ). threes (marks_of F (basis F s i) i) n) marks_long
      ∙ threes_listed (marks_of F (basis F s i) i) F (basis F s i) i (marks_listed shaped (basis_start F start i) i) (variables F)

  pub free_told_lem : (k : ℕ) (list : List ℕ) {s' : List ℕ} {g : Ground} {values : List ℕ} {x : Told} → s' ≡ s → g ≡ ground_of k (judge_of (row_of F (basis F s' i) i)) → values ≡ marks_of F (basis F s' i) i
      → x ≡ with_list g k (threes values (length values)) list → x ≡ free_told F s i k list
  unfolding free_told
  free_told_lem k list es eg ev p = p ∙ rw (eg, ev, es, marks_list) refl

-- ---- answer

-- the front of the bytes that it owns is as long as the field
pub front_long : (n m : ℕ) → n ≤ m → n ≡ length {A = ℕ} (take n (replicate m 2))
front_long n m h = sym (length-take-le {A = ℕ} n (replicate m 2) (omega (arith, length-replicate {A = ℕ} m 2)))

module _ (F : Field) (s : List ℕ) (i k : ℕ) (l : List ℕ) where
  pub none_told : variables F ≤ i → told (Err Unforced) l ≡ told_of F s i k l
  unfolding told_of
  none_told b = rw (le-ltb i (variables F) b) refl

  pub given_told : i < variables F → get_or s i 0 ≢ 2 → told (reasoned_answer Given k 0) l ≡ told_of F s i k l
  unfolding told_of
  given_told b n = rw (lt-ltb i (variables F) b, ne_eqb (get_or s i 0) 2 n) refl

  pub some_told : i < variables F → get_or s i 0 ≡ 2 → {x : Told} → x ≡ free_told F s i k l → x ≡ told_of F s i k l
  unfolding told_of
  some_told b e p = rw (lt-ltb i (variables F) b, eq-eqb (get_or s i 0) 2 e) p

-- ---- work: the unit tells whether the field is exact

-- the unit does not ask where the entries stand
unit_alone : (F : Field) → unit_of (field_of F.linear [] [] F.quad) ≡ unit_of F
unfolding unit_of serves
unit_alone F = refl

module _ {F : Field} {s : List ℕ} {floats words : ℕ} (ready : Ready F s floats words) where
  exact_is : is_exact_of F ≡ leb (unit_of F) coarsest
  unfolding is_exact_of
  exact_is = rw ((diagonal_means F.rows F.cols).1 (λ k b. ready.sound.standard k (omega (arith, ready.sound.shaped.rows_long)))) refl

  module _ {k : ℕ} (e : k + 1053 ≡ unit_of (field_of F.linear [] [] F.quad)) where
    pub unit_is : k ≡ least_unit F
    unit_is = omega (arith, unit_alone F)

    pub not_exact : k ≡ 41 → is_exact_of F ≡ false
    not_exact n = exact_is ∙ lt-leb (unit_of F) coarsest (omega (arith, unit_alone F))

    pub is_exact : k ≢ 41 → is_exact_of F ≡ true
    is_exact n = exact_is ∙ le-leb (unit_of F) coarsest (omega (arith, unit_alone F, (unit_within F refl).1))

    pub work_exact : k ≢ 41 → Serves (unit_of F) F
    unfolding grade_of
    work_exact n = (exact_means F ready.sound.shaped.rows_long).0 (rw (is_exact n) refl)

    pub inexact_told : (i : ℕ) (l : List ℕ) → k ≡ 41 → told (Err Inexact) l ≡ graded_told F s i l
    unfolding graded_told
    inexact_told i l n = rw (not_exact n) refl

    pub exact_told : (i : ℕ) (l : List ℕ) → k ≢ 41 → {x : Told} → x ≡ told_of F s i k l → x ≡ graded_told F s i l
    unfolding graded_told
    exact_told i l n p = p ∙ rw (is_exact n, unit_is) refl

-- ---- the stages past the tests, as the code meets them

module _ {F : Field} {s : List ℕ} {floats words : ℕ} (ready : Ready F s floats words) (i : ℕ) (l : List ℕ) (f : List Float) (u : List ℕ) where
  -- what is told, with both scratches cleared
  abbrev ended : Told → Left
  ended t = left t.answer t.list (cleared zero64 f) (cleared 0 u)

  abbrev done : Left
  done = left (because F s i) (over (reason_list F s i) l) (cleared zero64 f) (cleared 0 u)

  abbrev Meets : Type 0
  Meets = run Err (later_stages F s i l f u) done ≡ ended (graded_told F s i l)

  module _ (exact : is_exact_of F ≡ true) where
    -- 13
    free_run : has_value F s i ≡ false → told_of F s i (least_unit F) l ≡ told (Err Unforced) l → Meets
    unfolding run graded_told
    free_run v t = rw (exact, v, t) refl

    -- 9, or done
    fixed_run : has_value F s i ≡ true → told_of F s i (least_unit F) l ≡ fitted (reason_of F s i) (least_unit F) (reason_list F s i) l → Meets
    unfolding run graded_told fitted fits
    fixed_run v t = rw (exact, v, t) (by (leb (length (reason_list F s i)) (length l)))
      where
        by : (b : Bool) → cond b done (left (Err Room) (cleared 0 l) (cleared zero64 f) (cleared 0 u))
            ≡ ended (cond b (told (because F s i) (over (reason_list F s i) l)) (told (Err Room) (cleared 0 l)))
        by true = refl
        by false = refl

    serving : Serves (unit_of F) F
    unfolding grade_of
    serving = (exact_means F ready.sound.shaped.rows_long).0 (rw exact refl)

    module _ (b : i < variables F) where
      is_fixed : get_or (closure F s) i 0 ≢ 2 → has_value F s i ≡ true
      unfolding has_value
      is_fixed n = rw (lt-ltb i (variables F) b, ne_eqb (get_or (closure F s) i 0) 2 n) refl

      given_run : get_or s i 0 ≢ 2 → Meets
      unfolding reason_of reason_list fitted over
      given_run n =
          let same = ⊎_elim (λ e. absurd (n e)) (λ e. e) ((closure_extends F ready.sound.start).kept i) in
          fixed_run (is_fixed (λ e. n (sym same ∙ e))) (sym (given_told F s i (least_unit F) l b n) ∙ rw (ne_eqb (get_or s i 0) 2 n, le-leb 0 (length l) (omega arith)) refl)

      module _ (free : get_or s i 0 ≡ 2) where
        told_is : told_of F s i (least_unit F) l ≡ with_list (reason_of F s i) (least_unit F) (reason_list F s i) l
        unfolding reason_of reason_list free_told
        told_is = sym (some_told F s i (least_unit F) l b free refl) ∙ rw (eq-eqb (get_or s i 0) 2 free) refl

        unforced_run : get_or (closure F s) i 0 ≡ 2 → Meets
        unfolding has_value reason_of with_list
        unforced_run e =
            free_run (rw (lt-ltb i (variables F) b, eq-eqb (get_or (closure F s) i 0) 2 e) refl)
            (told_is ∙ rw (eq-eqb (get_or s i 0) 2 free, unforced_given ready.sound.shaped serving.exact ready.sound.start i e b (least_unit F)) refl)

        forced_run : get_or (closure F s) i 0 ≢ 2 → Meets
        unfolding with_list
        forced_run n = fixed_run (is_fixed n) (told_is ∙ by (reason_says ready.sound.shaped serving ready.sound.start i free n b))
          where
            by : {v : ℕ} {g : Ground} → Says (whole_of (unit_of F) F) (basis F s i) i v g → with_list g (least_unit F) (reason_list F s i) l ≡ fitted g (least_unit F) (reason_list F s i) l
            by (above w h) = refl
            by (below w h) = refl

  graded_run : Meets
  graded_run = go (is_exact_of F) refl
    where
      go : (b : Bool) → is_exact_of F ≡ b → Meets
      go false e = unfold run in unfold graded_told in rw e refl
      go true e = var (ltb i (variables F)) refl
        where
          set : i < variables F → (x y : Bool) → is_free s i ≡ x → is_free (closure F s) i ≡ y → Meets
          set b false y p q = given_run e b (eqb-false _ _ p)
          set b true true p q = unforced_run e b (eqb-true _ _ p) (eqb-true _ _ q)
          set b true false p q = forced_run e b (eqb-true _ _ p) (eqb-false _ _ q)

          var : (b : Bool) → ltb i (variables F) ≡ b → Meets
          var true p = set (ltb-true _ _ p) (is_free s i) (is_free (closure F s) i) refl refl
          var false p = free_run e (unfold has_value in rw p refl) (sym (none_told F s i (least_unit F) l (ltb-false _ _ p)))

-- ---- the call

module _ (F : Field) (s : List ℕ) (i : ℕ) (l : List ℕ) (f : List Float) (u : List ℕ) {k : Answer Unit} (e : k ≡ tested (ready_tests F s (length f) (length u))) where
  pub refused_call : {r : Refusal} → k ≡ Err r → left (Err r) l f u ≡ reason_call F s i l f u
  unfolding reason_call
  refused_call failed = usual.refused_call Err _ _ _ _ (sym e ∙ failed)

  pub done_call : k ≡ passed → {r : Answer Reasoned} {l' : List ℕ} → told r l' ≡ graded_told F s i l
      → {f' : List Float} {fs : ℕ} → f' ≡ replicate fs zero64 → fs ≡ length f → {u' : List ℕ} {us : ℕ} → u' ≡ replicate us 0 → us ≡ length u
      → left r l' f' u' ≡ reason_call F s i l f u
  unfolding reason_call
  done_call passes {r} {l'} t {f'} ef lf eu lu =
      rw (ef, lf, eu, lu)
      (ap (λ (x : Told). left x.answer x.list (cleared zero64 f) (cleared 0 u)) t
      ∙ sym (graded_run ((ready_passes F s (length f) (length u)).0 (sym e ∙ passes)) i l f u)
      ∙ usual.passed_call Err _ _ _ _ (sym e ∙ passes))
