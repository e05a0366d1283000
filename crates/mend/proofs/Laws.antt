-- From the tests and the work to the answer. Assumes nothing.
use Prim.Native.Nat.{ℕ, suc, zero, ◌+◌, ◌*◌, ◌/◌, ◌<◌, ◌≤◌}
use mathlib.Core.Path.{◌≡◌, refl, sym, ap, ◌∙◌}
use mathlib.Core.Logic.{◌↔◌}
use mathlib.Core.Bool.{true, Bool, false, cond}
use mathlib.Core.List.{List, map, [], ◌∷◌}
use native.Mathlib.Nat.{le-div_iff_mul-le}
use native.Mathlib.Omega.{arith}
use borrow.Author.Tests.{le-leb, lt-leb}
use lib.Dec.{lit<, eqb}
use lib.ListN.{length, take, replicate, length-replicate, length-map, length-append}
use lib.Ieee.{Float}
use Rattle.weights.specs.Worth.{zero64}
use Rattle.scratch.specs.Cleared.{cleared}
use Rattle.scratch.specs.Region.{region}
use Rattle.scratch.specs.Over.{over}
use Rattle.scratch.proofs.Region.{length_region, region_at}
use Rattle.scratch.proofs.Over.{over_front, length_over}
use Rattle.field.specs.declared.Grade.{Grade}
use Rattle.field.specs.declared.Refusal.{Refusal}
use Rattle.field.specs.declared.Refusal.TheVariants.{Variables, Lists, Weights, Scratch, Room, Sum}
use Rattle.field.specs.Field.{Field, field_of, variables, entries}
use Rattle.field.specs.Faults.{Listed}
use Rattle.field.specs.Table.{tested}
use Rattle.field.specs.Tests.{few_variables, lists_match, Finite, Loose}
use Rattle.field.specs.Grade.{grade_of}
use Rattle.field.proofs.Table.{pass_is, last_is, group_is}
use Rattle.field.proofs.Means.{few_means, lists_mean, finite_means, floats_mean, words_mean}
use Rattle.calls.specs.Call.{without}
use Rattle.calls.proofs.Usual as usual
use Rattle.mending.specs.Places.{place_of, is_inside, sum_at, sums_finite, places_of, row_in, column_in, mended}
use Rattle.mending.specs.Changes.{dropped, moved, joined, position_of, is_first, change_at, changes_to, changes_of, numbered}
use Rattle.mending.specs.Lineup.{Roomy, LinedUp}
use Rattle.mending.specs.Gathering.{Gathers}
use Rattle.mending.specs.Report.{count_to, told_to, Reportable}
use Rattle.mending.specs.Back.{Returnable, Returned}
use Rattle.mending.proofs.Marks.{counts_changes, tells_changes}
use Rattle.mending.proofs.Kept.{place_below}
use Rattle.mending.proofs.Accepted.{mended_long, mended_loose}
use Rattle.mend.specs.Call.{sum_tests, mend_tests, Mendable, fits, left, first_of, mend_call}
use Rattle.mend.specs.Work.{Worked, Writable, Written, Within}
use Rattle.field.specs.Answers.{passed}
use Rattle.std.specs.Prelude.{Err}
use Rattle.mend.specs.Answers.{mended_answer}

-- ---- the tests

pub listed_is : (F : Field) → few_variables (variables F) ≡ true → lists_match F.rows F.cols F.quad ≡ true → Listed F
listed_is F a b =
    let l = (lists_mean F.rows F.cols F.quad).0 b in
    record { few_variables = (few_means (variables F)).0 a; rows_long = l.0; cols_long = l.1.0; few_entries = l.1.1 }

pub sum_passes : (F : Field) → (tested (sum_tests F) ≡ passed) ↔ (Listed F × (Finite F × (sums_finite F ≡ true)))
unfolding sum_tests
sum_passes F =
    let t = pass_is Variables _ _ (few_means (variables F)) (pass_is Lists _ _ (lists_mean F.rows F.cols F.quad) (pass_is Weights _ _ (finite_means F.linear F.quad) (last_is Sum (sums_finite F) ((λ e. e), λ e. e)))) in (
      (λ e.
          let p = t.0 e in (
            record { few_variables = p.0; rows_long = p.1.0.0; cols_long = p.1.0.1.0; few_entries = p.1.0.1.1 },
            (record { linear = p.1.1.0.0; quad = p.1.1.0.1 }, p.1.1.1),
          )),
      λ h. t.1 (h.0.few_variables, ((h.0.rows_long, (h.0.cols_long, h.0.few_entries)), ((h.1.0.linear, h.1.0.quad), h.1.1))),
    )

pub mend_passes : (F : Field) (floats words : ℕ) → (tested (mend_tests F floats words) ≡ passed) ↔ Mendable F floats words
unfolding mend_tests
mend_passes F floats words =
    let t = group_is (sum_tests F) _ (sum_passes F) (pass_is Scratch _ _ (floats_mean (variables F) (entries F) floats) (last_is Scratch _ (words_mean (variables F) (entries F) words))) in (
      (λ e. let p = t.0 e in record { listed = p.0.0; finite_weights = p.0.1.0; finite_sums = p.0.1.1; floats_room = p.1.0; words_room = p.1.1 }),
      λ h. t.1 ((h.listed, (h.finite_weights, h.finite_sums)), (h.floats_room, h.words_room)),
    )

-- none of the tests before 9 gives 9
pub never_room : (F : Field) (floats words : ℕ) → without Room (mend_tests F floats words) ≡ true
unfolding without mend_tests sum_tests
never_room F floats words = refl

pub mendable_roomy : {F : Field} {f : List Float} {u : List ℕ} → Mendable F (length f) (length u) → Roomy F f u
mendable_roomy M = record { listed = M.listed; floats = omega (arith, M.floats_room); words = omega (arith, M.words_room) }

-- ---- the work

pub works : {F : Field} {f₀ f₁ f : List Float} {u₀ u₁ u : List ℕ} {kept changes : ℕ} → LinedUp F f₀ f₁ u₀ u₁ → Gathers F kept f₁ f u₁ u → changes ≡ count_to (entries F) u (entries F)
    → Worked F kept changes f₀ f u₀ u
works L G e = record {
  gathers = record {
    floats_long = G.floats_long ∙ L.floats_long;
    words_long = G.words_long ∙ L.words_long;
    few = G.few;
    places = G.places;
    sums = G.sums;
    marks = G.marks;
  };
  counted = e;
}

pub lined_roomy : {F : Field} {f₀ f : List Float} {u₀ u : List ℕ} → Roomy F f₀ u₀ → length f ≡ length f₀ → length u ≡ length u₀ → Roomy F f u
lined_roomy R e g = record { listed = R.listed; floats = omega (arith, R.floats); words = omega (arith, R.words) }

module _ {F : Field} {kept changes : ℕ} {f₀ f : List Float} {u₀ u : List ℕ} (few : entries F ≤ 32768) (W : Worked F kept changes f₀ f u₀ u) where
  changes_are : changes ≡ length (changes_of F)
  changes_are = W.counted ∙ counts_changes F few u W.gathers.marks

  pub told_are : told_to (entries F) u (entries F) ≡ numbered (changes_of F)
  told_are = tells_changes F few u W.gathers.marks

  kept_is : entries F + kept ≤ length u → kept ≡ entries (mended F)
  kept_is h = sym (length_region (entries F) kept u h) ∙ ap length W.gathers.places ∙ sym (mended_long F)

  -- what the work leaves is there to be written
  pub writable : Roomy F f₀ u₀ → {report : List ℕ} → changes ≤ length report / 3 → Writable F kept changes report f u
  writable R h = record {
    roomy = lined_roomy R W.gathers.floats_long W.gathers.words_long;
    worked = record {
      gathers = record { floats_long = refl; words_long = refl; few = W.gathers.few; places = W.gathers.places; sums = W.gathers.sums; marks = W.gathers.marks };
      counted = W.counted;
    };
    room = h;
  }

-- ---- the writing

module _ {F : Field} {kept changes : ℕ} {report : List ℕ} {f : List Float} {u : List ℕ} (W : Writable F kept changes report f u) where
  few_entries : entries F ≤ 32768
  few_entries = W.roomy.listed.few_entries

  pub reportable : Reportable (entries F) u report
  reportable = record {
    few = few_entries;
    marked = W.roomy.words;
    room =
        let h : changes * 3 ≤ length report = (le-div_iff_mul-le {k = 3} {x = changes} {y = length report} (lit< tt)).0 W.room in
        omega (arith, h, W.worked.counted);
  }

  module _ {rows cols : List ℕ} {q : List Float} (er : rows ≡ cleared 0 F.rows) (ec : cols ≡ cleared 0 F.cols) (eq : q ≡ cleared zero64 F.quad) where
    long : length q ≡ entries F
    long = ap length eq ∙ length-replicate (entries F) zero64

    pub returnable : Returnable (variables F) kept f u rows cols q
    returnable =
        let G = W.worked.gathers in
        let L = W.roomy.listed in
        record {
          few_variables = L.few_variables;
          few_entries = omega (arith, long, few_entries);
          rows_long = ap length er ∙ length-replicate (length F.rows) 0 ∙ L.rows_long ∙ sym long;
          cols_long = ap length ec ∙ length-replicate (length F.cols) 0 ∙ L.cols_long ∙ sym long;
          few = omega (arith, G.few, long);
          floats = omega (arith, G.few, long, W.roomy.floats);
          words = omega (arith, G.few, long, W.roomy.words);
          below = λ t h. rw (
            long,
            sym (region_at (entries F) kept u t 0 h),
            G.places,
          ) (place_below F t (omega (arith, sym (length_region (entries F) kept u (omega (arith, G.few, W.roomy.words))) ∙ ap length G.places)));
        }

    pub written : {rows' cols' : List ℕ} {q' : List Float} {report' : List ℕ} → Returned (variables F) kept f u rows rows' cols cols' q q'
        → report' ≡ over (told_to (entries F) u (entries F)) report → Written F report rows' cols' q' report'
    unfolding mended
    written B told =
        let G = W.worked.gathers in
        let places : region (length q) kept u ≡ places_of F = ap (λ (m : ℕ). region m kept u) long ∙ G.places in
        record {
          rows_are = B.rows_are ∙ rw (places, er);
          cols_are = B.cols_are ∙ rw (places, ec);
          quad_is = B.quad_is ∙ ap (λ (m : ℕ). over (region m kept f) q) long ∙ rw (G.sums, eq);
          report_is = told ∙ ap (λ (l : List ℕ). over l report) (told_are few_entries W.worked);
        }

-- ---- the answer

module _ (F : Field) (report : List ℕ) (f : List Float) (u : List ℕ) where
  pub refused_call : {r : Refusal} → tested (mend_tests F (length f) (length u)) ≡ Err r → left (Err r) F.rows F.cols F.quad report f u ≡ mend_call F report f u
  unfolding mend_call
  refused_call e = usual.refused_call Err _ _ _ _ e

  module _ (p : tested (mend_tests F (length f) (length u)) ≡ passed) {kept changes : ℕ} {f₁ : List Float} {u₁ : List ℕ} (W : Worked F kept changes f f₁ u u₁) where
    M : Mendable F (length f) (length u)
    M = (mend_passes F (length f) (length u)).0 p

    count_is : changes ≡ length (changes_of F)
    count_is = changes_are M.listed.few_entries W

    kept_are : kept ≡ entries (mended F)
    kept_are = kept_is M.listed.few_entries W (omega (arith, W.gathers.few, W.gathers.words_long, M.words_room))

    pub room_call : length report / 3 < changes → {report' : List ℕ} {rs : ℕ} → report' ≡ replicate rs 0 → rs ≡ length report
        → {f' : List Float} {fs : ℕ} → f' ≡ replicate fs zero64 → fs ≡ length f → {u' : List ℕ} {us : ℕ} → u' ≡ replicate us 0 → us ≡ length u
        → left (Err Room) F.rows F.cols F.quad report' f' u' ≡ mend_call F report f u
    unfolding mend_call fits
    room_call h er rr ef ff eu uu =
        rw (er, rr, ef, ff, eu, uu) (usual.last_refuses Err _ _ Room _ _ p (lt-leb (length (changes_of F)) (length report / 3) (omega (arith, count_is))))

    pub done_call : changes ≤ length report / 3 → {g : Grade} → g ≡ grade_of (mended F) → {rows' cols' : List ℕ} {q' : List Float} {report' : List ℕ} → Written F report rows' cols' q' report'
        → {f' : List Float} {fs : ℕ} → f' ≡ replicate fs zero64 → fs ≡ length f → {u' : List ℕ} {us : ℕ} → u' ≡ replicate us 0 → us ≡ length u
        → left (mended_answer g kept changes) rows' cols' q' report' f' u' ≡ mend_call F report f u
    unfolding mend_call fits
    done_call h eg T ef ff eu uu =
        rw (eg, kept_are, count_is, T.rows_are, T.cols_are, T.quad_is, T.report_is, ef, ff, eu, uu)
        (usual.last_passes Err _ _ Room _ _ p (le-leb (length (changes_of F)) (length report / 3) (omega (arith, count_is))))

    -- the grade is that of the mended field
    module _ {rows' cols' : List ℕ} {q' : List Float} {report' : List ℕ} (T : Written F report rows' cols' q' report') where
      kept_places : length (places_of F) ≡ kept
      kept_places = sym (mended_long F) ∙ sym kept_are

      front : {A : Type 0} (g : ℕ → A) (old : List A) {new : List A} → new ≡ over (map g (places_of F)) old → take kept new ≡ map g (places_of F)
      front g old e = ap (take kept) e ∙ over_front (map g (places_of F)) old (length-map (places_of F) g ∙ kept_places)

      inside : {A : Type 0} (g : ℕ → A) (z : A) (old : List A) {new : List A} → length old ≡ entries F → new ≡ over (map g (places_of F)) (cleared z old) → kept ≤ length new
      inside g z old {new} l e =
          let size = length-map (places_of F) g in
          let clear-long = length-replicate (length old) z in
          omega (arith, ap length e ∙ length_over (map g (places_of F)) (cleared z old) (omega (arith, size, kept_places, clear-long, W.gathers.few)), clear-long, W.gathers.few)

      front_is : first_of kept (field_of F.linear rows' cols' q') ≡ mended F
      unfolding mended
      front_is = rw (front (row_in (variables F)) (cleared 0 F.rows) T.rows_are, front (column_in (variables F)) (cleared 0 F.cols) T.cols_are, front (sum_at F) (cleared zero64 F.quad) T.quad_is)

      pub front_loose : Loose (first_of kept (field_of F.linear rows' cols' q'))
      front_loose = rw front_is (mended_loose F M.listed M.finite_weights.linear M.finite_sums)

      pub front_graded : {g : Grade} → g ≡ grade_of (first_of kept (field_of F.linear rows' cols' q')) → g ≡ grade_of (mended F)
      front_graded e = e ∙ ap grade_of front_is

      pub front_within : Within kept (field_of F.linear rows' cols' q')
      unfolding mended
      front_within = record {
        in_rows = inside (row_in (variables F)) 0 F.rows M.listed.rows_long T.rows_are;
        in_cols = inside (column_in (variables F)) 0 F.cols M.listed.cols_long T.cols_are;
        in_quad = inside (sum_at F) zero64 F.quad refl T.quad_is;
      }

-- ---- how many changes

-- an entry has at most one
one_change : (F : Field) (k : ℕ) → length (change_at F k) ≤ 1
unfolding change_at
one_change F k = go (is_inside F k) (is_first F k) (eqb (position_of F (place_of F k)) k)
  where
    go : (a b c : Bool) → length (cond a (cond b (cond c [] (moved k (position_of F (place_of F k)) ∷ [])) (joined k (position_of F (place_of F k)) ∷ [])) (dropped k ∷ [])) ≤ 1
    go true true true = omega arith
    go true true false = omega arith
    go true false c = omega arith
    go false b c = omega arith

changes_to_lem : (F : Field) (k : ℕ) → length (changes_to F k) ≤ k
unfolding changes_to
changes_to_lem F zero = omega arith
changes_to_lem F (suc k) = omega (arith, length-append (changes_to F k) (change_at F k), changes_to_lem F k, one_change F k)

pub changes_few : (F : Field) → length (changes_of F) ≤ entries F
unfolding changes_of
changes_few F = changes_to_lem F (entries F)
