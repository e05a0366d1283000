-- From the parts to the call: what each part leaves, put together. Assumes nothing.
use Prim.Native.Nat.{ℕ, ◌-◌, ◌<◌, ◌≤◌}
use mathlib.Core.Path.{◌≡◌, refl, sym, ap, ◌∙◌}
use mathlib.Core.List.{List, [], map, append-nil}
use Rattle.std.proofs.lemmas.List.{drop-replicate}
use borrow.Rule.Slice.PartMut.{mid_of, put_mid, mid_len}
use native.Mathlib.Decide.{dec_le}
use native.Mathlib.Omega.{arith}
use borrow.Author.Tests.{le-leb, lt-leb}
use lib.ListN.{length, get_or, take, drop, replicate, length-map, length-take, length-drop, drop_of_length-le}
use lib.Seq.{get_or-take, ext_get_or}
use lib.Ieee.{Float, nan, binary64, add}
use Rattle.weights.specs.Worth.{zero64}
use Rattle.scratch.specs.Cleared.{cleared}
use Rattle.scratch.specs.Over.{over}
use Rattle.scratch.proofs.Over.{length_over, over_front}
use Rattle.field.specs.declared.Grade.{Grade}
use Rattle.field.specs.declared.Refusal.{Refusal}
use Rattle.field.specs.declared.Refusal.TheVariants.{Room}
use Rattle.field.specs.Field.{Field, field_of, variables, entries, linear_of, row_end, column_end, quad_of}
use Rattle.field.specs.Table.{tested}
use Rattle.field.specs.Tests.{open_tests}
use Rattle.field.specs.Grade.{grade_of}
use Rattle.calls.proofs.Usual as usual
use Rattle.sub_problem.specs.Reduced.{back, new_index, stays_at, stays, adjusted, with_given}
use Rattle.sub_problem.specs.Call.{Left, left, closed_up, finished, sub_problem_call}
use Rattle.sub_problem.specs.Working.{Usable, Numbered, Gathers, Rising, sum_at, Entries, entries_of, closed_to, closed_entries, Listed, Weighed}
use Rattle.shift.proofs.Picked.{map_at, picked_few}
use Rattle.sub_problem.proofs.Numbering.{back_below, new_back}
use Rattle.sub_problem.proofs.NumberLoops.{new_few}
use Rattle.sub_problem.proofs.CloseLoops.{turn_inside}
use Rattle.field.specs.Answers.{passed}
use Rattle.std.specs.Prelude.{Err}
use Rattle.sub_problem.specs.Answers.{reduced_answer}

-- ---- a list that closed up, with zeros behind

pub closed_up_lem : {A : Type 0} (z : A) (l s : List A) {c₁ c₂ : List A} (n : ℕ) → length l ≡ n → n ≤ length s → c₁ ≡ over l s → c₂ ≡ over (take n c₁) (cleared z c₁) → c₂ ≡ closed_up z l s
closed_up_lem {A} z l s n long fits e f =
    f
    ∙ ap (λ (t : List A). over (take n t) (cleared z t)) e
    ∙ rw (over_front l s long, length_over l s (omega arith))

-- a list whose elements from n on are set to z
pub filled : {A : Type 0} (z : A) (n : ℕ) (s : List A) {w : List A} → n ≤ length s → w ≡ cleared z (mid_of n (length s - n) s) → put_mid n (length s - n) s w ≡ over (take n s) (cleared z s)
unfolding over
filled z n s {w} h zeros =
    let long : length (take n s) ≡ n = length-take n s ∙ omega arith in
    let mid : w ≡ replicate (length s - n) z = rw (mid_len n (length s) s (omega arith)) at zeros in
    let past : drop (length s - n) (drop n s) ≡ [] = drop_of_length-le (drop n s) (omega (arith, length-drop n s)) in
    rw (mid, past, append-nil (replicate (length s - n) z), long, drop-replicate n (length s) z) refl

pub rising_fits : {n count : ℕ} {b : List ℕ} → Rising n b count → count ≤ n
rising_fits {n} {count} R = elim (dec_le count n) [
  | yes h ↦ h
  | no h ↦ absurd (omega (arith, turn_inside {t = n} R (omega arith)))
]

pub weights_closed : (c f : List Float) {c₁ c₂ : List Float} {b : List ℕ} {count : ℕ} → Rising (length c) b count → c₁ ≡ over (map (sum_at f c) (take count b)) c → c₂ ≡ over (take count c₁) (cleared zero64 c₁)
    → c₂ ≡ closed_up zero64 (map (sum_at f c) (take count b)) c
weights_closed c f {b = b} {count = count} R e g =
    closed_up_lem zero64 (map (sum_at f c) (take count b)) c count (length-map (take count b) (sum_at f c) ∙ length-take count b ∙ omega (arith, R.room)) (rising_fits R) e g

module _ {F : Field} {s : List ℕ} (U : Usable F s) {rows cols : List ℕ} {q : List Float} {r : ℕ} (e : entries_of rows cols q r ≡ closed_to F s (entries F)) where
  kept_is : r ≡ length (stays F s)
  unfolding closed_to
  kept_is = ap (λ (x : Entries). x.kept) e

  few : length (stays F s) ≤ entries F
  few = picked_few (stays_at F s) (entries F)

  pub kept_few : r ≤ 32768
  kept_few = omega (arith, kept_is, few, U.shaped.few_entries)

  pub rows_fit : r ≤ length rows
  unfolding closed_to
  rows_fit = omega (arith, kept_is, few, ap (λ (x : Entries). length x.rows) e, length_over (map (λ j. new_index s (row_end F j)) (stays F s)) F.rows (omega (arith, length-map (stays F s) (λ j. new_index s (row_end F j)), few, U.shaped.rows_long)), U.shaped.rows_long)

  pub cols_fit : r ≤ length cols
  unfolding closed_to
  cols_fit = omega (arith, kept_is, few, ap (λ (x : Entries). length x.cols) e, length_over (map (λ j. new_index s (column_end F j)) (stays F s)) F.cols (omega (arith, length-map (stays F s) (λ j. new_index s (column_end F j)), few, U.shaped.cols_long)), U.shaped.cols_long)

  pub quad_fits : r ≤ length q
  unfolding closed_to
  quad_fits = omega (arith, kept_is, few, ap (λ (x : Entries). length x.quad) e, length_over (map (quad_of F) (stays F s)) F.quad (omega (arith, few, length-map (stays F s) (quad_of F))))

  pub entries_closed : {rows₁ cols₁ : List ℕ} {q₁ : List Float} → rows₁ ≡ over (take r rows) (cleared 0 rows) → cols₁ ≡ over (take r cols) (cleared 0 cols) → q₁ ≡ over (take r q) (cleared zero64 q)
      → entries_of rows₁ cols₁ q₁ r ≡ closed_entries F s
  unfolding closed_to closed_entries
  entries_closed er ec eq =
      let a = closed_up_lem 0 (map (λ j. new_index s (row_end F j)) (stays F s)) F.rows r (length-map (stays F s) (λ j. new_index s (row_end F j)) ∙ sym kept_is) (omega (arith, kept_is, few, U.shaped.rows_long)) (ap (λ (x : Entries). x.rows) e) er in
      let b = closed_up_lem 0 (map (λ j. new_index s (column_end F j)) (stays F s)) F.cols r (length-map (stays F s) (λ j. new_index s (column_end F j)) ∙ sym kept_is) (omega (arith, kept_is, few, U.shaped.cols_long)) (ap (λ (x : Entries). x.cols) e) ec in
      let d = closed_up_lem zero64 (map (quad_of F) (stays F s)) F.quad r (length-map (stays F s) (quad_of F) ∙ sym kept_is) (omega (arith, kept_is, few)) (ap (λ (x : Entries). x.quad) e) eq in
      rw (a, b, d, kept_is)

-- ---- the weights

module _ {F : Field} {s : List ℕ} (U : Usable F s) {l : List ℕ} {count : ℕ} (L : Listed s l count) where
  listed_at : (t : ℕ) → t < count → get_or l t 0 ≡ get_or (back s) t 0
  listed_at t h = sym (get_or-take count l t 0 h) ∙ ap (λ (b : List ℕ). get_or b t 0) L.front

  pub listed_rises : Rising (variables F) l count
  listed_rises = record {
    few = U.shaped.few_variables;
    room = L.room;
    behind = λ t h. rw (listed_at t h) (omega (arith, new_back s t (omega (arith, L.counted)), new_few s (get_or (back s) t 0)));
    below = λ t h. rw (listed_at t h) (omega (arith, back_below s t (omega (arith, L.counted)), U.start.long));
  }

  pub weighed : {f c₁ : List Float} {x y : Float} → Gathers F s (entries F) f x → y ≡ with_given F.linear s x (length F.linear) → c₁ ≡ closed_up zero64 (map (sum_at f F.linear) (take count l)) F.linear → Weighed F s c₁ y
  unfolding adjusted
  weighed {f} {c₁} {x} {y} G ey ec = record {
    linear = ec ∙ ap (λ (b : List ℕ). closed_up zero64 (map (sum_at f F.linear) b) F.linear) L.front ∙ ap (λ (w : List Float). closed_up zero64 w F.linear) same;
    total = ey ∙ ap (λ (z : Float). with_given F.linear s z (length F.linear)) G.total;
  }
    where
      same : map (sum_at f F.linear) (back s) ≡ map (adjusted F s) (back s)
      same = ext_get_or nan (map (sum_at f F.linear) (back s)) (map (adjusted F s) (back s)) (length-map (back s) (sum_at f F.linear) ∙ sym (length-map (back s) (adjusted F s))) (λ t h.
          let b : t < length (back s) = omega (arith, length-map (back s) (sum_at f F.linear)) in
          map_at (sum_at f F.linear) (back s) t nan b
          ∙ ap (λ (z : Float). add binary64 z (linear_of F (get_or (back s) t 0))) (G.at (get_or (back s) t 0) (omega (arith, back_below s t b, U.start.long)))
          ∙ sym (map_at (adjusted F s) (back s) t nan b))

-- the map list, once it is laid
pub is_listed : (l : List ℕ) {s l₁ u : List ℕ} {count : ℕ} → Numbered s (length s) u count → count ≤ length l → l₁ ≡ over (back s) l → Listed s l₁ count
is_listed l {s} {l₁} {u} {count} N room e =
    let long : length l₁ ≡ length l = ap length e ∙ length_over (back s) l (omega (arith, N.counted)) in
    record { counted = N.counted; room = omega arith; front = ap (take count) e ∙ over_front (back s) l (sym N.counted) }

-- other weights for the same variables change nothing of that
pub same_usable : {F : Field} {s : List ℕ} → Usable F s → (c : List Float) → length c ≡ variables F → Usable (field_of c F.rows F.cols F.quad) s
same_usable {F} {s} U c e = record {
  shaped = record {
    few_variables = omega (arith, U.shaped.few_variables);
    few_entries = U.shaped.few_entries;
    rows_long = U.shaped.rows_long;
    cols_long = U.shaped.cols_long;
    row_below = λ k h. omega (arith, U.shaped.row_below k h);
    column_below = λ k h. omega (arith, U.shaped.column_below k h);
    rising = U.shaped.rising;
  };
  start = record { long = U.start.long ∙ sym e; small = U.start.small };
}

-- ---- the call

module _ (F : Field) (s l : List ℕ) (f : List Float) (u : List ℕ) where
  pub worked : {g : Grade} {c₁ q₁ f₁ : List Float} {rows₁ cols₁ l₁ u₁ : List ℕ} {count kept : ℕ} {x : Float} (a b : ℕ) (c' : List Float) → g ≡ grade_of F → count ≡ length (back s) → l₁ ≡ over (back s) l
      → Weighed F s c₁ x → entries_of rows₁ cols₁ q₁ kept ≡ closed_entries (field_of c' F.rows F.cols F.quad) s
      → f₁ ≡ replicate a zero64 → a ≡ length f → u₁ ≡ replicate b 0 → b ≡ length u
      → left (reduced_answer g count kept x) (field_of c₁ rows₁ cols₁ q₁) l₁ f₁ u₁ ≡ finished F s l f u
  unfolding finished closed_entries
  worked a b c' eg ec el W e ef la eu lb =
      rw (eg, ec, el, W.linear, W.total, ap (λ (x : Entries). x.rows) e, ap (λ (x : Entries). x.cols) e, ap (λ (x : Entries). x.quad) e, ap (λ (x : Entries). x.kept) e, ef, la, eu, lb)

  pub refused_call : {r : Refusal} → tested (open_tests F s (length f) (length u)) ≡ Err r → left (Err r) F l f u ≡ sub_problem_call F s l f u
  unfolding sub_problem_call
  refused_call e = usual.refused_call Err _ _ _ _ e

  module _ (e : tested (open_tests F s (length f) (length u)) ≡ passed) {count : ℕ} (N : count ≡ length (back s)) where
    pub done_call : {x : Left} (u₁ : List ℕ) → length u₁ ≡ length u → count ≤ length l → x ≡ finished F s l f u₁ → x ≡ sub_problem_call F s l f u
    unfolding sub_problem_call finished
    done_call u₁ lu h p = p ∙ rw lu refl ∙ usual.last_passes Err _ _ Room _ (finished F s l f u) e (le-leb (length (back s)) (length l) (omega arith))

    pub room_call : {l₁ u₁ : List ℕ} {f₁ : List Float} (a b d : ℕ) → length l < count → l₁ ≡ replicate d 0 → d ≡ length l → f₁ ≡ replicate a zero64 → a ≡ length f → u₁ ≡ replicate b 0 → b ≡ length u
        → left (Err Room) F l₁ f₁ u₁ ≡ sub_problem_call F s l f u
    unfolding sub_problem_call
    room_call a b d h el ld ef la eu lb = rw (el, ld, ef, la, eu, lb) (usual.last_refuses Err _ _ Room _ _ e (lt-leb (length (back s)) (length l) (omega arith)))
