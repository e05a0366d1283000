-- The loops that close up the lists: how they start, turn and end. Assumes nothing.
use Prim.Native.Nat.{ℕ, suc, ◌+◌, ◌<◌, ◌≤◌}
use mathlib.Core.Path.{◌≡◌, refl, sym, ap, ◌∙◌}
use mathlib.Core.Bool.{Bool, true, false, cond}
use mathlib.Core.List.{List, [], ◌∷◌, ◌++◌, map, map-append}
use native.Mathlib.Nat.{le_antisymm}
use native.Mathlib.Numerals.{add-one}
use native.Mathlib.Omega.{arith}
use borrow.Author.Tests.{eq-eqb, ne_eqb}
use lib.ListN.{length, get_or, set, take, length-set, length-map, length-take, length-append}
use lib.Seq.{take-suc}
use lib.Ieee.{Float, nan, binary64, add}
use Rattle.meaning.specs.Free.{is_free}
use Rattle.scratch.specs.Over.{over}
use Rattle.scratch.proofs.Over.{over_past, over_push}
use Rattle.field.specs.Field.{Field, entries, row_end, column_end, quad_of}
use Rattle.shift.specs.Picked.{picked}
use Rattle.sub_problem.specs.Reduced.{new_index, stays_at}
use Rattle.sub_problem.specs.Working.{Usable, Rising, sum_at, Entries, entries_of, close_at, closed_to, Closable}
use Rattle.shift.proofs.Picked.{picked_few, picked_more, picked_same, picked_long, picked_past, picked_push}

-- ---- the linear weights

pub record ClosesTo (c₀ : List Float) (b : List ℕ) (f : List Float) (count t : ℕ) (c : List Float) : Type 0 where
  pub within : t ≤ count
  pub is : c ≡ over (map (sum_at f c₀) (take t b)) c₀
  pub long : length c ≡ length c₀

pub turn_inside : {n count t : ℕ} {b : List ℕ} → Rising n b count → t < count → t < n
turn_inside {t = t} R h = omega (arith, R.behind t h, R.below t h)

module _ {c₀ f : List Float} {b : List ℕ} {count : ℕ} (R : Rising (length c₀) b count) where
  pub linear_start : ClosesTo c₀ b f count 0 c₀
  unfolding over
  linear_start = record { within = omega arith; is = refl; long = refl }

  pub linear_turn : {t i : ℕ} {c : List Float} → ClosesTo c₀ b f count t c → t < count → i ≡ get_or b t 0 → ClosesTo c₀ b f count (t + 1) (set c t (add binary64 (get_or f i nan) (get_or c i nan)))
  linear_turn {t} {i} {c} C h e = rw add-one (record { within = h; is = is; long = length-set c t _ ∙ C.long })
    where
      laid : length (map (sum_at f c₀) (take t b)) ≡ t
      laid = length-map (take t b) (sum_at f c₀) ∙ length-take t b ∙ omega (arith, R.room)

      old : get_or c i nan ≡ get_or c₀ i nan
      old = ap (λ (l : List Float). get_or l i nan) C.is ∙ over_past (map (sum_at f c₀) (take t b)) c₀ i nan (omega (arith, laid, R.behind t h))

      more : map (sum_at f c₀) (take t b) ++ sum_at f c₀ i ∷ [] ≡ map (sum_at f c₀) (take (suc t) b)
      more = rw (e, take-suc b t 0 (omega (arith, R.room))) (sym (map-append (sum_at f c₀) (take t b) (get_or b t 0 ∷ [])))

      is : set c t (add binary64 (get_or f i nan) (get_or c i nan)) ≡ over (map (sum_at f c₀) (take (suc t) b)) c₀
      is =
          ap (λ (y : Float). set c t (add binary64 (get_or f i nan) y)) old
          ∙ ap (λ (l : List Float). set l t (sum_at f c₀ i)) C.is
          ∙ over_push (map (sum_at f c₀) (take t b)) c₀ t (sum_at f c₀ i) laid (turn_inside R h)
          ∙ ap (λ (l : List Float). over l c₀) more

  pub linear_done : {t : ℕ} {c : List Float} → ClosesTo c₀ b f count t c → count ≤ t → c ≡ over (map (sum_at f c₀) (take count b)) c₀
  linear_done {t} C h = C.is ∙ ap (λ (j : ℕ). over (map (sum_at f c₀) (take j b)) c₀) (le_antisymm C.within h)

-- ---- one entry, as the code does it

module _ (s : List ℕ) (k kept : ℕ) (rows cols : List ℕ) (q : List Float) {i : ℕ} (ei : i ≡ get_or rows k 0) where
  pub row_given : (get_or s i 0 ≡ 2 → ⊥) → entries_of rows cols q kept ≡ close_at s k (entries_of rows cols q kept)
  unfolding close_at
  row_given n = let p : is_free s (get_or rows k 0) ≡ false = rw ei at (ne_eqb (get_or s i 0) 2 n) in rw p

  module _ {j : ℕ} (ej : j ≡ get_or cols k 0) (a : get_or s i 0 ≡ 2) where
    pub column_given : (get_or s j 0 ≡ 2 → ⊥) → entries_of rows cols q kept ≡ close_at s k (entries_of rows cols q kept)
    unfolding close_at
    column_given n =
        let p : is_free s (get_or rows k 0) ≡ true = rw ei at (eq-eqb (get_or s i 0) 2 a) in
        let r : is_free s (get_or cols k 0) ≡ false = rw ej at (ne_eqb (get_or s j 0) 2 n) in
        rw (p, r)

    pub moves_up : {v w : ℕ} → get_or s j 0 ≡ 2 → v ≡ new_index s i → w ≡ new_index s j → entries_of (set rows kept v) (set cols kept w) (set q kept (get_or q k nan)) (kept + 1) ≡ close_at s k (entries_of rows cols q kept)
    unfolding close_at
    moves_up b ev ew =
        let p : is_free s (get_or rows k 0) ≡ true = rw ei at (eq-eqb (get_or s i 0) 2 a) in
        let r : is_free s (get_or cols k 0) ≡ true = rw ej at (eq-eqb (get_or s j 0) 2 b) in
        rw (p, r, ev, ew, ei, ej)

-- ---- one entry more

module _ (F : Field) (s : List ℕ) (k : ℕ) (in_rows : k < length F.rows) (in_cols : k < length F.cols) (in_quad : k < length F.quad) where
  abbrev sofar : List ℕ
  sofar = picked (stays_at F s) k

  reads : {i j : ℕ} {x : Float} (E : Entries) → get_or E.rows k 0 ≡ i → get_or E.cols k 0 ≡ j → get_or E.quad k nan ≡ x
      → close_at s k E ≡ cond (is_free s i) (cond (is_free s j) (entries_of (set E.rows E.kept (new_index s i)) (set E.cols E.kept (new_index s j)) (set E.quad E.kept x) (E.kept + 1)) E) E
  unfolding close_at
  reads E ei ej ex = rw (ei, ej, ex)

  pub closes_one : close_at s k (closed_to F s k) ≡ closed_to F s (suc k)
  unfolding closed_to
  closes_one =
      reads (closed_to F s k) (picked_past (stays_at F s) (λ j. new_index s (row_end F j)) F.rows k 0) (picked_past (stays_at F s) (λ j. new_index s (column_end F j)) F.cols k 0) (picked_past (stays_at F s) (quad_of F) F.quad k nan)
      ∙ by (is_free s (row_end F k)) (is_free s (column_end F k)) refl refl
    where
      by : (a b : Bool) → is_free s (row_end F k) ≡ a → is_free s (column_end F k) ≡ b
          → cond a (cond b (entries_of (set (closed_to F s k).rows (closed_to F s k).kept (new_index s (row_end F k))) (set (closed_to F s k).cols (closed_to F s k).kept (new_index s (column_end F k)))
          (set (closed_to F s k).quad (closed_to F s k).kept (quad_of F k)) ((closed_to F s k).kept + 1)) (closed_to F s k)) (closed_to F s k)
          ≡ closed_to F s (suc k)
      by true true p q =
          rw (picked_more (stays_at F s) k (rw (p, q)))
          (rw (picked_push (stays_at F s) (λ j. new_index s (row_end F j)) F.rows k in_rows, picked_push (stays_at F s) (λ j. new_index s (column_end F j)) F.cols k in_cols, picked_push (stays_at F s) (quad_of F) F.quad k in_quad, length-append sofar (k ∷ [])))
      by true false p q = rw (picked_same (stays_at F s) k (rw (p, q)))
      by false b p q = rw (picked_same (stays_at F s) k (rw p))

pub record Stands (F : Field) (s : List ℕ) (k : ℕ) (rows cols : List ℕ) (q : List Float) (m : ℕ) : Type 0 where
  pub within : k ≤ entries F
  pub is : entries_of rows cols q m ≡ closed_to F s k
  pub rows_same : length rows ≡ length F.rows
  pub cols_same : length cols ≡ length F.cols
  pub quad_same : length q ≡ length F.quad

module _ {F : Field} {s : List ℕ} (U : Usable F s) where
  stands : {k m : ℕ} {rows cols : List ℕ} {q : List Float} → k ≤ entries F → entries_of rows cols q m ≡ closed_to F s k → Stands F s k rows cols q m
  unfolding closed_to
  stands {k} {m} h e = record {
    within = h;
    is = e;
    rows_same = ap (λ (x : Entries). length x.rows) e ∙ picked_long (stays_at F s) (λ j. new_index s (row_end F j)) F.rows k (omega (arith, U.shaped.rows_long));
    cols_same = ap (λ (x : Entries). length x.cols) e ∙ picked_long (stays_at F s) (λ j. new_index s (column_end F j)) F.cols k (omega (arith, U.shaped.cols_long));
    quad_same = ap (λ (x : Entries). length x.quad) e ∙ picked_long (stays_at F s) (quad_of F) F.quad k h;
  }

  pub stands_start : Stands F s 0 F.rows F.cols F.quad 0
  unfolding closed_to picked over
  stands_start = record { within = omega arith; is = refl; rows_same = refl; cols_same = refl; quad_same = refl }

  pub stands_ready : {k m : ℕ} {rows cols : List ℕ} {q : List Float} → Stands F s k rows cols q m → k < entries F → Closable s k m rows cols q
  unfolding closed_to
  stands_ready {k} {m} {rows} {cols} {q} T h =
      let few = picked_few (stays_at F s) k in
      let er : get_or rows k 0 ≡ row_end F k = ap (λ (x : Entries). get_or x.rows k 0) T.is ∙ picked_past (stays_at F s) (λ j. new_index s (row_end F j)) F.rows k 0 in
      let ec : get_or cols k 0 ≡ column_end F k = ap (λ (x : Entries). get_or x.cols k 0) T.is ∙ picked_past (stays_at F s) (λ j. new_index s (column_end F j)) F.cols k 0 in
      record {
        behind = rw (ap (λ (x : Entries). x.kept) T.is) few;
        few = omega (arith, U.shaped.few_entries);
        in_rows = omega (arith, T.rows_same, U.shaped.rows_long);
        in_cols = omega (arith, T.cols_same, U.shaped.cols_long);
        in_quad = omega (arith, T.quad_same);
        row_below = omega (arith, U.shaped.row_below k h, U.start.long);
        column_below = omega (arith, U.shaped.column_below k h, U.start.long);
      }

  pub stands_turn : {k m m₁ : ℕ} {rows rows₁ cols cols₁ : List ℕ} {q q₁ : List Float} → Stands F s k rows cols q m → k < entries F
      → entries_of rows₁ cols₁ q₁ m₁ ≡ close_at s k (entries_of rows cols q m) → Stands F s (k + 1) rows₁ cols₁ q₁ m₁
  stands_turn {k} T h e =
      rw add-one
      (stands (omega arith) (e ∙ ap (close_at s k) T.is ∙ closes_one F s k (omega (arith, U.shaped.rows_long)) (omega (arith, U.shaped.cols_long)) h))

  pub stands_done : {k m : ℕ} {rows cols : List ℕ} {q : List Float} → Stands F s k rows cols q m → entries F ≤ k → entries_of rows cols q m ≡ closed_to F s (entries F)
  stands_done T h = T.is ∙ ap (closed_to F s) (le_antisymm T.within h)
