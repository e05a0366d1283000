-- What the steps write into the cells is what the model's steps do to the run. Assumes nothing.
use Prim.Native.Nat.{ℕ, ◌+◌, ◌<◌}
use mathlib.Core.Path.{◌≡◌, refl, sym, ap, ◌∙◌}
use mathlib.Core.Logic.{◌≢◌}
use mathlib.Core.Bool.{Bool, true, false, true≢false}
use mathlib.Core.List.{List}
use native.Mathlib.Nat.{le_refl}
use native.Mathlib.Decide.{ℕ_discrete}
use native.Mathlib.Omega.{arith}
use borrow.Author.Tests.{eq-eqb, ne_eqb}
use mir.Val.{bool_byte}
use lib.Ieee.{Float}
use lib.ListN.{length, get_or, set, take, length-set}
use lib.Seq.{take-set-le, drop-set-lt, get_or-set_same, get_or-set_other}
use Rattle.scratch.proofs.Region.{region_push}
use Rattle.field.specs.Field.{Field, variables, entries}
use Rattle.rows.specs.declared.Row.{Row}
use Rattle.rows.specs.declared.Verdict.{Verdict}
use Rattle.rows.specs.declared.Verdict.TheVariants.{Zero, One, Flat, Open}
use Rattle.rows.specs.declared.Conclusion.{Conclusion}
use Rattle.rows.specs.Row.{judge_of, conclude_of, value_of, is_forced}
use Rattle.rows.specs.Model.{coeff_of}
use Rattle.rows.specs.Stored.{row_on, put_row}
use Rattle.rows.proofs.Upto.{get_d_up_to}
use Rattle.rows.proofs.Stored.{length_put, rest_put, row_same, put_rows}
use Rattle.places.specs.Places.{other_end}
use Rattle.places.proofs.Shape.{other_end_below}
use Rattle.places.proofs.Walk.{adjacent_front}
use Rattle.run.specs.Run.{Run, no_row, with_row, force, settle, judged, scan_at, moved, move_row, serve_at}
use Rattle.run.specs.Cells.{Cells, cells, base, run_in, Placed, Does, Settled, Acted}
use Rattle.meaning.proofs.Free.{frees_set}
use Rattle.run.proofs.Cells.{does_same, does_as, does_then}
use Rattle.run.proofs.Keeps.{unforced_stays}

-- ---- a verdict that forces a value, or none

-- the byte of whether a verdict is one is the value of a verdict that forces one
pub one_valued : {v : Verdict} {r : ℕ} {b : Bool} {x : Float} → r ≡ bool_byte b → b ≡ true → v ≡ One x → r ≡ value_of v
unfolding value_of
one_valued e m o = e ∙ ap bool_byte m ∙ sym (ap (λ (w : Verdict). value_of w) o)

pub zero_valued : (v : Verdict) {r : ℕ} {b : Bool} → is_forced v ≡ true → ((x : Float) → v ≡ One x → ⊥) → r ≡ bool_byte b → b ≡ false → r ≡ value_of v
unfolding value_of
zero_valued (Zero z) f n e m = e ∙ ap bool_byte m
zero_valued (One o) f n e m = absurd (n o refl)
zero_valued Flat f n e m = absurd (true≢false (sym f))
zero_valued Open f n e m = absurd (true≢false (sym f))

-- a verdict that forces a value forces 0 or 1, and settles as that value
forced_small : (v : Verdict) → is_forced v ≡ true → value_of v < 2
unfolding value_of
forced_small (Zero b) k = omega arith
forced_small (One b) k = omega arith
forced_small Flat k = absurd (true≢false (sym k))
forced_small Open k = absurd (true≢false (sym k))

forced_settles : (run : Run) (t : ℕ) (v : Verdict) → is_forced v ≡ true → force run t (value_of v) ≡ settle run t v
unfolding value_of settle
forced_settles run t (Zero b) k = refl
forced_settles run t (One b) k = refl
forced_settles run t Flat k = absurd (true≢false (sym k))
forced_settles run t Open k = absurd (true≢false (sym k))

-- ---- a free variable t and its row

module _ {F : Field} {s : Cells} (P : Placed F s) {t : ℕ} (ht : t < variables F) where
  module _ (free : get_or s.values t 0 ≡ 2) where
    -- it has a place in the queue
    queue_open : base F + s.tail < length s.words
    queue_open = omega (arith, P.queue_room, P.words_room, frees_set s.values t 0 free (omega arith))

    -- so a conclusion on it can be settled
    pub settle_room : {v : Verdict} {found : Conclusion} → found ≡ record { variable = t; verdict = v } → (found.variable < length s.values) × (base F + s.tail < length s.words)
    settle_room e = (rw e (omega (arith, P.values_long)), queue_open)

    module _ {x : ℕ} (small : x < 2) where
      abbrev forced_cells : Cells
      forced_cells = cells (set s.values t x) s.floats (set s.words (base F + s.tail) t) (s.tail + 1)

      front : take (base F) (set s.words (base F + s.tail) t) ≡ take (base F) s.words
      front = take-set-le (base F) s.words (base F + s.tail) t (omega arith)

      below : (h : ℕ) → h < s.tail + 1 → get_or (set s.words (base F + s.tail) t) (base F + h) 0 < variables F
      below h l = elim (ℕ_discrete h s.tail) [
        | yes e ↦ rw (e, get_or-set_same s.words (base F + s.tail) t 0 queue_open) ht
        | no ne ↦ rw (get_or-set_other s.words (base F + s.tail) (base F + h) t 0 (λ e. ne (omega arith))) (P.queue_below h (omega arith))
      ]

      force_does : Does F (λ run. force run t x) s forced_cells
      unfolding run_in force
      force_does = record {
        run = rw (region_push (base F) s.tail s.words t queue_open);
        kept = record {
          placed = record {
            shaped = P.shaped;
            values_long = length-set s.values t x ∙ P.values_long;
            floats_room = P.floats_room;
            adjacent = adjacent_front front (length-set s.words (base F + s.tail) t) P.adjacent;
            words_room = omega (arith, length-set s.words (base F + s.tail) t, P.words_room);
            queue_room = omega (arith, P.queue_room, frees_set s.values t x free small);
            queue_below = below;
          };
          grows = omega arith;
          front = front;
          words_rest = drop-set-lt (base F + (s.tail + 1)) s.words (base F + s.tail) t (omega arith);
          words_long = length-set s.words (base F + s.tail) t;
          floats_rest = refl;
          floats_long = refl;
        };
      }

  -- the conclusion on t's row
  module _ {found : Conclusion} (e : found ≡ conclude_of (row_on s.floats (variables F) t) t) where
    settles : settle (run_in F s) t found.verdict ≡ judged (run_in F s) t
    unfolding judged run_in
    settles =
        ap (λ (j : Conclusion). settle (run_in F s) t j.verdict) e
        ∙ ap (λ (r : Row). settle (run_in F s) t (judge_of r)) (sym (get_d_up_to (row_on s.floats (variables F)) (variables F) t no_row ht))

    judged_forced : {vs' u' : List ℕ} {r : ℕ} → get_or s.values t 0 ≡ 2 → is_forced found.verdict ≡ true
        → Settled found (base F) s.tail s.values s.words vs' u' r
        → Does F (λ run. judged run t) s (cells vs' s.floats u' r)
    judged_forced free k S =
        let i : found.variable ≡ t = ap (λ (j : Conclusion). j.variable) e in
        rw (S.values, S.words, S.end, i)
        (does_as (λ run. judged run t) (force_does free (forced_small found.verdict k)) (forced_settles (run_in F s) t found.verdict k ∙ settles))

    -- a row that forces nothing is passed over
    judged_acted : {vs' u' : List ℕ} {r : ℕ} → get_or s.values t 0 ≡ 2 → Acted found (base F) s.tail s.values s.words vs' u' r
        → Does F (λ run. judged run t) s (cells vs' s.floats u' r)
    judged_acted {vs'} {u'} {r} free A = go (is_forced found.verdict) refl
      where
        go : (b : Bool) → is_forced found.verdict ≡ b → Does F (λ run. judged run t) s (cells vs' s.floats u' r)
        go true k = judged_forced free k (A.forced k)
        go false k =
            let same = A.unforced k in
            rw (same.0, same.1.0, same.1.1) (does_same P (sym (unforced_stays (run_in F s) t found.verdict k) ∙ settles))

-- ---- a step of the scan

module _ {F : Field} {s : Cells} (P : Placed F s) {i : ℕ} (hi : i < variables F) where
  pub scan_fixed : get_or s.values i 0 ≢ 2 → Does F (λ run. scan_at run i) s s
  unfolding scan_at run_in
  scan_fixed ne = does_same P (rw (ne_eqb (get_or s.values i 0) 2 ne))

  module _ (free : get_or s.values i 0 ≡ 2) {row : Row} {found : Conclusion} (er : row ≡ row_on s.floats (variables F) i) (ec : found ≡ conclude_of row i) where
    of_row : found ≡ conclude_of (row_on s.floats (variables F) i) i
    of_row = ec ∙ ap (λ (r : Row). conclude_of r i) er

    scans : judged (run_in F s) i ≡ scan_at (run_in F s) i
    unfolding scan_at run_in
    scans = rw (eq-eqb (get_or s.values i 0) 2 free)

    pub scan_acted : {vs' u' : List ℕ} {r : ℕ} → Acted found (base F) s.tail s.values s.words vs' u' r
        → Does F (λ run. scan_at run i) s (cells vs' s.floats u' r)
    scan_acted A = does_as (λ run. scan_at run i) (judged_acted P hi of_row free A) scans

-- ---- a row is put

pub put_does : {F : Field} {s : Cells} → Placed F s → {t : ℕ} → t < variables F → (r : Row)
    → Does F (λ run. with_row run t r) s (cells s.values (put_row s.floats (variables F) t r) s.words s.tail)
unfolding run_in
put_does {F} {s} P {t} ht r =
    let n = variables F in
    record {
      run = rw (put_rows s.floats n t r ht P.floats_room);
      kept = record {
        placed = record {
          shaped = P.shaped;
          values_long = P.values_long;
          floats_room = omega (arith, P.floats_room, length_put s.floats n t r);
          adjacent = P.adjacent;
          words_room = P.words_room;
          queue_room = P.queue_room;
          queue_below = P.queue_below;
        };
        grows = le_refl _;
        front = refl;
        words_rest = refl;
        words_long = refl;
        floats_rest = rest_put s.floats n t r ht;
        floats_long = length_put s.floats n t r;
      };
    }

-- ---- a place of a served variable

module _ {F : Field} {s : Cells} (P : Placed F s) (i : ℕ) {k t : ℕ} (hk : k < entries F) (et : t ≡ other_end F.rows F.cols i k) where
  target_below : t < variables F
  target_below = other_end_below P.shaped i hk et

  module _ (v : ℕ) where
    pub serve_fixed : get_or s.values t 0 ≢ 2 → Does F (λ run. serve_at F i v run k) s s
    unfolding serve_at run_in
    serve_fixed ne = does_same P (rw (← et, ne_eqb (get_or s.values t 0) 2 ne))

    module _ (free : get_or s.values t 0 ≡ 2) {row : Row} {found : Conclusion} {f' : List Float} {a : Float} (ea : a ≡ coeff_of F k)
        (er : row ≡ moved (row_on s.floats (variables F) t) a v) (ef : f' ≡ put_row s.floats (variables F) t row) (ec : found ≡ conclude_of row t) where
      mid : Cells
      mid = cells s.values (put_row s.floats (variables F) t row) s.words s.tail

      moved_there : Does F (λ run. move_row run t a v) s mid
      unfolding mid move_row run_in
      moved_there =
          does_as (λ run. move_row run t a v) (put_does P target_below row)
          (rw (er, get_d_up_to (row_on s.floats (variables F)) (variables F) t no_row target_below))

      of_moved : found ≡ conclude_of (row_on mid.floats (variables F) t) t
      unfolding mid
      of_moved = ec ∙ ap (λ (r : Row). conclude_of r t) (sym (row_same s.floats (variables F) t row target_below P.floats_room))

      serves : judged (move_row (run_in F s) t a v) t ≡ serve_at F i v (run_in F s) k
      unfolding serve_at run_in
      serves = rw (← et, eq-eqb (get_or s.values t 0) 2 free, ea)

      then_judged : {s' : Cells} → Does F (λ run. judged run t) mid s' → Does F (λ run. serve_at F i v run k) s s'
      then_judged D = does_as (λ run. serve_at F i v run k) (does_then (λ run. judged run t) moved_there D) serves

      pub serve_acted : {vs' u' : List ℕ} {r : ℕ} → Acted found (base F) s.tail s.values s.words vs' u' r
          → Does F (λ run. serve_at F i v run k) s (cells vs' f' u' r)
      unfolding mid
      serve_acted A = rw ef (then_judged (judged_acted moved_there.kept.placed target_below of_moved free A))
