-- Rows made afresh in the cells are rows made afresh in the run; the turns of the loops over places. Assumes nothing.
use Prim.Native.Nat.{ℕ, ◌+◌, ◌*◌, ◌<◌, ◌≤◌}
use mathlib.Core.Path.{◌≡◌, sym, ◌∙◌}
use mathlib.Core.Logic.{◌≢◌, ◌⊎◌, inl, inr, ⊎_elim}
use mathlib.Core.List.{List}
use native.Mathlib.Decide.{ℕ_discrete, dec_lt}
use native.Mathlib.Omega.{arith}
use borrow.Author.Tests.{eq-eqb, ne_eqb, eqb-true}
use lib.Ieee.{Float}
use lib.ListN.{length, get_or}
use Rattle.field.specs.Field.{Field, variables, entries, Standard}
use Rattle.rows.specs.declared.Row.{Row}
use Rattle.rows.specs.Model.{row_of}
use Rattle.rows.specs.Stored.{row_on, put_row}
use Rattle.rows.proofs.Upto.{length_up_to}
use Rattle.places.specs.Places.{other_end, entry_in, Touches, Word}
use Rattle.places.proofs.Shape.{other_end_below}
use Rattle.places.proofs.Walk.{part_long, part_most, place_word}
use Rattle.run.specs.Run.{with_row}
use Rattle.run.specs.Cells.{Cells, cells, run_in, Placed, Kept, Does}
use Rattle.run.proofs.Moves.{put_does}
use Rattle.run.proofs.Cells.{kept_same, kept_then, does_same, does_as}
use Rattle.scanning.specs.declared.Cursor.{Cursor}
use Rattle.scanning.specs.Merge.{Next, near_at, far_at, Through}
use Rattle.scanning.proofs.Order.{place_entry, stands}
use Rattle.probing.specs.Remembered.{Readable, fresh_row, fresh_at, fresh}
use Rattle.probing.specs.Once.{Within, Paired, Once}
use Rattle.probing.proofs.Once.{Toward, Made, toward_start, toward_turn, made_here, made_still, toward_done}

-- what a row made afresh asks is in place
pub readable : {F : Field} {s : Cells} → Placed F s → Standard F → Readable F s.values s.words
readable P off = record { shaped = P.shaped; standard = off; values_long = P.values_long; adjacent = P.adjacent }

-- ---- a place of the probed variable

module _ {F : Field} {s : Cells} (P : Placed F s) (i : ℕ) {k t : ℕ} (hk : k < entries F) (et : t ≡ other_end F.rows F.cols i k) where
  pub refresh_fixed : get_or s.values t 0 ≢ 2 → Does F (λ run. fresh_at F i run k) s s
  unfolding fresh_at run_in
  refresh_fixed ne = does_same P (rw (← et, ne_eqb (get_or s.values t 0) 2 ne))

  made_afresh : {r : Row} → get_or s.values t 0 ≡ 2 → r ≡ row_of F s.values t → with_row (run_in F s) t r ≡ fresh_at F i (run_in F s) k
  unfolding fresh_at fresh_row run_in
  made_afresh free er = rw (← et, eq-eqb (get_or s.values t 0) 2 free, er)

  pub refresh_free : {r : Row} {f' : List Float} → get_or s.values t 0 ≡ 2 → r ≡ row_of F s.values t → f' ≡ put_row s.floats (variables F) t r
      → Does F (λ run. fresh_at F i run k) s (cells s.values f' s.words s.tail)
  refresh_free {r} free er ef = rw ef (does_as (λ run. fresh_at F i run k) (put_does P (other_end_below P.shaped i hk et) r) (made_afresh free er))

-- ---- a place, once for each neighbour

module _ {F : Field} {s : Cells} (P : Placed F s) {i end x : ℕ} (W : Within F s.words i end x) where
  pub cursor_reads : Through F.rows F.cols s.words (variables F + 1) x end
  cursor_reads = record {
    start = W.to;
    room = omega (arith, part_most P.adjacent W.here, W.stop, P.words_room);
    same = P.shaped.cols_long ∙ sym P.shaped.rows_long;
    entry = λ p a z. omega (arith, place_entry P.shaped P.adjacent W.here {p = p} (omega (arith, W.from)) (omega (arith, W.stop)), P.shaped.rows_long);
  }

  module _ {b : ℕ} {r : Cursor} (N : Next (near_at F.rows s.words (variables F + 1) i) (far_at F.cols s.words (variables F + 1)) b x end (variables F) r) where
    pub cursor_goes : Within F s.words i end r.at
    cursor_goes = record { here = W.here; from = omega (arith, W.from, N.from); to = N.to; stop = W.stop }

    pub paired : {k t : ℕ} → k < entries F → t ≡ get_or F.rows k 0 → t ≢ i → r.head ≡ t → Paired F i k
    paired {k} {t} hk et ne eh =
        let l : r.at < end = go (dec_lt r.at end) in
        let f = N.found l in
        record {
          apart = λ e. ne (et ∙ e);
          entry = entry_in (get_or s.words (variables F + 1 + r.at) 0);
          within = cursor_reads.entry r.at N.from l;
          near = eqb-true _ _ f.0;
          far = sym f.1 ∙ eh ∙ et;
        }
      where
        go : Dec (r.at < end) → r.at < end
        go (yes l) = l
        go (no n) = absurd (omega (arith, N.none (omega arith), P.shaped.row_below k hk))

-- ---- the places of i: p is the place to come, and x the cursor

pub rows_many : (F : Field) (s : Cells) → length (run_in F s).rows ≡ variables F
unfolding run_in
rows_many F s = length_up_to (row_on s.floats (variables F)) (variables F)

module _ (F : Field) (i end p x : ℕ) (vs u : List ℕ) (f₀ f : List Float) where
  pub record Refreshing : Type 0 where
    pub placed : Placed F (cells vs f₀ u 0)
    pub place : Within F u i end p
    pub cursor : Within F u i end x
    pub kept : Kept F (cells vs f₀ u 0) (cells vs f u 0)
    pub toward : Toward placed.shaped i (run_in F (cells vs f₀ u 0)) (rows_many F (cells vs f₀ u 0)) (run_in F (cells vs f u 0))
    pub passed : (y : ℕ) → get_or u i 0 ≤ y → y < p
        → Made placed.shaped i (run_in F (cells vs f₀ u 0)) (rows_many F (cells vs f₀ u 0)) (run_in F (cells vs f u 0)) (entry_in (get_or u (variables F + 1 + y) 0))
        ⊎ Paired F i (entry_in (get_or u (variables F + 1 + y) 0))

pub refresh_start : {F : Field} {vs u : List ℕ} {f : List Float} {i a b : ℕ} → Placed F (cells vs f u 0) → i < variables F → a ≡ get_or u i 0 → b ≡ get_or u (i + 1) 0
    → Refreshing F i b a a vs u f f
refresh_start {F} {vs} {u} {f} {i} {a} {b} P h ea eb =
    let w : Within F u i b a = record { here = h; from = omega arith; to = omega (arith, part_long P.adjacent h); stop = eb } in
    record {
      placed = P;
      place = w;
      cursor = w;
      kept = kept_same P;
      toward = toward_start P.shaped i (run_in F (cells vs f u 0)) (rows_many F (cells vs f u 0));
      passed = λ y l z. absurd (omega arith);
    }

module _ {F : Field} {i end p x : ℕ} {vs u : List ℕ} {f₀ f : List Float} (R : Refreshing F i end p x vs u f₀ f) where
  -- what a turn reads
  pub refresh_reads : p < end → (variables F + 1 + p < length u) × ((p < 2 * length F.rows) × (entry_in (get_or u (variables F + 1 + p) 0) < entries F))
  refresh_reads l =
      let m = part_most R.placed.adjacent R.place.here in (
        omega (arith, m, R.place.stop, R.placed.words_room),
        (omega (arith, m, R.place.stop), place_entry R.placed.shaped R.placed.adjacent R.place.here {p = p} R.place.from (omega (arith, R.place.stop))),
      )

  pub refresh_turn : {f' : List Float} {k x' : ℕ} → p < end → k ≡ entry_in (get_or u (variables F + 1 + p) 0) → Within F u i end x'
      → Once F i k (cells vs f u 0) (cells vs f' u 0) → Refreshing F i end (p + 1) x' vs u f₀ f'
  refresh_turn {f'} {k} {x'} l ek W (inl D) = record {
    placed = R.placed;
    place = record { here = R.place.here; from = omega (arith, R.place.from); to = omega arith; stop = R.place.stop };
    cursor = W;
    kept = kept_then R.kept D.kept;
    toward = rw D.run (toward_turn _ i _ _ R.toward k here touch);
    passed = λ y a z. go y a (ℕ_discrete y p) z;
  }
    where
      word : Word F.rows F.cols i (get_or u (variables F + 1 + p) 0)
      word = place_word R.placed.adjacent R.place.here R.place.from (omega (arith, R.place.stop))

      here : k < entries F
      here = omega (arith, word.entry, R.placed.shaped.rows_long)

      touch : Touches F.rows F.cols i k
      touch = rw ek word.touches

      go : (y : ℕ) → get_or u i 0 ≤ y → Dec (y ≡ p) → y < p + 1
          → Made R.placed.shaped i (run_in F (cells vs f₀ u 0)) (rows_many F (cells vs f₀ u 0)) (run_in F (cells vs f' u 0)) (entry_in (get_or u (variables F + 1 + y) 0))
          ⊎ Paired F i (entry_in (get_or u (variables F + 1 + y) 0))
      go y a (yes e) z = inl (rw (D.run, e, ← ek) (made_here _ i _ _ R.toward k here touch))
      go y a (no n) z = ⊎_elim (λ m. inl (rw D.run (made_still _ i _ _ R.toward k here touch _ m))) inr (R.passed y a (omega arith))
  refresh_turn {f'} {k} {x'} l ek W (inr D) = record {
    placed = R.placed;
    place = record { here = R.place.here; from = omega (arith, R.place.from); to = omega arith; stop = R.place.stop };
    cursor = W;
    kept = kept_then R.kept D.0.kept;
    toward = rw D.0.run R.toward;
    passed = λ y a z. go y a (ℕ_discrete y p) z;
  }
    where
      go : (y : ℕ) → get_or u i 0 ≤ y → Dec (y ≡ p) → y < p + 1
          → Made R.placed.shaped i (run_in F (cells vs f₀ u 0)) (rows_many F (cells vs f₀ u 0)) (run_in F (cells vs f' u 0)) (entry_in (get_or u (variables F + 1 + y) 0))
          ⊎ Paired F i (entry_in (get_or u (variables F + 1 + y) 0))
      go y a (yes e) z = inr (rw (e, ← ek) D.1)
      go y a (no n) z = ⊎_elim (λ m. inl (rw D.0.run m)) inr (R.passed y a (omega arith))

  pub refresh_done : end ≤ p → Does F (λ run. fresh F run i) (cells vs f₀ u 0) (cells vs f u 0)
  refresh_done l = record { run = toward_done _ i _ _ R.toward all; kept = R.kept }
    where
      all : (k : ℕ) → k < entries F → Touches F.rows F.cols i k
          → Made R.placed.shaped i (run_in F (cells vs f₀ u 0)) (rows_many F (cells vs f₀ u 0)) (run_in F (cells vs f u 0)) k ⊎ Paired F i k
      all k h touch =
          let z = stands R.placed.shaped R.placed.adjacent R.place.here k h touch in
          rw z.holds at (R.passed z.position z.from (omega (arith, z.to, R.place.stop)))
