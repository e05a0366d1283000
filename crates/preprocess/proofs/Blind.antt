-- On every field, exact or not, the closure does not see the variables of no effect: it leaves them, and its other values do not turn on them. Assumes nothing.
use Prim.Native.Nat.{ℕ, zero, suc, ◌*◌, ◌<◌, ◌≤◌}
use mathlib.Core.Path.{◌≡◌, refl, sym, ap, ◌∙◌}
use mathlib.Core.Logic.{◌≢◌}
use mathlib.Core.Bool.{Bool, true, false, cond, true≢false}
use mathlib.Core.List.{List, [], ◌∷◌, ◌++◌}
use native.Mathlib.Decide.{ℕ_discrete, dec_lt}
use native.Mathlib.Nat.{zero-mul}
use native.Mathlib.Omega.{arith}
use borrow.Author.Tests.{eqb-true, ne_eqb, ltb-true}
use lib.Dec.{eqb, ltb}
use lib.IntN.{pos}
use lib.ListN.{length, get_or, set, length-set, length-append, get_or-append}
use lib.Seq.{get_or-set_same, get_or-set_other, set_out, get_or-append_seam}
use lib.Ieee.{Float, nan, inf, fin, eq, lt, of_bits, up, down, below, level}
use Rattle.weights.specs.Worth.{zero64}
use Rattle.scratch.proofs.All.{both}
use Rattle.field.specs.Field.{Field, variables, entries, linear_of, row_end, column_end, Shaped}
use Rattle.rows.specs.declared.Row.{Row}
use Rattle.rows.specs.declared.Verdict.{Verdict}
use Rattle.rows.specs.declared.Verdict.TheVariants.{Zero, One, Flat, Open}
use Rattle.rows.specs.Row.{start_row, judge_of, is_strict}
use Rattle.rows.specs.Model.{coeff_of, at_end, at_entry, row_to, row_of}
use Rattle.rows.specs.Stored.{up_to}
use Rattle.rows.proofs.Upto.{get_d_up_to, up_to_same}
use Rattle.places.specs.Places.{places, other_end}
use Rattle.places.proofs.Places.{places_touch, other_column, other_row}
use Rattle.run.specs.Run.{Run, no_row, row_for, is_free, force, settle, judged, scan_at, scan_to, moved, move_row, serve_at, serve_all, serve, work, propagate, closure_run, closure}
use Rattle.run.proofs.Keeps.{unforced_stays}
use Rattle.no_effect.specs.Effect.{has_no_effect, NoEntry}
use Rattle.no_effect.proofs.Listed.{effect_means}

-- ---- a row of no effect forces nothing

-- ±a is 0 where it is equal to 0, and not on either side of it
level_zero : (s : Bool) (a b : ℕ) → b ≡ 0 → level s a false b ≡ true → (below false b s a ≡ false) × (below s a false b ≡ false)
level_zero s a b z e = let q : a ≡ 0 = eqb-true a b (both (eqb a b) _ e).0 ∙ z in rw (q, z) (by s)
  where
    by : (t : Bool) → (below false 0 t 0 ≡ false) × (below t 0 false 0 ≡ false)
    by true = (refl, refl)
    by false = (refl, refl)

zero_unforced : (x : Float) → eq x zero64 ≡ true → is_strict (start_row x) ≡ false
unfolding eq lt of_bits
zero_unforced nan e = absurd (true≢false (sym e))
zero_unforced (inf s) e = absurd (true≢false (sym e))
zero_unforced (fin s m d) e =
    let sides = level_zero s (m * up d * down (pos 0)) (0 * up (pos 0) * down d) (ap (λ (y : ℕ). y * down d) (zero-mul (up (pos 0))) ∙ zero-mul (down d)) e in
    rw (sides.0, sides.1, e)

module _ {F : Field} (S : Shaped F) where
  -- an end of an entry has an effect
  pub ends_touch : (k : ℕ) → k < entries F → (has_no_effect F (row_end F k) ≡ false) × (has_no_effect F (column_end F k) ≡ false)
  ends_touch k h = (by (row_end F k) (has_no_effect F (row_end F k)) refl (λ n. (n k h).0 refl), by (column_end F k) (has_no_effect F (column_end F k)) refl (λ n. (n k h).1 refl))
    where
      by : (i : ℕ) (b : Bool) → has_no_effect F i ≡ b → (NoEntry F i → ⊥) → has_no_effect F i ≡ false
      by i true e n = absurd (n ((effect_means F i S.rows_long).0 e).0)
      by i false e n = e

  other_touches : (i k : ℕ) → k < entries F → has_no_effect F (other_end F.rows F.cols i k) ≡ false
  other_touches i k h = elim (ℕ_discrete (row_end F k) i) [
    | yes e ↦ rw (other_column F.rows F.cols i k e) (ends_touch k h).1
    | no n ↦ rw (other_row F.rows F.cols i k n) (ends_touch k h).0
  ]

  -- the row of a variable without an entry stays at its start
  row_start : (s : List ℕ) (i : ℕ) → NoEntry F i → (k : ℕ) → k ≤ entries F → row_to F s i k ≡ start_row (linear_of F i)
  unfolding row_to at_entry at_end
  row_start s i none zero h = refl
  row_start s i none (suc k) h =
      rw (ne_eqb (column_end F k) i (none k (omega arith)).1, ne_eqb (row_end F k) i (none k (omega arith)).0) (row_start s i none k (omega arith))

  idle_unforced : (s : List ℕ) (i : ℕ) → has_no_effect F i ≡ true → is_strict (row_of F s i) ≡ false
  unfolding row_of
  idle_unforced s i e =
      let p = (effect_means F i S.rows_long).0 e in
      ap is_strict (row_start s i p.0 (entries F) (omega arith)) ∙ zero_unforced (linear_of F i) p.1

  -- rows turn on the values of ends alone
  row_same : (s s' : List ℕ) → ((t : ℕ) → has_no_effect F t ≡ false → get_or s' t 0 ≡ get_or s t 0) → (i k : ℕ) → k ≤ entries F → row_to F s' i k ≡ row_to F s i k
  unfolding row_to at_entry
  row_same s s' off i zero h = refl
  row_same s s' off i (suc k) h =
      rw (off (row_end F k) (ends_touch k (omega arith)).0, off (column_end F k) (ends_touch k (omega arith)).1, row_same s s' off i k (omega arith))

-- ---- two runs from values that differ at variables of no effect alone

-- a run leaves the values that variables of no effect have in s
record Leaves (F : Field) (s : List ℕ) (run : Run) : Type 0 where
  still : (t : ℕ) → has_no_effect F t ≡ true → get_or run.values t 0 ≡ get_or s t 0
  unforced : (t : ℕ) → t < variables F → has_no_effect F t ≡ true → is_strict (row_for run t) ≡ false
  queued : (h : ℕ) → h < length run.queue → has_no_effect F (get_or run.queue h 0) ≡ false

record Beside (F : Field) (s s' : List ℕ) (run other : Run) : Type 0 where
  long : length other.values ≡ length run.values
  off : (t : ℕ) → has_no_effect F t ≡ false → get_or other.values t 0 ≡ get_or run.values t 0
  rows : other.rows ≡ run.rows
  queue : other.queue ≡ run.queue
  leaves : Leaves F s run
  leaves' : Leaves F s' other

set_both : (l m : List ℕ) (t v : ℕ) → length m ≡ length l → (j : ℕ) → get_or m j 0 ≡ get_or l j 0 → get_or (set m t v) j 0 ≡ get_or (set l t v) j 0
set_both l m t v long j same = elim (ℕ_discrete j t) [
  | no n ↦ get_or-set_other m t j v 0 n ∙ same ∙ sym (get_or-set_other l t j v 0 n)
  | yes i ↦ elim (dec_lt t (length l)) [
    | yes h ↦ rw i (get_or-set_same m t v 0 (omega arith) ∙ sym (get_or-set_same l t v 0 h))
    | no h ↦ rw (set_out m t v (omega arith), set_out l t v (omega arith)) same
  ]
]

differ : (F : Field) {t j : ℕ} → has_no_effect F t ≡ false → has_no_effect F j ≡ true → j ≢ t
differ F p q e = true≢false (sym q ∙ ap (has_no_effect F) e ∙ p)

-- ---- what one run leaves

leaves_force : {F : Field} {s : List ℕ} (run : Run) (t v : ℕ) → has_no_effect F t ≡ false → Leaves F s run → Leaves F s (force run t v)
unfolding force
leaves_force {F} run t v p L = record {
  still = λ j q. get_or-set_other run.values t j v 0 (differ F p q) ∙ L.still j q;
  unforced = L.unforced;
  queued = λ h l. elim (ℕ_discrete h (length run.queue)) [
    | yes e ↦ rw (e, get_or-append_seam run.queue t [] 0) p
    | no n ↦
        let k : h < length run.queue = omega (arith, length-append run.queue (t ∷ [])) in
        rw (get_or-append run.queue (t ∷ []) 0 h k) (L.queued h k)
  ];
}

leaves_move : {F : Field} {s : List ℕ} (run : Run) (t : ℕ) (a : Float) (v : ℕ) → has_no_effect F t ≡ false → Leaves F s run → Leaves F s (move_row run t a v)
unfolding move_row
leaves_move {F} run t a v p L = record {
  still = L.still;
  unforced = λ j l q. ap is_strict (get_or-set_other run.rows t j _ no_row (differ F p q)) ∙ L.unforced j l q;
  queued = L.queued;
}

-- a scan passes over a row that forces nothing
unforced_scan : (run : Run) (i : ℕ) → is_strict (row_for run i) ≡ false → scan_at run i ≡ run
unfolding scan_at judged
unforced_scan run i e = rw (unforced_stays run i (judge_of (row_for run i)) e) (by (is_free run i))
  where
    by : (b : Bool) → cond b run run ≡ run
    by true = refl
    by false = refl

fresh_leaves : {F : Field} → Shaped F → (s : List ℕ) → Leaves F s (record { values = s; rows = up_to (row_of F s) (variables F); queue = [] })
fresh_leaves {F} S s = record {
  still = λ t q. refl;
  unforced = λ t l q. ap is_strict (get_d_up_to (row_of F s) (variables F) t no_row l) ∙ idle_unforced S s t q;
  queued = λ h l. absurd (omega arith);
}

-- ---- a variable with an effect is judged

module _ {F : Field} where
  module _ {s s' : List ℕ} where
    beside_force : (run other : Run) (t v : ℕ) → has_no_effect F t ≡ false → Beside F s s' run other → Beside F s s' (force run t v) (force other t v)
    unfolding force
    beside_force run other t v p B = record {
      long = length-set other.values t v ∙ B.long ∙ sym (length-set run.values t v);
      off = λ j q. set_both run.values other.values t v B.long j (B.off j q);
      rows = B.rows;
      queue = ap (λ (x : List ℕ). x ++ (t ∷ [])) B.queue;
      leaves = leaves_force run t v p B.leaves;
      leaves' = leaves_force other t v p B.leaves';
    }

    beside_settle : (run other : Run) (t : ℕ) (r : Verdict) → has_no_effect F t ≡ false → Beside F s s' run other → Beside F s s' (settle run t r) (settle other t r)
    unfolding settle
    beside_settle run other t (Zero b) p B = beside_force run other t 0 p B
    beside_settle run other t (One b) p B = beside_force run other t 1 p B
    beside_settle run other t Flat p B = B
    beside_settle run other t Open p B = B

    beside_judged : (run other : Run) (t : ℕ) → has_no_effect F t ≡ false → Beside F s s' run other → Beside F s s' (judged run t) (judged other t)
    unfolding judged
    beside_judged run other t p B = go (judge_of (row_for other t)) (ap (λ (rows : List Row). judge_of (get_or rows t no_row)) B.rows)
      where
        go : (r : Verdict) → r ≡ judge_of (row_for run t) → Beside F s s' (settle run t (judge_of (row_for run t))) (settle other t r)
        go r e = rw e (beside_settle run other t (judge_of (row_for run t)) p B)

    -- a test that comes out the same leads both the same way
    same_way : {run other run' other' : Run} (b c : Bool) → c ≡ b → (b ≡ true → Beside F s s' run other) → Beside F s s' run' other' → Beside F s s' (cond b run run') (cond c other other')
    same_way true c e p q = rw e (p refl)
    same_way false c e p q = rw e q

    same_free : {run other : Run} → Beside F s s' run other → (t : ℕ) → has_no_effect F t ≡ false → is_free other t ≡ is_free run t
    same_free B t p = ap (λ (x : ℕ). eqb x 2) (B.off t p)

    -- ---- the scan

    beside_scan : (run other : Run) (i : ℕ) → i ≤ variables F → Beside F s s' run other → Beside F s s' (scan_to run i) (scan_to other i)
    unfolding scan_to scan_at
    beside_scan run other zero h B = B
    beside_scan run other (suc i) h B = by (has_no_effect F i) refl (beside_scan run other i (omega arith) B)
      where
        by : (b : Bool) → has_no_effect F i ≡ b → Beside F s s' (scan_to run i) (scan_to other i) → Beside F s s' (scan_at (scan_to run i) i) (scan_at (scan_to other i) i)
        by true e C = rw (unforced_scan (scan_to run i) i (C.leaves.unforced i h e), unforced_scan (scan_to other i) i (C.leaves'.unforced i h e)) C
        by false e C = same_way (is_free (scan_to run i) i) (is_free (scan_to other i) i) (same_free C i e) (λ f. beside_judged (scan_to run i) (scan_to other i) i e C) C

    -- ---- a row is moved

    beside_move : (run other : Run) (t : ℕ) (a : Float) (v : ℕ) → has_no_effect F t ≡ false → Beside F s s' run other → Beside F s s' (move_row run t a v) (move_row other t a v)
    unfolding move_row
    beside_move run other t a v p B = record {
      long = B.long;
      off = B.off;
      rows = ap (λ (rows : List Row). set rows t (moved (get_or rows t no_row) a v)) B.rows;
      queue = B.queue;
      leaves = leaves_move run t a v p B.leaves;
      leaves' = leaves_move other t a v p B.leaves';
    }

  -- ---- the queue is served

  module _ (S : Shaped F) {s s' : List ℕ} where
    beside_place : (i v : ℕ) (run other : Run) (k : ℕ) → k < entries F → Beside F s s' run other → Beside F s s' (serve_at F i v run k) (serve_at F i v other k)
    unfolding serve_at
    beside_place i v run other k h B =
        let t = other_end F.rows F.cols i k in
        let p = other_touches S i k h in
        same_way (is_free run t) (is_free other t) (same_free B t p)
        (λ e. beside_judged (move_row run t (coeff_of F k) v) (move_row other t (coeff_of F k) v) t p (beside_move run other t (coeff_of F k) v p B))
        B

    beside_places : (i v : ℕ) (run other : Run) (ks : List ℕ) → ((x : ℕ) → x < length ks → get_or ks x 0 < entries F) → Beside F s s' run other
        → Beside F s s' (serve_all F i v run ks) (serve_all F i v other ks)
    unfolding serve_all
    beside_places i v run other [] h B = B
    beside_places i v run other (k ∷ ks) h B = beside_places i v (serve_at F i v run k) (serve_at F i v other k) ks (λ x l. h (suc x) (omega arith)) (beside_place i v run other k (h 0 (omega arith)) B)

    beside_serve : (run other : Run) (i j : ℕ) → j ≡ i → has_no_effect F i ≡ false → Beside F s s' run other → Beside F s s' (serve F run i) (serve F other j)
    unfolding serve
    beside_serve run other i j e p B = rw e (go (get_or other.values i 0) (B.off i p))
      where
        go : (v : ℕ) → v ≡ get_or run.values i 0 → Beside F s s' (serve_all F i (get_or run.values i 0) run (places F.rows F.cols i)) (serve_all F i v other (places F.rows F.cols i))
        go v q = rw q (beside_places i (get_or run.values i 0) run other (places F.rows F.cols i) (λ x l. omega (arith, (places_touch F.rows F.cols i x l).0, S.rows_long)) B)

    beside_work : (turns : ℕ) (run other : Run) (h : ℕ) → Beside F s s' run other → Beside F s s' (work F turns run h) (work F turns other h)
    unfolding work
    beside_work zero run other h B = B
    beside_work (suc turns) run other h B =
        same_way (ltb h (length run.queue)) (ltb h (length other.queue)) (ap (λ (q : List ℕ). ltb h (length q)) B.queue)
        (λ e. beside_work turns _ _ (suc h) (beside_serve run other (get_or run.queue h 0) (get_or other.queue h 0) (ap (λ (q : List ℕ). get_or q h 0) B.queue) (B.leaves.queued h (ltb-true _ _ e)) B))
        B

    -- ---- the closure

    blind : length s' ≡ length s → ((t : ℕ) → has_no_effect F t ≡ false → get_or s' t 0 ≡ get_or s t 0) → Beside F s s' (closure_run F s) (closure_run F s')
    unfolding closure_run propagate row_of
    blind long off = beside_work (variables F) _ _ 0 (beside_scan _ _ (variables F) (omega arith) (record {
      long = long;
      off = off;
      rows = up_to_same (row_of F s') (row_of F s) (variables F) (λ i l. row_same S s s' off i (entries F) (omega arith));
      queue = refl;
      leaves = fresh_leaves S s;
      leaves' = fresh_leaves S s';
    }))

-- Values that differ at variables of no effect alone have closures that differ there alone ..
pub closure_blind : {F : Field} → Shaped F → (s s' : List ℕ) → length s' ≡ length s → ((t : ℕ) → has_no_effect F t ≡ false → get_or s' t 0 ≡ get_or s t 0)
    → (t : ℕ) → has_no_effect F t ≡ false → get_or (closure F s') t 0 ≡ get_or (closure F s) t 0
unfolding closure
closure_blind S s s' long off = (blind S long off).off

-- .. and each closure leaves them as they were.
pub closure_leaves : {F : Field} → Shaped F → (s : List ℕ) (t : ℕ) → has_no_effect F t ≡ true → get_or (closure F s) t 0 ≡ get_or s t 0
unfolding closure
closure_leaves S s t e = (blind S {s = s} {s' = s} refl (λ j q. refl)).leaves.still t e
