-- Where the scan passes over the first variables it changes nothing; where it passes over all, neither does the run. Assumes nothing.
use Prim.Native.Nat.{ℕ, zero, suc, ◌≤◌}
use mathlib.Core.Path.{◌≡◌, refl, sym, ap, ◌∙◌}
use mathlib.Core.Bool.{Bool, true, false, not, cond, ◌&&◌, false≢true}
use mathlib.Core.List.{List, []}
use mathlib.Core.Logic.{◌≢◌}
use native.Mathlib.Omega.{arith}
use borrow.Author.Tests.{eq-eqb, ne_eqb}
use lib.Dec.{eqb}
use lib.Ieee.{Float}
use lib.ListN.{length}
use Rattle.std.specs.Prelude.{Option}
use Rattle.std.specs.Option.{is_some}
use Rattle.scratch.specs.All.{all_below, Passing}
use Rattle.scratch.proofs.All.{all_means, both}
use Rattle.scratch.specs.Region.{region}
use Rattle.meaning.specs.Free.{is_free}
use Rattle.field.specs.Field.{Field, variables}
use Rattle.field.specs.Tests.{first_from}
use Rattle.field.proofs.Faults.{FirstFail, first_is, first_end, first_there}
use Rattle.rows.specs.declared.Row.{Row}
use Rattle.rows.specs.declared.Verdict.{Verdict}
use Rattle.rows.specs.declared.Verdict.TheVariants.{Zero, One, Flat, Open}
use Rattle.rows.specs.Row.{is_forced, judge_of, is_strict}
use Rattle.rows.specs.Stored.{row_on, rows_on, Filled}
use Rattle.rows.proofs.Upto.{get_d_up_to}
use Rattle.rows.proofs.Stored.{written_rows}
use Rattle.run.specs.Run.{Run, no_row, row_for, judged, scan_at, scan_to, work, propagate, closure_run, flat_to, flat_rows}
use Rattle.run.specs.Cells.{Cells, cells, run_in, Placed, Does, forced_by}
use Rattle.run.specs.First.{passes, Closes}
use Rattle.run.proofs.Keeps.{unforced_stays, work_stays}
use Rattle.run.proofs.Cells.{does_same}
use Rattle.run.proofs.Turns.{Scanning, propagate_does, closed_run}

-- ---- a variable is passed over

-- a verdict forces no value exactly where it is not forced
forced_none : (v : Verdict) {o : Option ℕ} {b : Bool} → o ≡ forced_by v → is_some o ≡ not b → b ≡ not (is_forced v)
forced_none v {b = b} e s = told v b (ap is_some (sym e) ∙ s)
  where
    told : (v : Verdict) (b : Bool) → is_some (forced_by v) ≡ not b → b ≡ not (is_forced v)
    told (Zero a) false s = refl
    told (Zero a) true s = s
    told (One a) false s = refl
    told (One a) true s = s
    told Flat true s = refl
    told Flat false s = s
    told Open true s = refl
    told Open false s = s

-- a value, or the row's verdict as the code finds it
pub passes_fixed : {x : ℕ} (strict : Bool) → x ≢ 2 → true ≡ not (eqb x 2 && strict)
passes_fixed {x} strict ne = rw (ne_eqb x 2 ne)

pub passes_told : {row r : Row} {v : Verdict} {x : ℕ} {value : Option ℕ} {b : Bool} → x ≡ 2 → row ≡ r → v ≡ judge_of row → value ≡ forced_by v → is_some value ≡ not b
    → b ≡ not (eqb x 2 && is_strict r)
passes_told {r = r} {x = x} free er ev e s =
    forced_none (judge_of r) (e ∙ ap forced_by (ev ∙ ap (λ (w : Row). judge_of w) er)) s ∙ rw (eq-eqb x 2 free)

module _ (run : Run) (i : ℕ) {row : Row} (e : row_for run i ≡ row) where
  scan_passes : not (is_free run.values i && is_strict row) ≡ true → scan_at run i ≡ run
  unfolding scan_at judged
  scan_passes h = go (is_free run.values i) (is_forced (judge_of row)) refl h
    where
      go : (b c : Bool) → is_forced (judge_of row) ≡ c → not (b && c) ≡ true → cond b (judged run i) run ≡ run
      go false c d h = refl
      go true false d h = unforced_stays run i (judge_of (row_for run i)) (ap (λ (r : Row). is_forced (judge_of r)) e ∙ d)
      go true true d h = absurd (false≢true h)

-- ---- the scan begins behind the variables that it passes over

module _ (F : Field) (s : Cells) (long : length s.values ≡ variables F) where
  scan_still : (i : ℕ) → i ≤ variables F → all_below (passes s.values s.floats) i ≡ true → scan_to (run_in F s) i ≡ run_in F s
  unfolding scan_to all_below run_in
  scan_still zero l e = refl
  scan_still (suc i) l e =
      let t = both (passes s.values s.floats i) (all_below (passes s.values s.floats) i) e in
      ap (λ (run : Run). scan_at run i) (scan_still i (omega arith) t.1)
      ∙ scan_passes (run_in F s) i (get_d_up_to (row_on s.floats (variables F)) (variables F) i no_row (omega arith) ∙ ap (λ (n : ℕ). row_on s.floats n i) (sym long)) t.0

pub scan_start_from : {F : Field} {s : Cells} {from : ℕ} → Placed F s → Passing (passes s.values s.floats) (length s.values) from → Scanning F from s s
scan_start_from {F} {s} {from} P B = record {
  within = omega (arith, B.within, P.values_long);
  does = does_same P (sym (scan_still F s P.values_long from (omega (arith, B.within, P.values_long)) B.so_far));
}

-- ---- the first variable that it does not pass over

pub first_passing : (p : ℕ → Bool) (n : ℕ) {k : ℕ} → k ≡ first_from p 0 n → Passing p n k
first_passing p n {k} e = go (all_below p n) refl
  where
    stopped : (j : ℕ) → FirstFail p n j → Passing p n k
    stopped j f =
        let same : k ≡ j = e ∙ first_is p f in
        rw same record { within = omega (arith, f.within); so_far = (all_means p j).1 f.before }

    go : (b : Bool) → all_below p n ≡ b → Passing p n k
    go true a =
        let whole : Passing p n n = record { within = omega arith; so_far = a } in
        let same : k ≡ n = e ∙ sym (first_end p whole (omega arith)) in
        rw same whole
    go false a = let found = first_there p n a in stopped found.0 found.1

-- ---- where all are passed over the run is where it starts

module _ (F : Field) (s : List ℕ) {f₀ : List Float} (f : List Float) (filled : Filled F s f₀ f) (long : length s ≡ variables F) where
  still_run : Passing (passes s f) (length s) (length s) → run_in F (cells s f [] 0) ≡ closure_run F s
  unfolding closure_run propagate run_in region
  still_run B =
      sym (work_stays F (variables F) (run_in F (cells s f [] 0)) 0 (omega arith))
      ∙ ap (λ (run : Run). work F (variables F) run 0) (sym (scan_still F (cells s f [] 0) long (variables F) (omega arith) (rw long at B.so_far)))
      ∙ ap (propagate F s) (written_rows filled)

  pub still_closes : {from : ℕ} → Passing (passes s f) (length s) from → length s ≤ from → Closes F s f₀ s f
  unfolding run_in
  still_closes {from} B l =
      let all : from ≡ length s = omega (arith, B.within) in
      let run = still_run (rw all at B) in
      record { values = ap (λ (r : Run). r.values) run; rows = ap (λ (r : Run). r.rows) run; values_long = long; floats_long = filled.long }

-- rows that stand do not speak of what stood before
pub filled_there : (F : Field) (s : List ℕ) {f₀ f : List Float} → Filled F s f₀ f → Filled F s f f
filled_there F s filled = record { long = refl; rows = filled.rows; rest = refl }

-- ---- else the scan and the queue are the run

pub ran_closes : {F : Field} {f₀ : List Float} {s s₁ s₂ : Cells} → Filled F s.values f₀ s.floats → s.tail ≡ 0
    → Does F (λ run. scan_to run (variables F)) s s₁ → Does F (λ run. work F (variables F) run 0) s₁ s₂ → Closes F s.values f₀ s₂.values s₂.floats
unfolding run_in
ran_closes filled e D E =
    let ran = propagate_does e D E in
    let run = closed_run ran filled in
    record {
      values = ap (λ (r : Run). r.values) run;
      rows = ap (λ (r : Run). r.rows) run;
      values_long = ran.kept.placed.values_long;
      floats_long = ran.kept.floats_long ∙ filled.long;
    }

-- ---- what is counted in what is left is counted in the run's rows

pub closed_flat : {F : Field} {s s' : List ℕ} {f₀ f : List Float} {r : ℕ} → Closes F s f₀ s' f
    → r ≡ flat_to s' (rows_on f (length s')) (length s') → r ≡ flat_rows (closure_run F s)
closed_flat {F} {s} {s'} {f₀} {f} C e =
    e
    ∙ ap (λ (n : ℕ). flat_to s' (rows_on f n) (length s')) C.values_long
    ∙ ap (λ (rows : List Row). flat_to s' rows (length s')) C.rows
    ∙ ap (λ (v : List ℕ). flat_to v (closure_run F s).rows (length v)) C.values
