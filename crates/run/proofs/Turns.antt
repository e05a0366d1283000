-- What the turns of the loops keep: each loop does what the model's recursion does. Assumes nothing.
use Prim.Native.Nat.{ℕ, zero, suc, ◌+◌, ◌-◌, ◌<◌, ◌≤◌}
use mathlib.Core.Path.{◌≡◌, refl, sym, ap, ◌∙◌}
use mathlib.Core.List.{List}
use native.Mathlib.Numerals.{add-one}
use native.Mathlib.Omega.{arith}
use borrow.Author.Tests.{lt-ltb, le-ltb}
use lib.Ieee.{Float}
use lib.ListN.{length, get_or}
use Rattle.scratch.specs.Region.{region}
use Rattle.field.specs.Field.{Field, variables}
use Rattle.rows.specs.Stored.{rows_on, Filled}
use Rattle.rows.proofs.Stored.{written_rows}
use Rattle.places.specs.Places.{entry_in}
use Rattle.places.proofs.Walk.{Along, along_start, along_turn, along_front, along_end}
use Rattle.run.specs.Run.{Run, scan_at, scan_to, serve_at, serve_all, serve, work, propagate, closure_run, closure}
use Rattle.run.specs.Cells.{Cells, base, run_in, Placed, Kept, Does}
use Rattle.run.proofs.Cells.{kept_same, kept_then, does_as, does_then, queue_long, queue_at}

-- ---- the scan: i variables are behind it

pub record Scanning (F : Field) (i : ℕ) (s₀ s : Cells) : Type 0 where
  pub within : i ≤ variables F
  pub does : Does F (λ run. scan_to run i) s₀ s

module _ {F : Field} {i : ℕ} {s₀ s : Cells} (S : Scanning F i s₀ s) where
  pub scan_turn : {s' : Cells} → i < variables F → Does F (λ run. scan_at run i) s s' → Scanning F (i + 1) s₀ s'
  unfolding scan_to
  scan_turn l D = record { within = omega arith; does = does_as (λ run. scan_to run (i + 1)) (does_then (λ run. scan_at run i) S.does D) (rw add-one) }

  pub scan_done : variables F ≤ i → Does F (λ run. scan_to run (variables F)) s₀ s
  scan_done l = let e : i ≡ variables F = omega (arith, S.within) in rw e at S.does

-- ---- the places of i, whose value is v: p is the place to come

pub record Serving (F : Field) (i v end p : ℕ) (s₀ s : Cells) : Type 0 where
  pub along : Along (serve_all F i v) (variables F) F.rows F.cols s₀.words s.words i end p (run_in F s₀) (run_in F s)
  pub kept : Kept F s₀ s

pub serve_start : {F : Field} {s : Cells} {i v a b : ℕ} → Placed F s → i < variables F → a ≡ get_or s.words i 0 → b ≡ get_or s.words (i + 1) 0 → Serving F i v b a s s
serve_start {F} {s} {i} {v} P h ea eb = record { along = along_start (serve_all F i v) (run_in F s) P.adjacent h ea eb; kept = kept_same P }

module _ {F : Field} {i v end p : ℕ} {s₀ s : Cells} (S : Serving F i v end p s₀ s) where
  pub serve_turn : {s' : Cells} {k : ℕ} → p < end → k ≡ entry_in (get_or s.words (variables F + 1 + p) 0) → Does F (λ run. serve_at F i v run k) s s' → Serving F i v end (p + 1) s₀ s'
  unfolding serve_all
  serve_turn l e D = record {
    along = along_front (along_turn S.along l e (λ ks. ap (λ (r : Run). serve_all F i v r ks) (sym D.run))) D.kept.front D.kept.words_long;
    kept = kept_then S.kept D.kept;
  }

  pub serve_done : end ≤ p → v ≡ get_or s₀.values i 0 → Does F (λ run. serve F run i) s₀ s
  unfolding serve serve_all run_in
  serve_done l e = record { run = along_end S.along l ∙ rw e; kept = S.kept }

-- ---- the queue: head variables are served

work_step : (F : Field) (turns : ℕ) (run : Run) (h : ℕ) → h < length run.queue → work F (suc turns) run h ≡ work F turns (serve F run (get_or run.queue h 0)) (suc h)
unfolding work
work_step F turns run h l = rw (lt-ltb h (length run.queue) l)

work_end : (F : Field) (turns : ℕ) (run : Run) (h : ℕ) → length run.queue ≤ h → work F turns run h ≡ run
unfolding work
work_end F zero run h l = refl
work_end F (suc turns) run h l = rw (le-ltb h (length run.queue) l)

pub record Working (F : Field) (head : ℕ) (s₀ s : Cells) : Type 0 where
  pub served : head ≤ variables F
  pub run : work F (variables F - head) (run_in F s) head ≡ work F (variables F) (run_in F s₀) 0
  pub kept : Kept F s₀ s

pub work_start : {F : Field} {s : Cells} → Placed F s → Working F 0 s s
work_start {F} P = let e : variables F - 0 ≡ variables F = omega arith in record { served = omega arith; run = rw e; kept = kept_same P }

module _ {F : Field} {head : ℕ} {s₀ s : Cells} (W : Working F head s₀ s) where
  -- what a turn knows of the variable that it reads
  pub next_index : head < s.tail → base F + head < length s.words
  next_index l = omega (arith, W.kept.placed.queue_room, W.kept.placed.words_room)

  pub next_below : {i : ℕ} → head < s.tail → i ≡ get_or s.words (base F + head) 0 → i < variables F
  next_below l e = rw e (W.kept.placed.queue_below head l)

  pub work_turn : {s' : Cells} {i : ℕ} → head < s.tail → i ≡ get_or s.words (base F + head) 0 → Does F (λ run. serve F run i) s s' → Working F (head + 1) s₀ s'
  work_turn {s'} {i} l ei D =
      let n = variables F in
      let P = W.kept.placed in
      let within : head < n = omega (arith, P.queue_room) in
      let e : n - head ≡ suc (n - suc head) = omega arith in
      let ej : i ≡ get_or (run_in F s).queue head 0 = ei ∙ sym (queue_at P head l) in
      record {
        served = omega arith;
        run = rw (add-one head, D.run, ej)
            (sym (work_step F (n - suc head) (run_in F s) head (omega (arith, queue_long P))) ∙ sym (ap (λ (k : ℕ). work F k (run_in F s) head) e) ∙ W.run);
        kept = kept_then W.kept D.kept;
      }

  pub work_done : s.tail ≤ head → Does F (λ run. work F (variables F) run 0) s₀ s
  work_done l = record { run = sym (work_end F (variables F - head) (run_in F s) head (omega (arith, queue_long W.kept.placed))) ∙ W.run; kept = W.kept }

-- ---- the run

-- the scan from an empty queue, then the queue
pub propagate_does : {F : Field} {s s₁ s₂ : Cells} → s.tail ≡ 0 → Does F (λ run. scan_to run (variables F)) s s₁ → Does F (λ run. work F (variables F) run 0) s₁ s₂
    → Does F (λ run. propagate F run.values run.rows) s s₂
unfolding propagate run_in region
propagate_does {F} e D E = does_as (λ run. propagate F run.values run.rows) (does_then (λ run. work F (variables F) run 0) D E) (rw e)

module _ {F : Field} {s s' : Cells} (D : Does F (λ run. propagate F run.values run.rows) s s') where
  -- what it leaves is the model's run from the values and the rows that stand there
  pub propagated : run_in F s' ≡ propagate F s.values (rows_on s.floats (variables F))
  unfolding run_in
  propagated = D.run

  pub propagated_values : s'.values ≡ (propagate F s.values (rows_on s.floats (variables F))).values
  unfolding run_in
  propagated_values = ap (λ (r : Run). r.values) propagated

  -- from the rows at the start values it is the closure's run
  module _ {f₀ : List Float} (filled : Filled F s.values f₀ s.floats) where
    pub closed_run : run_in F s' ≡ closure_run F s.values
    unfolding closure_run
    closed_run = propagated ∙ ap (propagate F s.values) (written_rows filled)

    pub closed_values : s'.values ≡ closure F s.values
    unfolding closure run_in
    closed_values = ap (λ (run : Run). run.values) closed_run
