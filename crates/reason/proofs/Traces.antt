-- What the stages before a ground give one another. Assumes nothing.
use Prim.Native.Nat.{ℕ, ◌-◌, ◌<◌}
use mathlib.Core.Path.{◌≡◌, sym, ap, ◌∙◌}
use mathlib.Core.List.{List, []}
use native.Mathlib.Omega.{arith}
use lib.ListN.{length}
use lib.Ieee.{Float}
use Rattle.scratch.specs.Region.{region}
use Rattle.field.specs.Field.{Field, variables, Shaped, StartFor}
use Rattle.field.specs.Grade.{ExactIn}
use Rattle.rows.specs.declared.Row.{Row}
use Rattle.rows.specs.Model.{row_of}
use Rattle.rows.specs.Stored.{row_on, Filled}
use Rattle.rows.proofs.Stored.{written_rows}
use Rattle.run.specs.Run.{Run, scan_to}
use Rattle.run.specs.Cells.{Cells, cells, base, run_in, Placed, Does}
use Rattle.run.proofs.Cells.{queue_long, queue_at}
use Rattle.rows.specs.declared.Conclusion.{Conclusion}
use Rattle.rows.specs.Row.{judge_of, conclude_of}
use Rattle.places.specs.Places.{Adjacent, EndsBelow}
use Rattle.places.proofs.Shape.{ends_below}
use Rattle.reason.specs.declared.Ground.{Ground}
use Rattle.reason.specs.Ground.{ground_of}
use Rattle.reason.specs.Until.{Stop, until, scanned, stop_of, basis}
use Rattle.reason.specs.Stages.{Halted, AllBelow, back, marks_of, Stopped}
use Rattle.reason.proofs.Until.{stop_split, stop_rest}
use Rattle.reason.proofs.Theorems.{basis_start}
use Rattle.reason.proofs.Resting.{back_rests}

-- the queue in the words holds variables
pub queue_below : {F : Field} {s : Cells} {n : ℕ} → Placed F s → variables F ≡ n → AllBelow n (region (base F) s.tail s.words)
unfolding run_in
queue_below {F} {s} P e p l =
    let b : p < s.tail = omega (arith, queue_long P) in
    rw (← e) (rw (queue_at P p b) (P.queue_below p b))

module _ {F : Field} {s : List ℕ} {f₀ f f' : List Float} {u u₁ u₂ : List ℕ} {i tail : ℕ} {values₁ values₂ : List ℕ} {head last : ℕ}
    (filled : Filled F s f₀ f) (D : Does F (λ run. scan_to run (variables F)) (cells s f u 0) (cells values₁ f u₁ tail))
    (H : Halted F i (cells values₁ f u₁ tail) (cells values₂ f' u₂ last) head) where
  scanned_is : run_in F (cells values₁ f u₁ tail) ≡ scanned F s
  unfolding run_in scanned region
  scanned_is = D.run ∙ ap (λ (rows : List Row). scan_to (record { values = s; rows = rows; queue = [] }) (variables F)) (written_rows filled)

  stop_is : until F (variables F) (run_in F (cells values₁ f u₁ tail)) 0 i ≡ stop_of F s i
  unfolding stop_of
  stop_is = ap (λ (r : Run). until F (variables F) r 0 i) scanned_is

  run_there : run_in F (cells values₂ f' u₂ last) ≡ (stop_of F s i).run
  run_there = H.run ∙ ap (λ (x : Stop). x.run) stop_is

  head_there : head ≡ (stop_of F s i).head
  head_there = H.head_is ∙ ap (λ (x : Stop). x.head) stop_is

  values_there : values₂ ≡ (stop_of F s i).run.values
  unfolding run_in
  values_there = ap (λ (r : Run). r.values) run_there

  queue_there : region (base F) last u₂ ≡ (stop_of F s i).run.queue
  unfolding run_in
  queue_there = ap (λ (r : Run). r.queue) run_there

  last_there : last ≡ length (stop_of F s i).run.queue
  last_there = sym (queue_long H.kept.placed) ∙ ap (λ (r : Run). length r.queue) run_there

  module _ {w : ℕ} (shaped : Shaped F) (exact : ExactIn w F) (start : StartFor (variables F) s) where
    back_basis : back values₂ (region (base F) last u₂) head (last - head) ≡ basis F s i
    unfolding basis
    back_basis =
        let a = stop_split F start i in
        rw (values_there, queue_there, head_there, last_there) (back_rests a.room (stop_rest shaped exact i start).holds.grounded a.served)

    pub stopped : {values₃ : List ℕ} → values₃ ≡ back values₂ (region (base F) last u₂) head (last - head) → Stopped F s i values₃ u₂
    stopped e = record { values_are = e ∙ back_basis; adjacent = H.kept.placed.adjacent }

-- ---- the ground, from the values that the bound rests on

module _ {F : Field} {s values words : List ℕ} {i : ℕ} (S : Stopped F s i values words) (shaped : Shaped F) (start : StartFor (variables F) s) (l : i < variables F) where
  pub stopped_long : length values ≡ variables F
  stopped_long = rw S.values_are (basis_start F start i).long

  pub mark_ready : EndsBelow (length values) F.rows F.cols × (Adjacent (length values) F.rows F.cols words × (i < length values))
  mark_ready = rw stopped_long (ends_below shaped, (S.adjacent, l))

  pub ground_is : (k : ℕ) {f₀ f : List Float} {row : Row} {found : Conclusion} {r : Ground} → Filled F values f₀ f → row ≡ row_on f (variables F) i → found ≡ conclude_of row i
      → r ≡ ground_of k found.verdict → r ≡ ground_of k (judge_of (row_of F (basis F s i) i))
  ground_is k filled a b c =
      c ∙ ap (λ (x : Conclusion). ground_of k x.verdict) b ∙ ap (λ (x : Row). ground_of k (judge_of x)) (a ∙ filled.rows i l) ∙ ap (λ (v : List ℕ). ground_of k (judge_of (row_of F v i))) S.values_are

  pub marks_are : {values' : List ℕ} → values' ≡ marks_of F values i → values' ≡ marks_of F (basis F s i) i
  marks_are e = e ∙ ap (λ (v : List ℕ). marks_of F v i) S.values_are
