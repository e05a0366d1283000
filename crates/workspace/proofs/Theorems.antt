-- The theorems about probes with remembered rows, each in one statement, over the promises of `remember`, `probe` and `restore`. Assumes nothing.
use Prim.Native.Nat.{ℕ, ◌<◌}
use mathlib.Core.Path.{◌≡◌, refl, sym, ap, ◌∙◌}
use mathlib.Core.Logic.{⊎_elim}
use mathlib.Core.List.{List}
use native.Mathlib.Omega.{arith}
use lib.Ieee.{Float}
use lib.ListN.{get_or, set, length-set}
use Rattle.scratch.specs.Region.{region}
use Rattle.meaning.specs.Probe.{Probed}
use Rattle.meaning.proofs.Values.{inside, after_set}
use Rattle.field.specs.Field.{Field, StartFor}
use Rattle.field.specs.Grade.{ExactIn}
use Rattle.field.specs.Reading.{whole_of}
use Rattle.rows.specs.Stored.{Filled}
use Rattle.rows.proofs.Stored.{written_unique}
use Rattle.run.specs.Run.{Run, closure_run, closure}
use Rattle.run.specs.Cells.{Cells, cells, base, run_in, Does}
use Rattle.run.proofs.Unique.{does_unique}
use Rattle.run.proofs.Theorems as run
use Rattle.probing.specs.declared.Known.{Known}
use Rattle.probing.specs.Remembered.{probe_run, Remembers, Probes}
use Rattle.workspace.specs.Restored.{Touched}
use Rattle.probing.proofs.Renewed as renewed
use Rattle.workspace.proofs.Again as again

-- the start values with a value added are start values
pub start_with : {n : ℕ} {s : List ℕ} → StartFor n s → (i v : ℕ) → get_or s i 0 ≡ 2 → v < 2 → StartFor n (set s i v)
start_with {s = s} start i v free small = record {
  long = length-set s i v ∙ start.long;
  small = λ j. ⊎_elim (λ z. omega (arith, z.1)) (λ z. omega (arith, start.small j)) (after_set s i v (inside s i free) j);
}

module _ {F : Field} {s : List ℕ} {f : List Float} {u : List ℕ} {known : Known} (R : Remembers F s f u known) (i v : ℕ) (free : get_or s i 0 ≡ 2) (small : v < 2)
    {c : Cells} (P : Probes F s i v (cells s f u 0) c) where
  -- Theorem. On every field, exact or not, a probe leaves the closure of the start values with the one value added.
  pub probe_values : c.values ≡ closure F (set s i v)
  unfolding run_in
  probe_values = ap (λ (r : Run). r.values) P.run ∙ renewed.probe_is_closure R.placed.shaped R.start i v free small

  -- and the variables that it forced stand in the queue, in the closure's order.
  pub probe_forced : region (base F) c.tail c.words ≡ (closure_run F (set s i v)).queue
  unfolding run_in
  probe_forced = ap (λ (r : Run). r.queue) P.run ∙ renewed.probe_queue R.placed.shaped R.start i v free small

  -- On an exact field that is the whole-number closure.
  pub probe_closes : {w : ℕ} → ExactIn w F → Probed (whole_of w F) s i v c.values
  probe_closes exact = rw probe_values (run.closure_is_closure R.placed.shaped exact (start_with R.start i v free small))

  -- Theorem. What it touched can be put back.
  pub probe_restores : Touched F s i c
  probe_restores = again.probed_touched R i v free small P

  module _ {f₂ : List Float} (W : Filled F s c.floats f₂) where
    -- Theorem. When what a probe touched is put back, the floats are what they were.
    pub restored_floats : f₂ ≡ f
    restored_floats = again.floats_again R i v free small P W

    -- Theorem. When what a probe touched is put back, the workspace stands for the next probe.
    pub restored_remembers : Remembers F s f₂ c.words known
    restored_remembers = again.remembers_again R i v free small P W

-- Theorem. Two results of one probe are equal.
pub probe_unique : {F : Field} {s : List ℕ} {i v : ℕ} {s₀ a b : Cells} → Probes F s i v s₀ a → Probes F s i v s₀ b → a ≡ b
probe_unique {F} {s} {i} {v} {s₀} A B = does_unique (does A) (does B)
  where
    does : {c : Cells} → Probes F s i v s₀ c → Does F (λ run. probe_run F s i v) s₀ c
    does P = record { run = P.run; kept = P.kept }

-- Theorem. So are two results of putting back: the values are the start values, and the floats are determined.
pub restore_unique : (F : Field) (s : List ℕ) {f₁ f₂ f₃ : List Float} → Filled F s f₁ f₂ → Filled F s f₁ f₃ → f₂ ≡ f₃
restore_unique F s A B = written_unique A B

-- Two workspaces for one field and one list of start values hold as many candidates.
pub remember_unique : {F : Field} {s : List ℕ} {f g : List Float} {u w : List ℕ} {k l : Known} → Remembers F s f u k → Remembers F s g w l → k ≡ l
remember_unique A B = same (A.count ∙ sym B.count) (A.graded ∙ sym B.graded)
  where
    same : {k l : Known} → k.many ≡ l.many → k.grade ≡ l.grade → k ≡ l
    same e f = rw (e, f) refl
