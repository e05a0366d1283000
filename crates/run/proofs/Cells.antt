-- The view of lent cells as a run: the queue in the words, and steps that follow one another. Assumes nothing.
use Prim.Native.Nat.{ℕ, ◌+◌, ◌<◌, ◌≤◌}
use mathlib.Core.Path.{◌≡◌, refl, ap, ◌∙◌}
use mathlib.Core.List.{List}
use native.Mathlib.Nat.{le_refl}
use native.Mathlib.Omega.{arith}
use lib.ListN.{length, get_or}
use lib.Ieee.{Float}
use Rattle.scratch.proofs.Region.{length_region, region_at}
use Rattle.meaning.proofs.Free.{frees_le}
use Rattle.field.specs.Field.{Field, variables, Shaped}
use Rattle.places.specs.Places.{Adjacent}
use Rattle.places.proofs.Slices.{drop_more}
use Rattle.run.specs.Run.{Run}
use Rattle.run.specs.Cells.{Cells, cells, base, run_in, Placed, Kept, Does}

-- ---- what must be in place where the queue is empty

pub placed_start : {F : Field} {vs : List ℕ} {f : List Float} {u : List ℕ} → Shaped F → length vs ≡ variables F → variables F + variables F ≤ length f
    → Adjacent (variables F) F.rows F.cols u → base F + variables F ≤ length u → Placed F (cells vs f u 0)
placed_start {vs = vs} S long floats A words = record {
  shaped = S;
  values_long = long;
  floats_room = floats;
  adjacent = A;
  words_room = words;
  queue_room = omega (arith, frees_le vs);
  queue_below = λ h l. absurd (omega arith);
}

-- ---- the queue in the words

module _ {F : Field} {s : Cells} (P : Placed F s) where
  pub queue_long : length (run_in F s).queue ≡ s.tail
  unfolding run_in
  queue_long = length_region (base F) s.tail s.words (omega (arith, P.words_room, P.queue_room))

  pub queue_at : (h : ℕ) → h < s.tail → get_or (run_in F s).queue h 0 ≡ get_or s.words (base F + h) 0
  unfolding run_in
  queue_at h l = region_at (base F) s.tail s.words h 0 l

-- ---- steps follow one another

pub kept_same : {F : Field} {s : Cells} → Placed F s → Kept F s s
kept_same P = record { placed = P; grows = le_refl _; front = refl; words_rest = refl; words_long = refl; floats_rest = refl; floats_long = refl }

pub kept_then : {F : Field} {s s₁ s₂ : Cells} → Kept F s s₁ → Kept F s₁ s₂ → Kept F s s₂
kept_then {F} {s} {s₁} {s₂} D E = record {
  placed = E.placed;
  grows = omega (arith, D.grows, E.grows);
  front = E.front ∙ D.front;
  words_rest = E.words_rest ∙ drop_more (base F + s₁.tail) (base F + s₂.tail) s₁.words s.words (omega (arith, E.grows)) D.words_rest;
  words_long = E.words_long ∙ D.words_long;
  floats_rest = E.floats_rest ∙ D.floats_rest;
  floats_long = E.floats_long ∙ D.floats_long;
}

pub does_same : {F : Field} {g : Run → Run} {s : Cells} → Placed F s → run_in F s ≡ g (run_in F s) → Does F g s s
does_same P e = record { run = e; kept = kept_same P }

pub does_as : {F : Field} {g : Run → Run} (h : Run → Run) {s s' : Cells} → Does F g s s' → g (run_in F s) ≡ h (run_in F s) → Does F h s s'
does_as h D e = record { run = D.run ∙ e; kept = D.kept }

pub does_then : {F : Field} {g : Run → Run} (h : Run → Run) {s s₁ s₂ : Cells} → Does F g s s₁ → Does F h s₁ s₂ → Does F (λ run. h (g run)) s s₂
does_then h D E = record { run = E.run ∙ ap h D.run; kept = kept_then D.kept E.kept }
