-- The probe at 0: each step asks what the one before leaves, up to what is remembered and kept of it. Assumes nothing.
use Prim.Native.Nat.{ℕ, ◌+◌, ◌<◌, ◌≤◌}
use mathlib.Core.Path.{◌≡◌, sym, ap, ◌∙◌}
use mathlib.Core.Logic.{◌≢◌, ◌⊎◌, inl, inr, ⊎_elim}
use mathlib.Core.List.{List}
use native.Mathlib.Nat.{le_refl}
use native.Mathlib.Omega.{arith}
use lib.Ieee.{Float}
use lib.ListN.{length, get_or, set, take}
use lib.Seq.{paste, length-paste}
use Rattle.scratch.specs.Region.{region}
use Rattle.scratch.proofs.Region.{length_region, region_at}
use Rattle.field.specs.Field.{Field, variables}
use Rattle.rows.specs.Stored.{Filled}
use Rattle.places.proofs.Slices.{front_get_d}
use Rattle.run.specs.Run.{closure_run}
use Rattle.run.specs.Cells.{Cells, cells, base}
use Rattle.run.proofs.Room.{free_after}
use Rattle.probing.specs.declared.Known.{Known}
use Rattle.probing.specs.Remembered.{Remembers, Probes}
use Rattle.workspace.specs.Restored.{From, Touched}
use Rattle.workspace.proofs.Theorems.{start_with, probe_values, probe_forced, probe_restores, restored_floats, restored_remembers}
use Rattle.finding.specs.Finds.{gives_at}
use Rattle.finding.specs.Emit.{lay_to, Layable}
use Rattle.finding.proofs.Copied.{paste_front, paste_inside, paste_behind, front_by}
use Rattle.finding.proofs.Laid.{lay_long, lay_others, lay_at}
use Rattle.finding.proofs.Chosen.{closure_room, closure_freed}
use Rattle.finding.proofs.Given.{gives_self, gives_start, gives_new}
use Rattle.twin.specs.Twin.{first_at, kept_at, Twinnable, Halfway, Beside}
use Rattle.twin.proofs.Framed.{remembers_front, touched_front, probe_behind}

-- the values are the start values where a probe begins
pub probe_asks : {F : Field} {vs s : List ℕ} → vs ≡ s → {f : List Float} {u : List ℕ} {known : Known} → Remembers F s f u known → (i v : ℕ) → get_or s i 0 ≡ 2 → v < 2
    → Remembers F vs f u known × ((get_or vs i 0 ≡ 2) × (v < 2))
probe_asks e R i v free small = rw e (R, (free, small))

pub from_start : {F : Field} {vs s : List ℕ} → vs ≡ s → {f : List Float} {u : List ℕ} {i v : ℕ} {c : Cells} → Probes F vs i v (cells vs f u 0) c → Probes F s i v (cells s f u 0) c
from_start e P = rw e at P

-- ---- the queue of a probe

module _ {F : Field} {s : List ℕ} {f : List Float} {u : List ℕ} {known : Known} (R : Remembers F s f u known) (i x : ℕ) (free : get_or s i 0 ≡ 2) (small : x < 2)
    {v u₁ : List ℕ} {f₁ : List Float} {k : ℕ} (P : Probes F s i x (cells s f u 0) (cells v f₁ u₁ k)) where
  pub queue_few : k ≤ variables F
  queue_few = omega (arith, P.kept.placed.queue_room)

  queue_room : base F + k ≤ length u₁
  queue_room = omega (arith, queue_few, P.kept.placed.words_room)

  queue_long : length (closure_run F (set s i x)).queue ≡ k
  queue_long = ap length (sym (probe_forced R i x free small P)) ∙ length_region (base F) k u₁ queue_room

  queue_at : (p : ℕ) → p < k → get_or u₁ (base F + p) 0 ≡ get_or (closure_run F (set s i x)).queue p 0
  queue_at p h = sym (region_at (base F) k u₁ p 0 h) ∙ ap (λ (z : List ℕ). get_or z p 0) (probe_forced R i x free small P)

  -- each once
  queue_apart : (p q : ℕ) → p < q → q < k → get_or u₁ (base F + p) 0 ≢ get_or u₁ (base F + q) 0
  queue_apart p q h l e =
      (closure_room F (start_with R.start i x free small)).apart p q h (omega (arith, queue_long))
      (sym (queue_at p (omega arith)) ∙ e ∙ queue_at q l)

  -- free at the start, and not the probed variable
  queue_free : (p : ℕ) → p < k → (get_or u₁ (base F + p) 0 ≢ i) × (get_or s (get_or u₁ (base F + p) 0) 0 ≡ 2)
  queue_free p h =
      let z = closure_freed F (start_with R.start i x free small) p (omega (arith, queue_long)) in
      free_after s i x free small (get_or u₁ (base F + p) 0) (rw (queue_at p h) z)

-- ---- the steps

module _ {F : Field} {s : List ℕ} {f : List Float} {u : List ℕ} {known : Known} {i : ℕ} (T : Twinnable F s f u known i) where
  abbrev n : ℕ
  n = variables F

  -- the probe, which leaves the values v
  module _ {v u₁ : List ℕ} {f₁ : List Float} {k : ℕ} (P : Probes F s i 0 (cells s f u 0) (cells v f₁ u₁ k)) where
    v_long : length v ≡ n
    v_long = P.kept.placed.values_long

    k_few : k ≤ n
    k_few = queue_few T.remembers i 0 T.free (omega arith) P

    touched : Touched F s i (cells v f₁ u₁ k)
    touched = probe_restores T.remembers i 0 T.free (omega arith) P

    pub keep_asks : (base F + k ≤ kept_at F) × (kept_at F + k ≤ length u₁)
    keep_asks = (omega (arith, k_few), omega (arith, k_few, P.kept.words_long, T.room))

    -- its queue is kept
    module _ {u₂ : List ℕ} (kept : u₂ ≡ paste u₁ (kept_at F) (region (base F) k u₁) k) where
      list_long : length (region (base F) k u₁) ≡ k
      list_long = length_region (base F) k u₁ (omega (arith, keep_asks.0, keep_asks.1))

      long₂ : length u₂ ≡ length u₁
      long₂ = ap length kept ∙ length-paste u₁ (kept_at F) (region (base F) k u₁) k keep_asks.1 (omega (arith, list_long))

      before₂ : (p : ℕ) → p < kept_at F → get_or u₂ p 0 ≡ get_or u₁ p 0
      before₂ p h = ap (λ (z : List ℕ). get_or z p 0) kept
          ∙ front_get_d (kept_at F) _ u₁ (paste_front u₁ (region (base F) k u₁) (kept_at F) k keep_asks.1 (omega (arith, list_long)) (kept_at F) (le_refl (kept_at F))) p h

      list₂ : (p : ℕ) → p < k → get_or u₂ (kept_at F + p) 0 ≡ get_or u₁ (base F + p) 0
      list₂ p h = ap (λ (z : List ℕ). get_or z (kept_at F + p) 0) kept
          ∙ paste_inside u₁ (region (base F) k u₁) (kept_at F) k keep_asks.1 (omega (arith, list_long)) p h
          ∙ region_at (base F) k u₁ p 0 h

      after₂ : (p : ℕ) → kept_at F + n ≤ p → get_or u₂ p 0 ≡ get_or u₁ p 0
      after₂ p h = ap (λ (z : List ℕ). get_or z p 0) kept
          ∙ paste_behind u₁ (region (base F) k u₁) (kept_at F) k keep_asks.1 (omega (arith, list_long)) p (omega (arith, k_few))

      pub lay_asks : Layable v u₂ (kept_at F) k (first_at F)
      lay_asks = record {
        below = λ p h. rw (list₂ p h) (omega (arith, P.kept.placed.queue_below p h, v_long));
        list_low = omega (arith, v_long);
        list_room = omega (arith, keep_asks.1, long₂);
      }

      -- the values of its variables are laid
      module _ {u₃ : List ℕ} (laid : u₃ ≡ lay_to v (kept_at F) (first_at F) u₂ k) where
        long₃ : length u₃ ≡ length u₁
        long₃ = ap length laid ∙ lay_long lay_asks k ∙ long₂

        others₃ : (p : ℕ) → ((j : ℕ) → j < n → p ≢ first_at F + j) → get_or u₃ p 0 ≡ get_or u₂ p 0
        others₃ p apart = ap (λ (z : List ℕ). get_or z p 0) laid ∙ lay_others lay_asks k (le_refl k) p (λ j h. apart j (omega (arith, v_long)))

        list₃ : (p : ℕ) → p < k → get_or u₃ (kept_at F + p) 0 ≡ get_or u₁ (base F + p) 0
        list₃ p h = others₃ (kept_at F + p) (λ j l e. absurd (omega arith)) ∙ list₂ p h

        front₃ : take (first_at F) u₃ ≡ take (first_at F) u₁
        front₃ = front_by (first_at F) u₁ u₃ (omega (arith, keep_asks.1)) long₃ (λ p h. others₃ p (λ j l e. absurd (omega arith)) ∙ before₂ p (omega arith))

        pub laid_touched : Touched F s i (cells v f₁ u₃ k)
        laid_touched = touched_front F u₁ u₃ front₃ long₃ touched

        -- a variable that was forced has its value, and another one none
        first₃ : (j : ℕ) → j < n
            → (From u₃ (kept_at F) k 0 j × (get_or u₃ (first_at F + j) 0 ≡ get_or v j 0)) ⊎ (((p : ℕ) → p < k → get_or u₁ (base F + p) 0 ≢ j) × (get_or u₃ (first_at F + j) 0 ≡ 2))
        first₃ j h = ⊎_elim
            (λ a. let p = a.0.0 in let l = a.0.1.0 in inl (record { place = p; low = omega arith; high = l; holds = list₃ p l ∙ sym (list₂ p l) ∙ a.0.1.1 }, here ∙ a.1))
            (λ a. inr ((λ p l e. a.0 p l (list₂ p l ∙ e)), here ∙ a.1 ∙ before₂ (first_at F + j) (omega arith) ∙ probe_behind P (first_at F + j) (omega arith) ∙ T.first j h))
            (lay_at lay_asks k (le_refl k) j (omega (arith, v_long)))
          where
            here : get_or u₃ (first_at F + j) 0 ≡ get_or (lay_to v (kept_at F) (first_at F) u₂ k) (first_at F + j) 0
            here = ap (λ (z : List ℕ). get_or z (first_at F + j) 0) laid

        forced_free : (p : ℕ) → p < k → (get_or u₃ (kept_at F + p) 0 ≢ i) × (get_or s (get_or u₃ (kept_at F + p) 0) 0 ≡ 2)
        forced_free p h = rw (list₃ p h) (queue_free T.remembers i 0 T.free (omega arith) P p h)

        -- that is what the probe gives
        gives₃ : (j : ℕ) → j < n → get_or u₃ (first_at F + j) 0 ≡ gives_at i j (get_or s j 0) (get_or v j 0)
        gives₃ j h = ⊎_elim
            (λ a. let z = rw a.0.holds at (forced_free a.0.place a.0.high) in a.1 ∙ sym (gives_new i j (get_or s j 0) (get_or v j 0) z.0 z.1))
            (λ a. a.1 ∙ sym (⊎_elim
            (gives_start i j (get_or s j 0) (get_or v j 0))
            (⊎_elim (gives_self (get_or s j 0) (get_or v j 0)) (λ m. absurd (a.0 m.place m.high m.holds)))
            (touched.values j)))
            (first₃ j h)

        module _ {f₂ : List Float} (W : Filled F s f₁ f₂) where
          pub half_floats : f₂ ≡ f
          half_floats = restored_floats T.remembers i 0 T.free (omega arith) P W

          pub half_done : Halfway F s f u₃ known i k
          half_done =
              let R = remembers_front F u₁ u₃ front₃ long₃ (restored_remembers T.remembers i 0 T.free (omega arith) P W) in record {
                remembers = rw half_floats at R;
                few = T.few;
                free = T.free;
                first = λ j h. gives₃ j h ∙ ap (λ (z : List ℕ). gives_at i j (get_or s j 0) (get_or z j 0)) (probe_values T.remembers i 0 T.free (omega arith) P);
                forced = λ j h. ⊎_elim (λ a. inl a.0) (λ a. inr a.1) (first₃ j h);
                count = k_few;
                kept_free = λ p h. (forced_free p h).1;
                apart = λ p q a b e. queue_apart T.remembers i 0 T.free (omega arith) P p q a b (sym (list₃ p (omega arith)) ∙ e ∙ list₃ q b);
              }

        pub half_beside : Beside F u u₃
        half_beside = record {
          long = long₃ ∙ P.kept.words_long;
          before = λ p a b. others₃ p (λ j h e. absurd (omega arith)) ∙ before₂ p b ∙ probe_behind P p (omega arith);
          behind = λ p a. others₃ p (λ j h e. absurd (omega arith)) ∙ after₂ p a ∙ probe_behind P p (omega arith);
        }
