-- From the workspace to a probe: the value is added, the neighbours' rows are renewed, and the scan covers every strict row. Assumes nothing.
use Prim.Native.Nat.{ℕ, ◌+◌, ◌<◌, ◌≤◌}
use mathlib.Core.Path.{◌≡◌, refl, sym, ap, ◌∙◌}
use mathlib.Core.Logic.{◌⊎◌, inl, inr}
use mathlib.Core.Bool.{true}
use mathlib.Core.List.{List, []}
use native.Mathlib.Omega.{arith}
use lib.ListN.{get_or, set, length-set}
use lib.Ieee.{Float}
use Rattle.scratch.specs.Region.{region}
use Rattle.scratch.proofs.Region.{region_at}
use Rattle.meaning.proofs.Values.{inside}
use Rattle.field.specs.Field.{Field, variables}
use Rattle.rows.specs.declared.Row.{Row}
use Rattle.rows.specs.Row.{is_strict}
use Rattle.rows.specs.Model.{row_of}
use Rattle.rows.specs.Stored.{row_on, up_to}
use Rattle.rows.proofs.Upto.{get_d_up_to, up_to_same}
use Rattle.places.specs.Places.{places}
use Rattle.places.proofs.Places.{places_touch}
use Rattle.run.specs.Run.{Run, no_row, row_for, scan_to, work, propagate}
use Rattle.run.specs.Cells.{Cells, cells, base, run_in, Placed, Does}
use Rattle.run.proofs.Cells.{placed_start, kept_then}
use Rattle.run.proofs.Room.{free_after, room_scan}
use Rattle.run.proofs.Turns.{propagate_does}
use Rattle.probing.specs.declared.Known.{Known}
use Rattle.probing.specs.Remembered.{renewed, remembered, probe_run, candidates, Remembers, Probes}
use Rattle.scanning.specs.Merge.{list_at, Listed, Joined, Covers}
use Rattle.probing.proofs.Afresh.{None}
use Rattle.probing.proofs.Leads.{Leads, leads_or_none}
use Rattle.probing.proofs.Renewed.{renewed_none}
use Rattle.scanning.proofs.Scanned.{Scanned, scanned}

module _ {F : Field} {s : List ℕ} {f : List Float} {u : List ℕ} {known : Known} (R : Remembers F s f u known) where
  abbrev many : ℕ
  many = known.many

  -- ---- the candidates in their place

  base_scan : Scanned (remembered F s s) (variables F) (scan_to (remembered F s s) (variables F))
  unfolding remembered
  base_scan = scanned (remembered F s s) refl (variables F)

  listed_at : (p : ℕ) → p < many → list_at u (base F + variables F) p ≡ get_or (candidates F s) p 0
  listed_at p h = sym (region_at (base F + variables F) many u p 0 h) ∙ ap (λ (l : List ℕ). get_or l p 0) R.listed

  base_row : (t : ℕ) → t < variables F → row_for (remembered F s s) t ≡ row_of F s t
  unfolding remembered
  base_row t h = get_d_up_to (row_of F s) (variables F) t no_row h

  -- a free variable whose row is strict at the start values is among them
  strict_listed : (t : ℕ) → t < variables F → get_or s t 0 ≡ 2 → is_strict (row_of F s t) ≡ true → Listed F u many t
  unfolding candidates remembered
  strict_listed t h free strict =
      let m = base_scan.all t h free (ap is_strict (base_row t h) ∙ strict) in
      let l : m.place < many = omega (arith, m.within, R.count) in
      record { place = m.place; within = l; holds = listed_at m.place l ∙ m.holds }

  list_rises : (p q : ℕ) → p < q → q < many → list_at u (base F + variables F) p ≤ list_at u (base F + variables F) q
  unfolding candidates
  list_rises p q a h = omega (arith, listed_at p (omega arith), listed_at q h, base_scan.rising p q a (omega (arith, R.count)))

  many_few : many ≤ variables F
  unfolding candidates remembered
  many_few = omega (arith, R.count, (room_scan F (up_to (row_of F s) (variables F)) R.start (variables F)).count)

  module _ (i v : ℕ) (free : get_or s i 0 ≡ 2) (small : v < 2) where
    pub probed_below : i < variables F
    probed_below = omega (arith, inside s i free, R.start.long)

    -- ---- the value is added

    pub placed_with : Placed F (cells (set s i v) f u 0)
    placed_with = placed_start R.placed.shaped (length-set s i v ∙ R.start.long) R.placed.floats_room R.placed.adjacent R.placed.words_room

    begun : run_in F (cells (set s i v) f u 0) ≡ remembered F s (set s i v)
    unfolding run_in remembered region
    begun = ap (λ (rows : List Row). record { values = set s i v; rows = rows; queue = [] }) (up_to_same (row_on f (variables F)) (row_of F s) (variables F) R.rows)

    -- ---- the neighbours' rows are renewed

    module _ {f₁ : List Float} (D : Does F (λ run. renewed F v run i) (cells (set s i v) f u 0) (cells (set s i v) f₁ u 0)) where
      -- a row that no place leads to is as it was at the start values
      row_apart : (t : ℕ) → t < variables F → None F i t (places F.rows F.cols i) → row_on f₁ (variables F) t ≡ row_of F s t
      unfolding run_in remembered
      row_apart t h none =
          sym (get_d_up_to (row_on f₁ (variables F)) (variables F) t no_row h)
          ∙ ap (λ (run : Run). row_for run t) (D.run ∙ ap (λ (run : Run). renewed F v run i) begun)
          ∙ renewed_none F i v (remembered F s (set s i v)) t none ∙ get_d_up_to (row_of F s) (variables F) t no_row h

      pub probe_covers : Covers F i many (cells (set s i v) f₁ u 0)
      probe_covers = record {
        placed = D.kept.placed;
        here = probed_below;
        list_room = omega (arith, R.list_room, many_few);
        rising = list_rises;
        all = λ t h z strict. by t h z strict (leads_or_none F i t (places F.rows F.cols i));
      }
        where
          by : (t : ℕ) → t < variables F → get_or (set s i v) t 0 ≡ 2 → is_strict (row_on f₁ (variables F) t) ≡ true
              → Leads F i t (places F.rows F.cols i) ⊎ None F i t (places F.rows F.cols i) → Listed F u many t ⊎ Joined F i t
          by t h z strict (inl l) =
              let k = places_touch F.rows F.cols i l.place l.within in
              inr (record { entry = get_or (places F.rows F.cols i) l.place 0; within = k.0; touches = k.1; other = l.other })
          by t h z strict (inr none) =
              inl (strict_listed t h (free_after s i v free small t z).1 (ap is_strict (sym (row_apart t h none)) ∙ strict))

      -- ---- the scan, then the queue

      pub probe_does : {s₂ s₃ : Cells} → Does F (λ run. scan_to run (variables F)) (cells (set s i v) f₁ u 0) s₂ → Does F (λ run. work F (variables F) run 0) s₂ s₃
          → Probes F s i v (cells s f u 0) s₃
      unfolding probe_run
      probe_does D₂ D₃ =
          let P = propagate_does refl D₂ D₃ in
          let K = kept_then D.kept P.kept in
          record {
            run = P.run ∙ ap (λ (run : Run). propagate F run.values run.rows) (D.run ∙ ap (λ (run : Run). renewed F v run i) begun);
            kept = record {
              placed = K.placed;
              grows = K.grows;
              front = K.front;
              words_rest = K.words_rest;
              words_long = K.words_long;
              floats_rest = K.floats_rest;
              floats_long = K.floats_long;
            };
          }
