-- What a probe leaves can be put back, and then the workspace stands as before. Assumes nothing.
use Prim.Native.Nat.{ℕ, ◌+◌, ◌<◌}
use mathlib.Core.Path.{◌≡◌, refl, sym, ap, ◌∙◌}
use mathlib.Core.Logic.{◌⊎◌, inl, inr, ⊎_elim}
use mathlib.Core.List.{List, []}
use native.Mathlib.Decide.{ℕ_discrete}
use native.Mathlib.Omega.{arith}
use lib.Ieee.{Float}
use lib.ListN.{get_or, set, take}
use lib.Seq.{get_or-set_other}
use Rattle.scratch.specs.Region.{region}
use Rattle.field.specs.Field.{Field, variables}
use Rattle.rows.specs.Model.{row_of}
use Rattle.rows.specs.Stored.{row_on, Filled}
use Rattle.rows.proofs.Upto.{get_d_up_to}
use Rattle.rows.proofs.Stored.{written_unique}
use Rattle.places.specs.Places.{places}
use Rattle.places.proofs.Places.{places_touch}
use Rattle.places.proofs.Slices.{drop_more}
use Rattle.run.specs.Run.{no_row, row_for}
use Rattle.run.specs.Cells.{Cells, cells, base, run_in, Placed}
use Rattle.run.proofs.Cells.{placed_start, queue_long, queue_at}
use Rattle.scanning.specs.Merge.{In}
use Rattle.probing.specs.declared.Known.{Known}
use Rattle.probing.specs.Remembered.{renewed, remembered, probe_run, Remembers, Probes}
use Rattle.workspace.specs.Restored.{From, Reached, Touched}
use Rattle.probing.proofs.Afresh.{None}
use Rattle.probing.proofs.Renewed.{renewed_same, renewed_none}
use Rattle.probing.proofs.Leads.{Leads, leads_or_none}
use Rattle.probing.proofs.Probing.{probed_below}
use Rattle.workspace.proofs.Touching.{Fixed, TouchedRun, propagate_touches}

-- a variable of the queue stands in the words
pub queued : {F : Field} {c : Cells} {x : ℕ} → Placed F c → In x (run_in F c).queue → From c.words (base F) c.tail 0 x
queued {c = c} P m =
    let l : m.place < c.tail = omega (arith, m.within, queue_long P) in
    record { place = m.place; low = omega arith; high = l; holds = sym (queue_at P m.place l) ∙ m.holds }

-- ---- what the probe begins from: i has its value, and only rows that its places lead to are made afresh

module _ (F : Field) (s : List ℕ) (i v : ℕ) where
  begun_touches : TouchedRun F s (λ x. x ≡ i) (renewed F v (remembered F s (set s i v)) i)
  unfolding remembered
  begun_touches =
      let same = renewed_same F i v (remembered F s (set s i v)) in
      record {
        values = λ j. at same.values j (ℕ_discrete j i);
        rows = λ t h. by t h (leads_or_none F i t (places F.rows F.cols i));
      }
    where
      at : {vs queue : List ℕ} → vs ≡ set s i v → (j : ℕ) → Dec (j ≡ i) → (get_or vs j 0 ≡ get_or s j 0) ⊎ Fixed (λ x. x ≡ i) queue j
      at e j (yes q) = inr (inl q)
      at e j (no ne) = inl (ap (λ (l : List ℕ). get_or l j 0) e ∙ get_or-set_other s i j v 0 ne)

      by : {queue : List ℕ} (t : ℕ) → t < variables F → Leads F i t (places F.rows F.cols i) ⊎ None F i t (places F.rows F.cols i)
          → (row_for (renewed F v (remembered F s (set s i v)) i) t ≡ row_of F s t) ⊎ Reached F (Fixed (λ x. x ≡ i) queue) t
      by t h (inl l) =
          let k = places_touch F.rows F.cols i l.place l.within in
          inr (record { variable = i; fixed = inl refl; joined = record { entry = get_or (places F.rows F.cols i) l.place 0; within = k.0; touches = k.1; other = l.other } })
      by t h (inr none) =
          inl (renewed_none F i v (remembered F s (set s i v)) t none ∙ get_d_up_to (row_of F s) (variables F) t no_row h)

  begun_empty : (renewed F v (remembered F s (set s i v)) i).queue ≡ []
  unfolding remembered
  begun_empty = (renewed_same F i v (remembered F s (set s i v))).queue

  probe_touches : TouchedRun F s (λ x. x ≡ i) (probe_run F s i v)
  unfolding probe_run
  probe_touches = propagate_touches F s (λ x. x ≡ i) (renewed F v (remembered F s (set s i v)) i) begun_empty begun_touches

module _ {F : Field} {s : List ℕ} {f : List Float} {u : List ℕ} {known : Known} (R : Remembers F s f u known) (i v : ℕ) (free : get_or s i 0 ≡ 2) (small : v < 2)
    {c : Cells} (P : Probes F s i v (cells s f u 0) c) where
  -- so what the probe leaves can be put back
  pub probed_touched : Touched F s i c
  unfolding run_in
  probed_touched = record {
    placed = P.kept.placed;
    start_long = R.start.long;
    here = probed_below R i v free small;
    values = λ j. ⊎_elim (λ e. inl e) (λ w. inr (⊎_elim inl (λ m. inr (queued P.kept.placed m)) w)) (touched.values j);
    rowed = record {
      rows = λ t h. ⊎_elim (λ e. inl (sym (get_d_up_to (row_on c.floats (variables F)) (variables F) t no_row h) ∙ e))
          (λ r. inr (record { variable = r.variable; fixed = ⊎_elim inl (λ m. inr (queued P.kept.placed m)) r.fixed; joined = r.joined }))
          (touched.rows t h);
      copy = λ t h. ap (λ (l : List Float). row_on l (variables F) t) P.kept.floats_rest ∙ R.copy t h;
      room = omega (arith, R.copy_room, P.kept.floats_long);
    };
  }
    where
      touched : TouchedRun F s (λ x. x ≡ i) (run_in F c)
      touched = rw P.run (probe_touches F s i v)

  module _ {f₂ : List Float} (W : Filled F s c.floats f₂) where
    -- the floats are again what they were
    pub floats_again : f₂ ≡ f
    floats_again =
        written_unique
        (record { long = W.long ∙ P.kept.floats_long; rows = W.rows; rest = W.rest ∙ P.kept.floats_rest })
        (record { long = refl; rows = R.rows; rest = refl })

    -- and the workspace stands for the next probe
    pub remembers_again : Remembers F s f₂ c.words known
    unfolding region
    remembers_again = rw floats_again record {
      placed = placed_start R.placed.shaped R.start.long R.placed.floats_room P.kept.placed.adjacent P.kept.placed.words_room;
      graded = R.graded;
      standard = R.standard;
      start = R.start;
      rows = R.rows;
      copy = R.copy;
      copy_room = R.copy_room;
      list_room = omega (arith, R.list_room, P.kept.words_long);
      count = R.count;
      listed =
          ap (take known.many) (drop_more (base F + c.tail) (base F + variables F) c.words u (omega (arith, P.kept.placed.queue_room)) P.kept.words_rest) ∙ R.listed;
    }
