-- A write behind the workspace leaves it, and what a probe touched, as it was. Assumes nothing.
use Prim.Native.Nat.{ℕ, ◌+◌, ◌-◌, ◌<◌, ◌≤◌}
use mathlib.Core.Path.{◌≡◌, sym, ap, ◌∙◌}
use mathlib.Core.Logic.{inl, inr, ⊎_elim}
use mathlib.Core.List.{List}
use native.Mathlib.Omega.{arith}
use lib.Ieee.{Float}
use lib.ListN.{length, get_or, take}
use lib.Seq.{take-take, get_or-drop, ext_get_or}
use Rattle.scratch.specs.Region.{region}
use Rattle.scratch.proofs.Region.{length_region, region_at}
use Rattle.field.specs.Field.{Field, variables, StartFor}
use Rattle.rows.specs.Model.{row_of}
use Rattle.rows.specs.Stored.{up_to}
use Rattle.places.proofs.Walk.{adjacent_front}
use Rattle.places.proofs.Slices.{front_get_d}
use Rattle.run.specs.Cells.{Cells, cells, base}
use Rattle.run.proofs.Cells.{placed_start}
use Rattle.run.proofs.Room.{room_scan}
use Rattle.probing.specs.declared.Known.{Known}
use Rattle.probing.specs.Remembered.{candidates, remembered, Remembers, Probes}
use Rattle.workspace.specs.Restored.{From, Touched}
use Rattle.twin.specs.Twin.{first_at}

pub candidates_few : (F : Field) (s : List ℕ) → StartFor (variables F) s → length (candidates F s) ≤ variables F
unfolding candidates remembered
candidates_few F s start = omega (arith, (room_scan F (up_to (row_of F s) (variables F)) start (variables F)).count)

module _ (F : Field) (u u' : List ℕ) (front : take (first_at F) u' ≡ take (first_at F) u) (long : length u' ≡ length u) where
  front_base : take (base F) u' ≡ take (base F) u
  front_base = sym (take-take (base F) (first_at F) u' (omega arith)) ∙ ap (take (base F)) front ∙ take-take (base F) (first_at F) u (omega arith)

  pub remembers_front : {s : List ℕ} {f : List Float} {known : Known} → Remembers F s f u known → Remembers F s f u' known
  remembers_front {s} {f} {known} R =
      let few : known.many ≤ variables F = omega (arith, R.count, candidates_few F s R.start) in
      let a = base F + variables F in record {
        placed = placed_start R.placed.shaped R.start.long R.placed.floats_room (adjacent_front front_base long R.placed.adjacent) (omega (arith, R.placed.words_room, long));
        graded = R.graded;
        standard = R.standard;
        start = R.start;
        rows = R.rows;
        copy = R.copy;
        copy_room = R.copy_room;
        list_room = omega (arith, R.list_room, long);
        count = R.count;
        listed = ext_get_or 0 (region a known.many u') (region a known.many u)
            (length_region a known.many u' (omega (arith, few, R.list_room, long)) ∙ sym (length_region a known.many u (omega (arith, few, R.list_room))))
            (λ j h. let k : j < known.many = omega (arith, h, length_region a known.many u' (omega (arith, few, R.list_room, long))) in
            region_at a known.many u' j 0 k ∙ front_get_d (first_at F) u' u front (a + j) (omega (arith, few)) ∙ sym (region_at a known.many u j 0 k)) ∙ R.listed;
      }

  from_front : {k j : ℕ} → k ≤ variables F → From u (base F) k 0 j → From u' (base F) k 0 j
  from_front few w = record {
    place = w.place;
    low = w.low;
    high = w.high;
    holds = front_get_d (first_at F) u' u front (base F + w.place) (omega (arith, w.high)) ∙ w.holds;
  }

  pub touched_front : {s vs : List ℕ} {f : List Float} {i k : ℕ} → Touched F s i (cells vs f u k) → Touched F s i (cells vs f u' k)
  touched_front {k = k} T =
      let few : k ≤ variables F = omega (arith, T.placed.queue_room) in record {
        placed = record {
          shaped = T.placed.shaped;
          values_long = T.placed.values_long;
          floats_room = T.placed.floats_room;
          adjacent = adjacent_front front_base long T.placed.adjacent;
          words_room = omega (arith, T.placed.words_room, long);
          queue_room = T.placed.queue_room;
          queue_below = λ h l. rw (front_get_d (first_at F) u' u front (base F + h) (omega arith)) (T.placed.queue_below h l);
        };
        start_long = T.start_long;
        here = T.here;
        values = λ j. ⊎_elim inl (λ w. inr (⊎_elim inl (λ m. inr (from_front few m)) w)) (T.values j);
        rowed = record {
          rows = λ t h. ⊎_elim inl
              (λ r. inr (record { variable = r.variable; fixed = ⊎_elim inl (λ m. inr (from_front few m)) r.fixed; joined = r.joined }))
              (T.rowed.rows t h);
          copy = T.rowed.copy;
          room = T.rowed.room;
        };
      }

-- a probe writes nothing behind its queue
pub probe_behind : {F : Field} {s : List ℕ} {i v : ℕ} {a c : Cells} → Probes F s i v a c → (t : ℕ) → base F + variables F ≤ t → get_or c.words t 0 ≡ get_or a.words t 0
probe_behind {F} {a = a} {c = c} P t h =
    let d = base F + c.tail in
    let e : d + (t - d) ≡ t = omega (arith, P.kept.placed.queue_room) in
    rw e at (sym (get_or-drop d c.words (t - d) 0) ∙ ap (λ (z : List ℕ). get_or z (t - d) 0) P.kept.words_rest ∙ get_or-drop d a.words (t - d) 0)
