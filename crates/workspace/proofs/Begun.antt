-- From the rows and a scan, over the places, to the workspace. Assumes nothing.
use Prim.Native.Nat.{ℕ, ◌+◌, ◌*◌, ◌<◌, ◌≤◌}
use mathlib.Core.Path.{◌≡◌, refl, sym, ap, ◌∙◌}
use mathlib.Core.Logic.{inl, inr, ⊎_elim}
use mathlib.Core.List.{List}
use native.Mathlib.Omega.{arith}
use lib.Ieee.{Float, nan}
use lib.ListN.{length, take, drop}
use lib.Seq.{get_or-take, get_or-drop, length-take-le, ext_get_or}
use Rattle.scratch.specs.Region.{region}
use Rattle.scratch.proofs.Region.{length_region, region_at}
use Rattle.field.specs.Field.{Field, variables}
use Rattle.field.specs.Tests.{Ready}
use Rattle.field.specs.Grade.{grade_of}
use Rattle.rows.specs.Model.{row_of}
use Rattle.rows.specs.Stored.{row_on, Fillable, Filled}
use Rattle.rows.proofs.Upto.{get_d_up_to, up_to_same}
use Rattle.places.specs.Places.{EndsBelow, Adjacent}
use Rattle.places.proofs.Shape.{ends_below}
use Rattle.places.proofs.Walk.{adjacent_front}
use Rattle.run.specs.Run.{Run, no_row, scan_to}
use Rattle.run.specs.Cells.{cells, base, run_in, Placed, Does}
use Rattle.run.proofs.Cells.{placed_start, queue_long}
use Rattle.probing.specs.declared.Known.{Known}
use Rattle.probing.specs.Remembered.{remembered, candidates, Remembers}
use Rattle.workspace.specs.Restored.{Undoable}
use Rattle.workspace.specs.Shifted.{Shiftable, Shifted}
use Rattle.workspace.proofs.Touching.{TouchedRun, scan_touches}
use Rattle.workspace.proofs.Again.{queued}

-- what lies before the copy is as it was
shifted_front : {a b k : ℕ} {l l' : List ℕ} → Shifted 0 a b k l l' → (m : ℕ) → m ≤ b → m ≤ length l → take m l' ≡ take m l
shifted_front {l = l} {l' = l'} S m h room =
    let long : length (take m l) ≡ m = length-take-le m l room in
    let long' : length (take m l') ≡ m = length-take-le m l' (omega (arith, S.long)) in
    ext_get_or 0 _ _ (long' ∙ sym long) (λ j z. get_or-take m l' j 0 (omega arith) ∙ S.before_it j (omega arith) ∙ sym (get_or-take m l j 0 (omega arith)))

-- the copy is what it is copied from
shifted_region : {a b k : ℕ} {l l' : List ℕ} → Shifted 0 a b k l l' → a + k ≤ b → b + k ≤ length l → region b k l' ≡ region a k l
shifted_region {a} {b} {k} {l} {l'} S apart room =
    let long : length (region a k l) ≡ k = length_region a k l (omega arith) in
    let long' : length (region b k l') ≡ k = length_region b k l' (omega (arith, S.long)) in
    ext_get_or 0 _ _ (long' ∙ sym long) (λ j z. region_at b k l' j 0 (omega arith) ∙ S.moved j (omega arith) ∙ sym (region_at a k l j 0 (omega arith)))

module _ {F : Field} {s : List ℕ} (f₀ : List Float) (u₀ : List ℕ) (ready : Ready F s (length f₀) (length u₀)) where
  pub begin_places : EndsBelow (variables F) F.rows F.cols × (variables F + 1 + 2 * length F.rows ≤ length u₀)
  begin_places = (ends_below ready.sound.shaped, omega (arith, ready.words_room, ready.sound.shaped.rows_long))

  pub begin_rows : {vs : List ℕ} → vs ≡ s → Fillable F vs f₀
  begin_rows e = record { shaped = ready.sound.shaped; values_long = ap length e ∙ ready.sound.start.long; room = omega (arith, ready.floats_room) }

  module _ {vs : List ℕ} {f₁ f₂ : List Float} (e : vs ≡ s) (adjacent : Adjacent (variables F) F.rows F.cols u₀) (filled : Filled F vs f₀ f₁)
      (copied : Shifted nan 0 (variables F + variables F) (variables F + variables F) f₁ f₂) where
    rows_at : (t : ℕ) → t < variables F → row_on f₁ (variables F) t ≡ row_of F s t
    rows_at t h = filled.rows t h ∙ ap (λ (l : List ℕ). row_of F l t) e

    front_row : (t : ℕ) → t < variables F → row_on f₂ (variables F) t ≡ row_of F s t
    front_row t h = rw (copied.before_it t (omega arith), copied.before_it (variables F + t) (omega arith)) (rows_at t h)

    copy_row : (t : ℕ) → t < variables F → row_on (drop (variables F + variables F) f₂) (variables F) t ≡ row_of F s t
    copy_row t h =
        let n = variables F in
        let lower : 0 + t ≡ t = omega arith in
        let upper : 0 + (n + t) ≡ n + t = omega arith in
        rw (get_or-drop (n + n) f₂ t nan, get_or-drop (n + n) f₂ (n + t) nan, copied.moved t (omega arith), copied.moved (n + t) (omega arith), lower, upper) (rows_at t h)

    pub begin_placed : Placed F (cells vs f₂ u₀ 0)
    begin_placed =
        placed_start ready.sound.shaped (ap length e ∙ ready.sound.start.long) (omega (arith, ready.floats_room, filled.long, copied.long))
        adjacent (omega (arith, ready.words_room, ready.sound.shaped.rows_long))

    begun : run_in F (cells vs f₂ u₀ 0) ≡ remembered F s s
    unfolding run_in remembered region
    begun = rw (e, up_to_same (row_on f₂ (variables F)) (row_of F s) (variables F) front_row)

    base_touches : TouchedRun F s (λ x. ⊥) (remembered F s s)
    unfolding remembered
    base_touches = record { values = λ j. inl refl; rows = λ t h. inl (get_d_up_to (row_of F s) (variables F) t no_row h) }

    module _ {vs₂ u₂ : List ℕ} {many : ℕ} (D : Does F (λ run. scan_to run (variables F)) (cells vs f₂ u₀ 0) (cells vs₂ f₂ u₂ many)) where
      scan_is : run_in F (cells vs₂ f₂ u₂ many) ≡ scan_to (remembered F s s) (variables F)
      scan_is = D.run ∙ ap (λ (run : Run). scan_to run (variables F)) begun

      pub begin_undo : Undoable s vs₂ u₂ (base F) many
      unfolding run_in
      begin_undo = record {
        long = D.kept.placed.values_long ∙ sym ready.sound.start.long;
        room = omega (arith, D.kept.placed.words_room, D.kept.placed.queue_room);
        below = λ p h. omega (arith, D.kept.placed.queue_below p h, ready.sound.start.long);
        values = λ j. ⊎_elim inl (λ w. inr (⊎_elim (λ z. absurd z) (λ m. queued D.kept.placed m) w)) (touched.values j);
      }
        where
          touched : TouchedRun F s (λ x. ⊥) (run_in F (cells vs₂ f₂ u₂ many))
          touched = rw scan_is (scan_touches F s (λ x. ⊥) (remembered F s s) (variables F) base_touches)

      few : many ≤ variables F
      few = omega (arith, D.kept.placed.queue_room)

      room₂ : base F + variables F + variables F ≤ length u₂
      room₂ = omega (arith, ready.words_room, ready.sound.shaped.rows_long, D.kept.words_long)

      pub begin_list : Shiftable (base F) (base F + variables F) many (length u₂)
      begin_list = record { order = inr (omega (arith, few)); from_room = omega (arith, few, room₂); to_room = omega (arith, few, room₂) }

      module _ {u₃ : List ℕ} (S : Shifted 0 (base F) (base F + variables F) many u₂ u₃) where
        pub begin_remembers : {known : Known} → known.many ≡ many → known.grade ≡ grade_of F → Remembers F s f₂ u₃ known
        unfolding candidates run_in
        begin_remembers em eg = record {
          graded = eg;
          placed = placed_start ready.sound.shaped ready.sound.start.long (omega (arith, ready.floats_room, filled.long, copied.long))
              (adjacent_front (shifted_front S (base F) (omega arith) (omega (arith, room₂))) S.long D.kept.placed.adjacent) (omega (arith, room₂, S.long));
          standard = ready.sound.standard;
          start = ready.sound.start;
          rows = front_row;
          copy = copy_row;
          copy_room = omega (arith, ready.floats_room, filled.long, copied.long);
          list_room = omega (arith, room₂, S.long);
          count = em ∙ sym (queue_long D.kept.placed) ∙ ap (λ (run : Run). length run.queue) scan_is;
          listed = rw em (shifted_region S (omega (arith, few)) (omega (arith, few, room₂)) ∙ ap (λ (run : Run). run.queue) scan_is);
        }
