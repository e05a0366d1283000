-- Both probes of one candidate: each step asks what the one before leaves, up to what both find. Assumes nothing.
use Prim.Native.Nat.{ℕ, ◌+◌, ◌<◌, ◌≤◌}
use mathlib.Core.Path.{◌≡◌, sym, ap, ◌∙◌}
use mathlib.Core.Logic.{◌⊎◌, inl}
use mathlib.Core.List.{List}
use native.Mathlib.Omega.{arith}
use lib.ListN.{length, get_or}
use Rattle.field.specs.Field.{Field, variables}
use Rattle.places.proofs.Walk.{adjacent_front}
use Rattle.run.specs.Cells.{base}
use Rattle.probe.specs.Call.{cold}
use Rattle.probe.specs.Found.{nothing}
use Rattle.finding.specs.Finds.{wins, gives_at, finding_of, finding, finding_by}
use Rattle.finding.specs.Emit.{bench, finding_in}
use Rattle.finding.specs.Enters.{Enters}
use Rattle.finding.proofs.Entered.{gathering_same}
use Rattle.finding.proofs.Entering.{enters_as, enters_values, enters_gathers}
use Rattle.finding.proofs.Copied.{front_by}
use Rattle.finding.proofs.Given.{finding_from}
use Rattle.twin.specs.Twin.{first_at, values_at, EndFor}
use Rattle.walking.specs.Walk.{candidates_at, Adds}
use Rattle.cold.specs.Afresh.{Places, Afresh, Behind, Laid, pass_to, Passable}
use Rattle.cold.proofs.Passed.{pass_enters}

-- the places stand where nothing in front of the queue is written
pub places_front : (F : Field) {u u' : List ℕ} → base F ≤ length u → length u' ≡ length u → ((p : ℕ) → p < base F → get_or u' p 0 ≡ get_or u p 0) → Places F u → Places F u'
places_front F {u} {u'} room long same A = adjacent_front (front_by (base F) u u' room long same) long A

finding_is : (F : Field) (s : List ℕ) (i j : ℕ) {w : List ℕ} → w ≡ cold F s i 1 → finding_of s i (cold F s i 0) w j ≡ finding F s i j
unfolding finding_by
finding_is F s i j e = rw e

module _ {F : Field} {s : List ℕ} {values floats : ℕ} {u : List ℕ} {i end : ℕ} (A : Afresh F s values floats u) (below : i < variables F) (N : EndFor F u end) where
  abbrev n : ℕ
  n = variables F

  -- the probe at 0, which leaves the values v
  module _ {v u₁ : List ℕ} (v-is : v ≡ cold F s i 0) (v_long : length v ≡ n) (B : Behind F u u₁) where
    pub lay_asks : first_at F + length v ≤ length u₁
    lay_asks = omega (arith, N.low, N.room, B.long, v_long)

    module _ {u₂ : List ℕ} (L : Laid (first_at F) (length v) v u₁ u₂) where
      pub afresh_again : {values' floats' : ℕ} → values' ≡ values → floats' ≡ floats → Afresh F s values' floats' u₂
      afresh_again ev ef = record {
        shaped = A.shaped;
        start = A.start;
        values_long = ev ∙ A.values_long;
        floats_room = omega (arith, A.floats_room, ef);
        places = places_front F {u = u₁} {u' = u₂} (omega (arith, A.words_room, B.long)) L.long (λ p h. L.front p (omega arith)) B.places;
        words_room = omega (arith, A.words_room, B.long, L.long);
      }

      -- the probe at 1, which leaves the values w
      module _ {w u₃ : List ℕ} (w_is : w ≡ cold F s i 1) (w-long : length w ≡ n) (C : Behind F u₂ u₃) where
        long₃ : length u₃ ≡ length u
        long₃ = C.long ∙ L.long ∙ B.long

        pub pass_asks : Passable s w u₃ i (first_at F) (values_at F) end
        pass_asks = record {
          small = omega (arith, below, A.shaped.few_variables);
          few = omega (arith, A.start.long, A.shaped.few_variables);
          same = w-long ∙ sym A.start.long;
          first_room = omega (arith, A.start.long);
          value_room = omega (arith, A.start.long, N.low);
          end_room = omega (arith, A.start.long, N.room, long₃);
        }

        finds : (j : ℕ) → j < n → finding_in s w i (first_at F) u₃ j ≡ finding F s i j
        finds j h =
            let e : get_or u₃ (first_at F + j) 0 ≡ get_or (cold F s i 0) j 0 =
            C.rest (first_at F + j) (omega arith) ∙ L.are j (omega (arith, v_long)) ∙ ap (λ (z : List ℕ). get_or z j 0) v-is in
            finding_from s (cold F s i 0) w i (first_at F) u₃ j (ap (gives_at i j (get_or s j 0)) e) ∙ finding_is F s i j w_is

        elsewhere : (p : ℕ) → values_at F ≤ p → get_or u₃ p 0 ≡ get_or u p 0
        elsewhere p h = C.rest p (omega arith) ∙ L.rest p (omega (arith, v_long)) ∙ B.rest p (omega arith)

        -- the pass
        module _ {u₄ : List ℕ} {r : ℕ} (passed : bench u₄ r ≡ pass_to s w i (first_at F) (values_at F) (bench u₃ end) (length s)) where
          enters : Enters (finding F s i) n (values_at F) (λ j. j < n) (bench u₃ end) (bench u₄ r)
          enters = enters_as finds (rw A.start.long at (pass_enters pass_asks passed))

          each : (j : ℕ) → j < n → (j < n) ⊎ (finding F s i j ≡ nothing)
          each j h = inl h

          pub both_adds : Adds F s i u end u₄ r
          both_adds = record {
            long = enters.long ∙ long₃;
            values = λ j h. enters_values enters each j h ∙ ap (wins (finding F s i j)) (elsewhere (values_at F + j) (omega arith));
            between = λ j h. enters.others (candidates_at F + j) (omega (arith, N.low)) (λ x b e. absurd (omega arith)) ∙ elsewhere (candidates_at F + j) (omega arith);
            gathers = λ G. enters_gathers enters each (omega arith) (gathering_same {u' = u₃} G long₃ (λ t b c. elsewhere t (omega arith)));
          }

          pub both_places : Places F u₄
          both_places = places_front F {u = u₃} {u' = u₄} (omega (arith, A.words_room, long₃)) enters.long
              (λ p h. enters.others p (omega (arith, N.low)) (λ x b e. absurd (omega arith))) C.places
