-- The walk over the candidates with rows made afresh, and what stands before it. Assumes nothing.
use Prim.Native.Nat.{ℕ, ◌+◌, ◌<◌, ◌≤◌}
use mathlib.Core.Path.{◌≡◌, refl, sym, ap, ◌∙◌}
use mathlib.Core.List.{List}
use native.Mathlib.Omega.{arith}
use lib.Ieee.{Float}
use lib.ListN.{length, get_or, take}
use lib.Seq.{take-take}
use Rattle.scratch.specs.Region.{region}
use Rattle.meaning.proofs.Values.{inside}
use Rattle.found.specs.Flush.{left, flushed}
use Rattle.field.specs.Field.{Field, variables}
use Rattle.field.specs.Tests.{Ready}
use Rattle.places.proofs.Walk.{adjacent_front}
use Rattle.run.specs.Cells.{base}
use Rattle.ranking.proofs.Ordered.{Every}
use Rattle.twin.specs.Twin.{values_at, EndFor}
use Rattle.walking.specs.Walk.{candidates_at, gather_at, roomed, end_after, Stays, Begins, Adds, Walked}
use Rattle.walking.proofs.Going.{Going, going_start, going_done, going_full, roomed_here, going_room, going_free, going_turn}
use Rattle.probes.specs.Standing.{Noned}
use Rattle.probes.proofs.Standing.{region_same}
use Rattle.probes.proofs.Chosen.{Free, space_enough, candidates_free}
use Rattle.cold.specs.Afresh.{Places, Afresh, Lined}
use Rattle.std.specs.Prelude.{Option, Some, None}

-- ---- the loop

places_stay : (F : Field) → Stays F (Places F)
places_stay F u u' front long A =
    let cut : (w : List ℕ) → take (base F) (take (gather_at F) w) ≡ take (base F) w = λ w. take-take (base F) (gather_at F) w (omega arith) in
    adjacent_front (sym (cut u') ∙ ap (take (base F)) front ∙ cut u) long A

pub record Walking (F : Field) (s : List ℕ) (count : ℕ) (list₀ values₀ : List ℕ) (f₀ : List Float) (u₀ list values : List ℕ) (f : List Float) (u : List ℕ)
    (held end h : ℕ) : Type 0 where
  pub going : Going F s (Places F) count list₀ u₀ list u held end h
  pub values_long : length values ≡ length values₀
  pub floats_long : length f ≡ length f₀

pub walking_start : {F : Field} {s : List ℕ} {count : ℕ} {u : List ℕ} → Begins F s (Places F) u count → (list values : List ℕ) (f : List Float)
    → Walking F s count list values f u list values f u 0 (gather_at F) 0
walking_start B list values f = record { going = going_start B list; values_long = refl; floats_long = refl }

module _ {F : Field} {s : List ℕ} {count : ℕ} {list₀ values₀ : List ℕ} {f₀ : List Float} {u₀ list values : List ℕ} {f : List Float} {u : List ℕ} {held end h : ℕ}
    (W : Walking F s count list₀ values₀ f₀ u₀ list values f u held end h) where
  pub walking_done : count ≤ h → {r : Option ℕ} {list' u' : List ℕ} → left r list' u' ≡ flushed list held u (gather_at F) end
      → Walked F s (region (candidates_at F) count u₀) list₀ r list' u'
  walking_done l e = going_done W.going (places_stay F) l e

  module _ {r : Option ℕ} {list' u' : List ℕ} (e : left r list' u' ≡ roomed list held u (gather_at F) end (variables F)) where
    pub walking_full : r ≡ None → Walked F s (region (candidates_at F) count u₀) list₀ None list' u'
    walking_full a = going_full W.going (places_stay F) e a

    module _ (more : h < count) {held' next : ℕ} (a : r ≡ Some held') (d : next ≡ end_after (length u) (gather_at F) end (variables F))
        {i : ℕ} (q : i ≡ get_or u' (candidates_at F + h) 0) where
      pub walking_both : Afresh F s (length values₀) (length f₀) u₀ → Afresh F s (length values) (length f) u' × ((i < variables F) × EndFor F u' next)
      walking_both A =
          let S = (roomed_here W.going (places_stay F) e more a d).stands in (
            record {
              shaped = A.shaped;
              start = A.start;
              values_long = W.values_long ∙ A.values_long;
              floats_room = omega (arith, A.floats_room, W.floats_long);
              places = S.stand;
              words_room = omega (arith, S.space);
            },
            (omega (arith, inside s i (going_free W.going (places_stay F) e more a d q), A.start.long), going_room W.going (places_stay F) e more a d),
          )

      pub walking_turn : {values'' u'' : List ℕ} {f'' : List Float} {r'' : ℕ} → length values'' ≡ length values → length f'' ≡ length f → length u'' ≡ length u
          → Adds F s i u' next u'' r'' → Places F u'' → Walking F s count list₀ values₀ f₀ u₀ list' values'' f'' u'' held' r'' (h + 1)
      walking_turn ev ef eu added stand = record {
        going = going_turn W.going (places_stay F) e more a d q eu added stand;
        values_long = ev ∙ W.values_long;
        floats_long = ef ∙ W.floats_long;
      }

-- ---- before it

module _ {F : Field} {s : List ℕ} {values floats : ℕ} {u : List ℕ} {count : ℕ} (L : Lined F s values floats u count) {u' : List ℕ} (N : Noned (values_at F) (variables F) u u') where
  space : gather_at F + variables F ≤ length u'
  space = omega (arith, space_enough L.ready, N.long)

  candidate_same : (h : ℕ) → get_or u' (candidates_at F + h) 0 ≡ get_or u (candidates_at F + h) 0
  candidate_same h = N.behind (candidates_at F + h) (omega arith)

  stand : Places F u'
  stand =
      let cut : (w : List ℕ) → take (base F) (take (values_at F) w) ≡ take (base F) w = λ w. take-take (base F) (values_at F) w (omega arith) in
      adjacent_front (sym (cut u') ∙ ap (take (base F)) N.front ∙ cut u) N.long L.places

  pub lined_walks : Afresh F s values floats u' × Begins F s (Places F) u' count
  lined_walks = (
    record {
      shaped = L.ready.sound.shaped;
      start = L.ready.sound.start;
      values_long = L.values_long;
      floats_room = omega (arith, L.ready.floats_room);
      places = stand;
      words_room = omega (arith, space);
    },
    record {
      stand = stand;
      few = L.ready.sound.shaped.few_variables;
      within = L.within;
      free = λ h l. rw (candidate_same h) (L.free h l);
      none = N.none;
      space = space;
    },
  )

  -- the candidates are where they were
  pub lined_same : region (candidates_at F) count u' ≡ region (candidates_at F) count u
  lined_same = region_same (candidates_at F) count u u' (omega (arith, space, N.long, L.within)) N.long (λ h l. candidate_same h)

-- the candidates in their place, behind places that stand
pub lined_of : {F : Field} {s : List ℕ} {floats words : ℕ} → Ready F s floats words → {values floats' : ℕ} {u u' cands : List ℕ} {count : ℕ}
    → values ≡ variables F → floats' ≡ floats → length u ≡ words → length u' ≡ length u → Places F u → take (candidates_at F) u' ≡ take (candidates_at F) u
    → count ≤ variables F → region (candidates_at F) count u' ≡ cands → Every (Free s) cands → Lined F s values floats' u' count
lined_of {F} {s} R {u = u} {u' = u'} {cands = cands} ev ef long long' A front within are free =
    let cut : (w : List ℕ) → take (base F) (take (candidates_at F) w) ≡ take (base F) w = λ w. take-take (base F) (candidates_at F) w (omega arith) in record {
      ready = record { sound = R.sound; floats_room = omega (arith, R.floats_room, ef); words_room = omega (arith, R.words_room, long, long') };
      values_long = ev;
      places = adjacent_front (sym (cut u') ∙ ap (take (base F)) front ∙ cut u) long' A;
      within = within;
      free = candidates_free F s u' cands within (omega (arith, space_enough R, long, long')) are free;
    }
