-- The loop over the candidates. Assumes nothing.
use Prim.Native.Nat.{ℕ, ◌+◌, ◌-◌, ◌<◌, ◌≤◌}
use mathlib.Core.Path.{◌≡◌, refl, sym, ap, ◌∙◌}
use mathlib.Core.List.{List}
use native.Mathlib.Nat.{div-mul-le_self, le_refl}
use native.Mathlib.Omega.{arith}
use lib.Ieee.{Float}
use lib.ListN.{length, get_or, take}
use lib.Seq.{take-take}
use Rattle.probing.specs.declared.Known.{Known}
use Rattle.scratch.specs.Region.{region}
use Rattle.scratch.proofs.Region.{length_region}
use Rattle.meaning.specs.Rising.{merged_list}
use Rattle.constraints.proofs.Records.{length_filled}
use Rattle.found.specs.Joint.{Held}
use Rattle.found.specs.Flush.{left, flushed}
use Rattle.found.proofs.Gathering.{gathering_held}
use Rattle.sorting.specs.Numbers.{Keys}
use Rattle.field.specs.Field.{Field, variables}
use Rattle.places.proofs.Slices.{front_get_d}
use Rattle.twin.specs.Twin.{first_at, Twinnable, EndFor, Twinned}
use Rattle.twin.proofs.Framed.{remembers_front}
use Rattle.walking.specs.Walk.{candidates_at, gather_at, roomed, end_after, Workspace, Walkable, Stays, Begins, Adds, Stands, Walks, Valued, Walked, full}
use Rattle.walking.proofs.Turned.{stands_start, stands_values, candidate_free, stands_more, walks_start, walks_more, roomed_walks, roomed_enough, roomed_full, walks_done}
use Rattle.std.specs.Prelude.{Option, Some, None}

list_long : {F : Field} {s : List ℕ} {P : List ℕ → Type 0} {cands : List ℕ} {k : ℕ} {list₀ list : List ℕ} {held : ℕ} {u : List ℕ} {end : ℕ}
    → Walks F s P cands k list₀ list held u end → length list ≡ length list₀
list_long {list₀ = list₀} W =
    let H = W.gathers.holding in
    ap length H.is ∙ length_filled (merged_list W.gathers.flushed) list₀ (omega (arith, H.fits, div-mul-le_self (length list₀) 3))

pub less_next : {h count : ℕ} → h < count → count - (h + 1) < count - h
less_next l = omega arith

pub fits_next : {h count n : ℕ} → h < count → count ≤ n → n ≤ 4096 → h + 1 < 18446744073709551616
fits_next a b c = omega arith

-- ---- whatever works the probes

-- h of the candidates that stood in the words are done
pub record Going (F : Field) (s : List ℕ) (P : List ℕ → Type 0) (count : ℕ) (list₀ u₀ list u : List ℕ) (held end h : ℕ) : Type 0 where
  pub walks : Walks F s P (region (candidates_at F) count u₀) h list₀ list held u end
  pub long : length (region (candidates_at F) count u₀) ≡ count
  pub within : h ≤ count
  pub words_long : length u ≡ length u₀

pub going_start : {F : Field} {s : List ℕ} {P : List ℕ → Type 0} {u : List ℕ} {count : ℕ} → Begins F s P u count → (list : List ℕ)
    → Going F s P count list u list u 0 (gather_at F) 0
going_start {F} {u = u} {count = count} B list = record {
  walks = walks_start B list;
  long = length_region (candidates_at F) count u (omega (arith, B.within, B.space));
  within = omega arith;
  words_long = refl;
}

module _ {F : Field} {s : List ℕ} {P : List ℕ → Type 0} {count : ℕ} {list₀ u₀ list u : List ℕ} {held end h : ℕ} (G : Going F s P count list₀ u₀ list u held end h) where
  pub going_end : end ≤ length u
  going_end = G.walks.gathers.keys.room

  pub going_asks : Held held list × Keys (gather_at F) end u
  going_asks = (gathering_held G.walks.gathers, G.walks.gathers.keys)

  pub going_list : length list ≡ length list₀
  going_list = list_long G.walks

  module _ (stays : Stays F P) where
    pub going_done : count ≤ h → {r : Option ℕ} {list' u' : List ℕ} → left r list' u' ≡ flushed list held u (gather_at F) end
        → Walked F s (region (candidates_at F) count u₀) list₀ r list' u'
    going_done l e = let z : h ≡ length (region (candidates_at F) count u₀) = omega (arith, G.within, G.long) in walks_done stays (rw z at G.walks) e

    module _ {r : Option ℕ} {list' u' : List ℕ} (e : left r list' u' ≡ roomed list held u (gather_at F) end (variables F)) where
      pub going_full : r ≡ None → Walked F s (region (candidates_at F) count u₀) list₀ None list' u'
      going_full a = full (roomed_full stays G.walks e (omega (arith, G.within, G.long)) a)

      module _ (more : h < count) {held' next : ℕ} (a : r ≡ Some held') (d : next ≡ end_after (length u) (gather_at F) end (variables F)) where
        pub roomed_here : Walks F s P (region (candidates_at F) count u₀) h list₀ list' held' u' next
        roomed_here = rw d (roomed_walks stays G.walks e a)

        inside : h < length (region (candidates_at F) count u₀)
        inside = omega (arith, more, G.long)

        pub going_room : EndFor F u' next
        going_room = record { low = roomed_here.gathers.keys.order; room = rw d (roomed_enough stays G.walks e a) }

        module _ {i : ℕ} (q : i ≡ get_or u' (candidates_at F + h) 0) where
          pub going_free : get_or s i 0 ≡ 2
          going_free = candidate_free roomed_here.stands q inside

          pub going_turn : {u'' : List ℕ} {r'' : ℕ} → length u'' ≡ length u → Adds F s i u' next u'' r'' → P u'' → Going F s P count list₀ u₀ list' u'' held' r'' (h + 1)
          going_turn w A stand = record {
            walks = walks_more stays roomed_here q inside A stand;
            long = G.long;
            within = omega arith;
            words_long = w ∙ G.words_long;
          }

-- ---- over remembered rows

module _ {F : Field} {s : List ℕ} {f : List Float} {known : Known} where
  workspace_stays : Stays F (Workspace F s f known)
  workspace_stays u u' front long W =
      let cut : (w : List ℕ) → take (first_at F) (take (gather_at F) w) ≡ take (first_at F) w = λ w. take-take (first_at F) (gather_at F) w (omega arith) in record {
        remembers = remembers_front F u u' (sym (cut u') ∙ ap (take (first_at F)) front ∙ cut u) long W.remembers;
        first = λ j h. front_get_d (gather_at F) u' u front (first_at F + j) (omega arith) ∙ W.first j h;
      }

  walkable_begins : {u : List ℕ} {count : ℕ} → Walkable F s f u known count → Begins F s (Workspace F s f known) u count
  walkable_begins W = record {
    stand = record { remembers = W.remembers; first = W.first };
    few = W.few;
    within = W.within;
    free = W.free;
    none = W.none;
    space = W.space;
  }

  twinnable : {cands : List ℕ} {k i : ℕ} {u : List ℕ} → Stands F s (Workspace F s f known) cands k u → get_or s i 0 ≡ 2 → Twinnable F s f u known i
  twinnable S free = record { remembers = S.stand.remembers; few = S.few; free = free; first = S.stand.first; room = omega (arith, S.space) }

  module _ {i end r : ℕ} {u u' : List ℕ} (T : Twinned F s f known i u end u' r) where
    twin_adds : Adds F s i u end u' r
    twin_adds = record { long = T.long; values = T.values; between = T.between; gathers = λ G. T.gathers (le_refl (gather_at F)) G }

    twin_stands : Workspace F s f known u'
    twin_stands = record { remembers = T.remembers; first = T.first }

-- and the values are the start values
pub record Walking (F : Field) (s : List ℕ) (known : Known) (count : ℕ) (list₀ : List ℕ) (f₀ : List Float) (u₀ values list : List ℕ) (f : List Float) (u : List ℕ)
    (held end h : ℕ) : Type 0 where
  pub going : Going F s (Workspace F s f known) count list₀ u₀ list u held end h
  pub same : values ≡ s
  pub floats : f ≡ f₀

pub walking_start : {F : Field} {s : List ℕ} {known : Known} {count : ℕ} {f : List Float} {u values : List ℕ} → Walkable F s f u known count → values ≡ s → (list : List ℕ)
    → Walking F s known count list f u values list f u 0 (gather_at F) 0
walking_start W e list = record { going = going_start (walkable_begins W) list; same = e; floats = refl }

module _ {F : Field} {s : List ℕ} {known : Known} {count : ℕ} {list₀ : List ℕ} {f₀ : List Float} {u₀ values list : List ℕ} {f : List Float} {u : List ℕ} {held end h : ℕ}
    (W : Walking F s known count list₀ f₀ u₀ values list f u held end h) where
  pub walking_done : count ≤ h → {r : Option ℕ} {list' u' : List ℕ} → left r list' u' ≡ flushed list held u (gather_at F) end
      → Walked F s (region (candidates_at F) count u₀) list₀ r list' u'
  walking_done l e = going_done W.going workspace_stays l e

  module _ {r : Option ℕ} {list' u' : List ℕ} (e : left r list' u' ≡ roomed list held u (gather_at F) end (variables F)) where
    pub walking_full : r ≡ None → Walked F s (region (candidates_at F) count u₀) list₀ None list' u'
    walking_full a = going_full W.going workspace_stays e a

    module _ (more : h < count) {held' next : ℕ} (a : r ≡ Some held') (d : next ≡ end_after (length u) (gather_at F) end (variables F))
        {i : ℕ} (q : i ≡ get_or u' (candidates_at F + h) 0) where
      pub walking_twin : Twinnable F s f u' known i × (EndFor F u' next × (values ≡ s))
      walking_twin = (
        twinnable (roomed_here W.going workspace_stays e more a d).stands (going_free W.going workspace_stays e more a d q),
        (going_room W.going workspace_stays e more a d, W.same),
      )

      pub walking_turn : {values'' u'' : List ℕ} {f'' : List Float} {r'' : ℕ} → length u'' ≡ length u → values'' ≡ s → f'' ≡ f → Twinned F s f known i u' next u'' r''
          → Walking F s known count list₀ f₀ u₀ values'' list' f'' u'' held' r'' (h + 1)
      walking_turn w v g T = record {
        going = rw g (going_turn W.going workspace_stays e more a d q w (twin_adds T) (twin_stands T));
        same = v;
        floats = g ∙ W.floats;
      }

-- ---- the walk for the probe values alone

pub record Valuing (F : Field) (s : List ℕ) (known : Known) (count : ℕ) (f₀ : List Float) (u₀ values : List ℕ) (f : List Float) (u : List ℕ) (h : ℕ) : Type 0 where
  pub stands : Stands F s (Workspace F s f known) (region (candidates_at F) count u₀) h u
  pub long : length (region (candidates_at F) count u₀) ≡ count
  pub within : h ≤ count
  pub same : values ≡ s
  pub floats : f ≡ f₀
  pub words_long : length u ≡ length u₀

pub valuing_start : {F : Field} {s : List ℕ} {known : Known} {count : ℕ} {f : List Float} {u values : List ℕ} → Walkable F s f u known count → values ≡ s
    → Valuing F s known count f u values f u 0
valuing_start {F} {count = count} {u = u} W e = record {
  stands = stands_start (walkable_begins W);
  long = length_region (candidates_at F) count u (omega (arith, W.within, W.space));
  within = omega arith;
  same = e;
  floats = refl;
  words_long = refl;
}

module _ {F : Field} {s : List ℕ} {known : Known} {count : ℕ} {f₀ : List Float} {u₀ values : List ℕ} {f : List Float} {u : List ℕ} {h : ℕ}
    (W : Valuing F s known count f₀ u₀ values f u h) where
  pub valuing_done : count ≤ h → Valued F s (region (candidates_at F) count u₀) u
  valuing_done l = let z : h ≡ length (region (candidates_at F) count u₀) = omega (arith, W.within, W.long) in rw z at (stands_values W.stands)

  module _ (more : h < count) {i : ℕ} (q : i ≡ get_or u (candidates_at F + h) 0) where
    candidate_in : h < length (region (candidates_at F) count u₀)
    candidate_in = omega (arith, more, W.long)

    pub valuing_twin : Twinnable F s f u known i × (EndFor F u (gather_at F) × (values ≡ s))
    valuing_twin = (twinnable W.stands (candidate_free W.stands q candidate_in), (record { low = le_refl (gather_at F); room = W.stands.space }, W.same))

    pub valuing_turn : {values' u' : List ℕ} {f' : List Float} {r : ℕ} → length u' ≡ length u → values' ≡ s → f' ≡ f → Twinned F s f known i u (gather_at F) u' r
        → Valuing F s known count f₀ u₀ values' f' u' (h + 1)
    valuing_turn w v g T = record {
      stands = rw g (stands_more W.stands q candidate_in (twin_adds T) (twin_stands T));
      long = W.long;
      within = omega arith;
      same = v;
      floats = g ∙ W.floats;
      words_long = w ∙ W.words_long;
    }
