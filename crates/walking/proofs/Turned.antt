-- One candidate more, a flush, and the end of the walk, whatever works the probes. Assumes nothing.
use Prim.Native.Nat.{ℕ, zero, suc, ◌+◌, ◌-◌, ◌<◌, ◌≤◌}
use mathlib.Core.Path.{◌≡◌, refl, sym, ap, ◌∙◌}
use mathlib.Core.Bool.{Bool, true, false, cond}
use mathlib.Core.List.{List, Memᴰ}
use native.Mathlib.Numerals.{add-one}
use native.Mathlib.Nat.{le_refl, add-zero, add-suc}
use native.Mathlib.Omega.{arith}
use borrow.Author.Tests.{leb-true}
use lib.Dec.{leb}
use lib.ListN.{length, get_or, take, replicate}
use lib.Seq.{ext_get_or}
use Rattle.scratch.specs.Region.{region}
use Rattle.scratch.proofs.Region.{length_region, region_at}
use Rattle.meaning.specs.Records.{Record, AllProper}
use Rattle.meaning.specs.Rising.{merged_list}
use Rattle.constraints.specs.Record.{room}
use Rattle.sorting.specs.Numbers.{distinct_at}
use Rattle.sorting.proofs.Numbers.{distinct_front, distinct_long}
use Rattle.sorting.proofs.Joining.{words_proper}
use Rattle.found.specs.Flush.{Left, left, flushed}
use Rattle.found.specs.Holding.{Gathering}
use Rattle.found.proofs.Gathering.{gathering_start, gathering_flush, gathering_full, gathering_done, gathering_count}
use Rattle.found.proofs.Tops.{proper_both}
use Rattle.found.proofs.Holding.{stays_full, words_left}
use Rattle.field.specs.Field.{Field, variables}
use Rattle.rows.proofs.Upto.{length_up_to, get_d_up_to}
use Rattle.places.proofs.Slices.{front_get_d}
use Rattle.finding.specs.Finds.{wins, finding, values_after, records_of, records_found_by, values_of, values_found_by}
use Rattle.finding.proofs.Entering.{to_more}
use Rattle.twin.specs.Twin.{values_at}
use Rattle.walking.specs.Walk.{candidates_at, gather_at, roomed, end_after, Stays, Begins, Adds, Stands, Walks, Walked, holds, full}
use Rattle.std.specs.Prelude.{Option, Some, None}

-- ---- the model

length_replicate : (n x : ℕ) → length (replicate n x) ≡ n
length_replicate zero x = refl
length_replicate (suc n) x = ap suc (length_replicate n x)

get_d_replicate : (n x j : ℕ) → j < n → get_or (replicate n x) j 0 ≡ x
get_d_replicate zero x j h = absurd (omega arith)
get_d_replicate (suc n) x zero h = refl
get_d_replicate (suc n) x (suc j) h = get_d_replicate n x j (omega arith)

module _ (F : Field) (s cands : List ℕ) where
  pub values_long : (k : ℕ) → length (values_of F s cands k) ≡ variables F
  unfolding values_found_by values_after
  values_long zero = length_replicate (variables F) 2
  values_long (suc k) = length_up_to _ (length (values_of F s cands k)) ∙ values_long k

  value_next : (k j : ℕ) → j < variables F → get_or (values_of F s cands (suc k)) j 0 ≡ wins (finding F s (get_or cands k 0) j) (get_or (values_of F s cands k) j 0)
  unfolding values_found_by values_after
  value_next k j h = get_d_up_to (λ j. wins (finding F s (get_or cands k 0) j) (get_or (values_of F s cands k) j 0)) (length (values_of F s cands k)) j 0 (omega (arith, values_long k))

-- what was found stays found
found_more : (F : Field) (s cands : List ℕ) (k d : ℕ) (x : Record) → Memᴰ x (records_of F s cands k) → Memᴰ x (records_of F s cands (k + d))
unfolding records_found_by
found_more F s cands k zero x m = rw (add-zero k) m
found_more F s cands k (suc d) x m =
    rw (add-suc k d) (to_more (finding F s (get_or cands (k + d) 0)) (records_of F s cands (k + d)) (variables F) x (found_more F s cands k d x m))

-- ---- the start

module _ {F : Field} {s : List ℕ} {P : List ℕ → Type 0} {u : List ℕ} {count : ℕ} (B : Begins F s P u count) where
  pub stands_start : Stands F s P (region (candidates_at F) count u) 0 u
  unfolding values_found_by
  stands_start =
      let cands = region (candidates_at F) count u in
      let long : length cands ≡ count = length_region (candidates_at F) count u (omega (arith, B.within, B.space)) in record {
        stand = B.stand;
        few = B.few;
        space = B.space;
        values = λ j h. B.none j h ∙ sym (get_d_replicate (variables F) 2 j h);
        listed = λ h l. sym (region_at (candidates_at F) count u h 0 (omega (arith, l, long)));
        within = omega (arith, B.within, long);
        free = λ h l. rw (region_at (candidates_at F) count u h 0 (omega (arith, l, long))) (B.free h (omega (arith, l, long)));
      }

  pub walks_start : (list : List ℕ) → Walks F s P (region (candidates_at F) count u) 0 list list 0 u (gather_at F)
  unfolding records_found_by
  walks_start list = record { stands = stands_start; gathers = gathering_start (gather_at F) list u (omega (arith, B.space)) }

-- ---- one candidate more

module _ {F : Field} {s : List ℕ} {P : List ℕ → Type 0} {cands : List ℕ} {k : ℕ} {u : List ℕ} (W : Stands F s P cands k u) where
  -- the end: the probe values
  pub stands_values : region (values_at F) (variables F) u ≡ values_of F s cands k
  stands_values =
      let long = length_region (values_at F) (variables F) u (omega (arith, W.space)) in
      ext_get_or 0 (region (values_at F) (variables F) u) (values_of F s cands k) (long ∙ sym (values_long F s cands k))
      (λ j h. region_at (values_at F) (variables F) u j 0 (omega (arith, h, long)) ∙ W.values j (omega (arith, h, long)))

  module _ {i : ℕ} (here : i ≡ get_or u (candidates_at F + k) 0) (more : k < length cands) where
    is_candidate : i ≡ get_or cands k 0
    is_candidate = here ∙ W.listed k more

    pub candidate_free : get_or s i 0 ≡ 2
    candidate_free = rw is_candidate (W.free k more)

    module _ {end r : ℕ} {u' : List ℕ} (A : Adds F s i u end u' r) (stand : P u') where
      pub stands_more : Stands F s P cands (k + 1) u'
      stands_more = rw (add-one k) record {
        stand = stand;
        few = W.few;
        space = omega (arith, W.space, A.long);
        values = λ j h.
            A.values j h
            ∙ ap (wins (finding F s i j)) (W.values j h)
            ∙ ap (λ (z : ℕ). wins (finding F s z j) (get_or (values_of F s cands k) j 0)) is_candidate
            ∙ sym (value_next F s cands k j h);
        listed = λ h l. A.between h (omega (arith, W.within)) ∙ W.listed h l;
        within = W.within;
        free = W.free;
      }

      pub gathers_more : {list₀ list : List ℕ} {held : ℕ} → Gathering (records_of F s cands k) (gather_at F) end held list₀ list u
          → Gathering (records_of F s cands (k + 1)) (gather_at F) r held list₀ list u'
      unfolding records_found_by
      gathers_more G = rw (add-one k, ← is_candidate) (A.gathers G)

module _ {F : Field} {s : List ℕ} {P : List ℕ → Type 0} {cands : List ℕ} {k : ℕ} {list₀ list : List ℕ} {held : ℕ} {u : List ℕ} {end : ℕ}
    (stays : Stays F P) (W : Walks F s P cands k list₀ list held u end) where
  pub walks_more : {i : ℕ} → i ≡ get_or u (candidates_at F + k) 0 → k < length cands → {u' : List ℕ} {r : ℕ} → Adds F s i u end u' r → P u'
      → Walks F s P cands (k + 1) list₀ list held u' r
  walks_more here more A stand = record { stands = stands_more W.stands here more A stand; gathers = gathers_more W.stands here more A stand W.gathers }

  -- ---- a flush

  walks_front : {list' u' : List ℕ} {held' end' : ℕ} → take (gather_at F) u' ≡ take (gather_at F) u → length u' ≡ length u
      → Gathering (records_of F s cands k) (gather_at F) end' held' list₀ list' u' → Walks F s P cands k list₀ list' held' u' end'
  walks_front {u' = u'} front long G =
      let S = W.stands in record {
        stands = record {
          stand = stays u u' front long S.stand;
          few = S.few;
          space = omega (arith, S.space, long);
          values = λ j h. front_get_d (gather_at F) u' u front (values_at F + j) (omega arith) ∙ S.values j h;
          listed = λ h l. front_get_d (gather_at F) u' u front (candidates_at F + h) (omega (arith, S.within)) ∙ S.listed h l;
          within = S.within;
          free = S.free;
        };
        gathers = G;
      }

  found_proper : AllProper (records_of F s cands k)
  found_proper x m = let G = W.gathers in proper_both (words_proper G.keys) (λ y h. (G.holding.small y h).proper) x (G.all.to x m)

  -- no room for what was found so far is no room for all
  all_full : k ≤ length cands → room list₀ < length (merged_list (records_of F s cands k)) → room list₀ < length (merged_list (records_of F s cands (length cands)))
  all_full h l =
      let e : k + (length cands - k) ≡ length cands = omega arith in
      rw e at (stays_full (room list₀) (records_of F s cands k) (records_of F s cands (k + (length cands - k))) found_proper l (λ x m. found_more F s cands k (length cands - k) x m))

  module _ {x : Left} (e : x ≡ flushed list held u (gather_at F) end) where
    flushed_words : x.words ≡ distinct_at (gather_at F) end u
    flushed_words = words_left W.gathers.holding W.gathers.keys (rw W.gathers.count at e)

    pub walks_flush : {m : ℕ} → x.answer ≡ Some m → Walks F s P cands k list₀ x.list m x.words (gather_at F)
    walks_flush a =
        let K = W.gathers.keys in
        walks_front (ap (take (gather_at F)) flushed_words ∙ distinct_front (gather_at F) end u (omega (arith, K.order, K.room)))
        (ap length flushed_words ∙ distinct_long (gather_at F) end u K) (gathering_flush W.gathers e a)

    pub walks_full : k ≤ length cands → x.answer ≡ None → room list₀ < length (merged_list (records_of F s cands (length cands)))
    walks_full h a = all_full h (gathering_full W.gathers e a)

  -- ---- room for one candidate

  module _ {x : Left} (e : x ≡ roomed list held u (gather_at F) end (variables F)) where
    roomed_by : (b : Bool) → leb (variables F) (length u - end) ≡ b → x ≡ cond b (left (Some held) list u) (flushed list held u (gather_at F) end)
    unfolding roomed
    roomed_by b q = rw q at e

    pub roomed_walks : {m : ℕ} → x.answer ≡ Some m → Walks F s P cands k list₀ x.list m x.words (end_after (length u) (gather_at F) end (variables F))
    unfolding end_after
    roomed_walks {m} a = go (leb (variables F) (length u - end)) refl
      where
        go : (b : Bool) → leb (variables F) (length u - end) ≡ b → Walks F s P cands k list₀ x.list m x.words (cond b end (gather_at F))
        go true q =
            let p : Some held ≡ Some m = sym (ap (λ (y : Left). y.answer) (roomed_by true q)) ∙ a in
            let z : held ≡ m = cc in
            rw (sym z, roomed_by true q) W
        go false q = walks_flush (roomed_by false q) a

    pub roomed_enough : {m : ℕ} → x.answer ≡ Some m → end_after (length u) (gather_at F) end (variables F) + variables F ≤ length x.words
    unfolding end_after
    roomed_enough {m} a = go (leb (variables F) (length u - end)) refl
      where
        go : (b : Bool) → leb (variables F) (length u - end) ≡ b → cond b end (gather_at F) + variables F ≤ length x.words
        go true q = rw (roomed_by true q) (omega (arith, leb-true (variables F) (length u - end) q, W.gathers.keys.room))
        go false q = (walks_flush (roomed_by false q) a).stands.space

    pub roomed_full : k ≤ length cands → x.answer ≡ None → room list₀ < length (merged_list (records_of F s cands (length cands)))
    roomed_full h a = go (leb (variables F) (length u - end)) refl
      where
        held_full : Some held ≡ None → room list₀ < length (merged_list (records_of F s cands (length cands)))
        held_full z = let y : ◌≡◌ {A = ℕ} 0 1 = cc in absurd (omega arith)

        go : (b : Bool) → leb (variables F) (length u - end) ≡ b → room list₀ < length (merged_list (records_of F s cands (length cands)))
        go true q = held_full (sym (ap (λ (z : Left). z.answer) (roomed_by true q)) ∙ a)
        go false q = walks_full (roomed_by false q) h a

-- ---- the end

module _ {F : Field} {s : List ℕ} {P : List ℕ → Type 0} {cands list₀ list : List ℕ} {held : ℕ} {u : List ℕ} {end : ℕ}
    (stays : Stays F P) (W : Walks F s P cands (length cands) list₀ list held u end) {x : Left} (e : x ≡ flushed list held u (gather_at F) end) where
  pub walks_done : Walked F s cands list₀ x.answer x.list x.words
  walks_done = go x.answer refl
    where
      go : (a : Option ℕ) → x.answer ≡ a → Walked F s cands list₀ a x.list x.words
      go (Some m) q =
          let Z = walks_flush stays W e q in
          let H = gathering_done Z.gathers in
          rw (gathering_count Z.gathers) (holds H.fits H.is (stands_values Z.stands))
      go None q = full (walks_full stays W e (le_refl (length cands)) q)
