-- One more word gathered, a flush, and the end: what is found stands in the answer list or among the words. Assumes nothing.
use Prim.Native.Nat.{ℕ, ◌+◌, ◌<◌, ◌≤◌}
use mathlib.Core.Path.{◌≡◌, refl, ap, ◌∙◌}
use mathlib.Core.Logic.{⊎_elim}
use mathlib.Core.List.Memᴰ
use mathlib.Core.List.{List, [], ◌∷◌, ◌++◌, map}
use native.Mathlib.Decide.{ℕ_discrete}
use native.Mathlib.Numerals.{add-one}
use native.Mathlib.Omega.{arith}
use lib.ListN.{length, get_or, set, length-set}
use lib.Seq.{slice, slice_empty, take-set-le, get_or-set_same, get_or-set_other}
use Rattle.meaning.specs.Records.{Record}
use Rattle.meaning.specs.Rising.{merged_list}
use Rattle.constraints.specs.Record.{room}
use Rattle.constraints.specs.Keys.{key_of, unkey, Small}
use Rattle.constraints.proofs.Numbers.{key_is, unkey_of_key}
use Rattle.sorting.specs.Numbers.{Keys}
use Rattle.sorting.proofs.Numbers.{distinct_long}
use Rattle.sorting.proofs.Joining.{unkeys_snoc, words_proper}
use Rattle.std.specs.Prelude.{Some, None}
use Rattle.found.specs.Joint.{Held}
use Rattle.found.specs.Flush.{Left, flushed}
use Rattle.found.specs.Holding.{SameSet, Holding, Gathering}
use Rattle.found.proofs.Tops.{proper_both}
use Rattle.found.proofs.Holding.{holding_start, merged_only, holding_as, stays_full, holding_held, holds_count, holding_flush, full_exactly, words_left}

same_sym : {l m : List Record} → SameSet l m → SameSet m l
same_sym h = record { to = h.from; from = h.to }

same_trans : {k l m : List Record} → SameSet k l → SameSet l m → SameSet k m
same_trans g h = record { to = λ y p. h.to y (g.to y p); from = λ y p. g.from y (h.from y p) }

-- with no words among them, all that was found is what was flushed
no_words : (lo : ℕ) (u : List ℕ) (S : List Record) → map unkey (slice lo lo u) ++ S ≡ S
no_words lo u S = rw (slice_empty lo u)

no_keys : (lo : ℕ) (u : List ℕ) → lo ≤ length u → Keys lo lo u
no_keys lo u h = record { order = omega arith; room = h; each = λ t a b. absurd (omega arith) }

-- Nothing is found at first.
pub gathering_start : (lo : ℕ) (list u : List ℕ) → lo ≤ length u → Gathering [] lo lo 0 list list u
unfolding merged_list
gathering_start lo list u h = record {
  flushed = [];
  holding = holding_start list;
  count = refl;
  keys = no_keys lo u h;
  all = rw (no_words lo u []) (record { to = λ y m. m; from = λ y m. m });
}

-- ---- one more word

module _ (lo hi : ℕ) (u : List ℕ) (x : Record) (K : Keys lo hi u) (h : hi < length u) (s : Small x) where
  more_words : map unkey (slice lo (hi + 1) (set u hi (key_of x))) ≡ map unkey (slice lo hi u) ++ x ∷ []
  more_words =
      let k = key_of x in
      let same : slice lo hi (set u hi k) ≡ slice lo hi u = rw (take-set-le hi u hi k (omega arith)) in
      let last : unkey (get_or (set u hi k) hi 0) ≡ x = ap unkey (get_or-set_same u hi k 0 h) ∙ unkey_of_key s in
      rw (add-one hi) (unkeys_snoc lo hi (set u hi k) K.order (simp length-set h) ∙ rw (same, last))

  more_keys : Keys lo (hi + 1) (set u hi (key_of x))
  more_keys = record {
    order = omega (arith, K.order);
    room = simp length-set (omega arith);
    each = λ t a b. elim (ℕ_discrete t hi) [
      | yes e ↦ rw (e, get_or-set_same u hi (key_of x) 0 h) (key_is s)
      | no e ↦ rw (get_or-set_other u hi t (key_of x) 0 e) (K.each t a (omega arith))
    ];
  }

one_more : (F W S : List Record) (x : Record) → SameSet F (W ++ S) → SameSet (x ∷ F) (W ++ x ∷ [] ++ S)
one_more F W S x e = record {
  to = λ y m. ⊎_elim
      (λ q. Memᴰ.append_left S (Memᴰ.append_right W (Memᴰ.head q)))
      (λ q. ⊎_elim (λ w. Memᴰ.append_left S (Memᴰ.append_left (x ∷ []) w)) (λ w. Memᴰ.append_right (W ++ x ∷ []) w) (Memᴰ.append_cases W (e.to y q)))
      (Memᴰ.cases_cons m);
  from = λ y m. ⊎_elim
      (λ q. ⊎_elim
      (λ w. Memᴰ.tail (e.from y (Memᴰ.append_left S w)))
      (λ w. Memᴰ.head (Memᴰ.eq_of_singleton w))
      (Memᴰ.append_cases W q))
      (λ q. Memᴰ.tail (e.from y (Memᴰ.append_right W q)))
      (Memᴰ.append_cases (W ++ x ∷ []) m);
}

module _ {F : List Record} {lo hi held : ℕ} {list₀ list u : List ℕ} (G : Gathering F lo hi held list₀ list u) where
  -- In what order records were found, and how often, does not matter.
  pub gathering_as : {T : List Record} → SameSet F T → Gathering T lo hi held list₀ list u
  gathering_as e = record { flushed = G.flushed; holding = G.holding; count = G.count; keys = G.keys; all = same_trans (same_sym e) G.all }

  -- The number of a record, put behind the words, is one more that was found.
  pub gathering_put : (x : Record) → Small x → hi < length u → {u' : List ℕ} → u' ≡ set u hi (key_of x) → Gathering (x ∷ F) lo (hi + 1) held list₀ list u'
  gathering_put x s h e = rw e (record {
    flushed = G.flushed;
    holding = G.holding;
    count = G.count;
    keys = more_keys lo hi u x G.keys h s;
    all = rw (more_words lo hi u x G.keys h s) (one_more F (map unkey (slice lo hi u)) G.flushed x G.all);
  })

  -- The list is what a flush asks for.
  pub gathering_held : Held held list
  gathering_held = rw G.count (holding_held G.holding)

  module _ {x : Left} (e : x ≡ flushed list held u lo hi) where
    counted : x ≡ flushed list (length (merged_list G.flushed)) u lo hi
    counted = rw G.count at e

    -- A flush that answers n leaves n records in the list and no word.
    pub gathering_flush : {n : ℕ} → x.answer ≡ Some n → Gathering F lo lo n list₀ x.list x.words
    gathering_flush a =
        let W = map unkey (slice lo hi u) in
        let w = words_left G.holding G.keys counted in record {
          flushed = W ++ G.flushed;
          holding = holding_flush G.holding G.keys counted a;
          count = holds_count G.holding G.keys counted a;
          keys = no_keys lo x.words (omega (arith, ap length w, distinct_long lo hi u G.keys, G.keys.order, G.keys.room));
          all = rw (no_words lo x.words (W ++ G.flushed)) G.all;
        }

    -- A flush that finds no room: what was found so far has none, and so (`stays-full`) has all that is found in the end.
    pub gathering_full : x.answer ≡ None → room list₀ < length (merged_list F)
    gathering_full a =
        stays_full (room list₀) (map unkey (slice lo hi u) ++ G.flushed) F (proper_both (words_proper G.keys) (λ x m. (G.holding.small x m).proper)) ((full_exactly G.holding G.keys counted).0 a) G.all.from

-- In the end, after a flush, the list holds all that was found, merged, and its count is the answer's.
module _ {F : List Record} {lo held : ℕ} {list₀ list u : List ℕ} (G : Gathering F lo lo held list₀ list u) where
  flushed_all : SameSet G.flushed F
  flushed_all = same_sym (rw (no_words lo u G.flushed) at G.all)

  pub gathering_done : Holding F list₀ list
  gathering_done = holding_as flushed_all G.holding

  pub gathering_count : held ≡ length (merged_list F)
  gathering_count = G.count ∙ ap length (merged_only (λ x m. (G.holding.small x m).proper) flushed_all)
