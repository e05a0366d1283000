-- The four ways in which the last of the items and the words is taken. Assumes nothing.
use Prim.Native.Nat.{ℕ, suc, ◌-◌, ◌/◌, ◌<◌}
use mathlib.Core.Path.{◌≡◌, refl, sym, ap, ◌∙◌, subst}
use mathlib.Core.Logic.{⊎_elim}
use mathlib.Core.List.Memᴰ
use mathlib.Core.List.{List, [], ◌∷◌, ◌++◌, map, append_assoc, Memᴰ}
use native.Mathlib.Omega.{arith}
use lib.Bits.{bit_or}
use lib.ListN.{get_or}
use lib.Seq.{slice}
use Rattle.meaning.specs.Records.{Record, AllProper, SameBans}
use Rattle.meaning.specs.Rising.{Before, Rising}
use Rattle.meaning.proofs.Bans.{same_refl, same_trans, same_both}
use Rattle.meaning.proofs.Pairs.{pair_refl, before_as}
use Rattle.meaning.proofs.Rising.{rising_last}
use Rattle.constraints.specs.Record.{record_at}
use Rattle.constraints.specs.Keys.{key_of, unkey, Small, Key}
use Rattle.constraints.proofs.Numbers.{key_is, unkey_before, unkey_small, unkey_of_key, or_pair, or_key}
use Rattle.sorting.proofs.Joining.{unkeys_snoc, words_proper, union_bans}
use Rattle.found.specs.Joint.{front, Held, Climbed, joint, Taking}
use Rattle.found.proofs.Tops.{all_before, proper_both, merged_top, moved}
use Rattle.found.proofs.Fronts.{front_snoc, held_fewer, climbed_fewer}

-- ---- the last item and its number

module _ (i : ℕ) (list : List ℕ) (H : Held i list) (g : 0 < i) where
  item_split : front i list ≡ front (i - 1) list ++ record_at list (i - 1) ∷ []
  item_split = let e : suc (i - 1) ≡ i = omega arith in rw e at (front_snoc (i - 1) list (omega (arith, H.fits)))

  pub item_small : Small (record_at list (i - 1))
  item_small = H.small (record_at list (i - 1)) (rw item_split (Memᴰ.append_right (front (i - 1) list) (Memᴰ.head refl)))

module _ {i lo j : ℕ} {list u : List ℕ} (H : Held i list) (C : Climbed lo j u) (h : lo < j) where
  -- the words without the last, and the last
  words : List Record
  words = map unkey (slice lo (j - 1) u)

  y : ℕ
  y = get_or u (j - 1) 0

  words_split : map unkey (slice lo j u) ≡ words ++ unkey y ∷ []
  unfolding words y
  words_split = let e : suc (j - 1) ≡ j = omega arith in rw e at (unkeys_snoc lo (j - 1) u (omega arith) (omega (arith, C.keys.room)))

  words_rise : Rising (words ++ unkey y ∷ [])
  words_rise = rw words_split at C.rising

  last_key : Key y
  unfolding y
  last_key = C.keys.each (j - 1) (omega arith) (omega arith)

  fewer : Climbed lo (j - 1) u
  fewer = climbed_fewer lo (j - 1) j u (omega arith) (omega arith) C

  items_proper : (n : ℕ) → Held n list → AllProper (front n list)
  items_proper n K z m = (K.small z m).proper

  all_proper : AllProper (map unkey (slice lo j u) ++ front i list)
  all_proper = proper_both (words_proper C.keys) (items_proper i H)

  -- every item stands before the last word
  last_word : ((z : Record) → Memᴰ z (front i list) → Before z (unkey y)) → Taking i lo j list u y i (j - 1)
  unfolding joint words
  last_word f = record {
    fewer = omega arith;
    low = omega arith;
    high = omega arith;
    less = omega arith;
    small = last_key.below;
    is = merged_top (map unkey (slice lo j u) ++ front i list) (words ++ front i list) (unkey y) all_proper (proper_both (words_proper fewer.keys) (items_proper i H))
        (unkey_small y last_key).proper
        (λ z m. ⊎_elim (rising_last words (unkey y) words_rise z) (f z) (Memᴰ.append_cases words m))
        (rw words_split (moved words (front i list) (unkey y)));
  }

  -- there is no item
  pub last_alone : i ≡ 0 → Taking i lo j list u (get_or u (j - 1) 0) i (j - 1)
  unfolding front y
  last_alone e = last_word (λ z m. absurd (Memᴰ.not-nil (rw e at m)))

  module _ (g : 0 < i) {x : ℕ} (e : x ≡ key_of (record_at list (i - 1))) where
    -- the items without the last
    items : List Record
    items = front (i - 1) list

    item_is : front i list ≡ items ++ unkey x ∷ []
    unfolding items
    item_is =
        let q : unkey x ≡ record_at list (i - 1) = ap unkey e ∙ unkey_of_key (item_small i list H g) in
        item_split i list H g ∙ ap (λ (z : Record). front (i - 1) list ++ z ∷ []) (sym q)

    items_rise : Rising (items ++ unkey x ∷ [])
    items_rise = rw item_is at H.rising

    item_key : Key x
    item_key = rw e (key_is (item_small i list H g))

    fewer_held : Held (i - 1) list
    fewer_held = held_fewer (i - 1) i list (omega arith) H

    -- the pair of the last item is below that of the last word
    pub last_above : x / 16 < get_or u (j - 1) 0 / 16 → Taking i lo j list u (get_or u (j - 1) 0) i (j - 1)
    unfolding y
    last_above l = last_word (λ z m. all_before items (unkey x) (unkey y) items_rise (unkey_before x y l) z (rw item_is at m))

    -- both are of one pair
    pub last_both : x / 16 ≡ get_or u (j - 1) 0 / 16 → Taking i lo j list u (bit_or x (get_or u (j - 1) 0)) (i - 1) (j - 1)
    unfolding joint words y items
    last_both q =
        let k = bit_or x y in record {
          fewer = omega arith;
          low = omega arith;
          high = omega arith;
          less = omega arith;
          small = (or_key x y q item_key last_key).below;
          is = merged_top (map unkey (slice lo j u) ++ front i list) (words ++ items) (unkey k) all_proper
              (proper_both (words_proper fewer.keys) (items_proper (i - 1) fewer_held))
              (unkey_small k (or_key x y q item_key last_key)).proper
              (λ z m. ⊎_elim
              (λ r. before_as (pair_refl z) (record { lower = rw (or_pair x y q, q); higher = rw (or_pair x y q, q) }) (rising_last words (unkey y) words_rise z r))
              (λ r. before_as (pair_refl z) (record { lower = rw (or_pair x y q); higher = rw (or_pair x y q) }) (rising_last items (unkey x) items_rise z r))
              (Memᴰ.append_cases words m))
              (rw (words_split, item_is) (both_bans q));
        }
      where
        both_bans : x / 16 ≡ get_or u (j - 1) 0 / 16 → SameBans ((words ++ items) ++ unkey (bit_or x y) ∷ []) ((words ++ unkey y ∷ []) ++ (items ++ unkey x ∷ []))
        both_bans q =
            let split : (words ++ items) ++ (unkey x ∷ unkey y ∷ []) ≡ (words ++ (items ++ unkey x ∷ [])) ++ unkey y ∷ [] =
            sym (append_assoc (words ++ items) (unkey x ∷ []) (unkey y ∷ [])) ∙ ap (λ (l : List Record). l ++ unkey y ∷ []) (append_assoc words items (unkey x ∷ [])) in
            same_trans (same_both (same_refl (words ++ items)) (union_bans x y q))
            (subst (λ (l : List Record). SameBans l ((words ++ unkey y ∷ []) ++ (items ++ unkey x ∷ []))) (sym split) (moved words (items ++ unkey x ∷ []) (unkey y)))

    -- the pair of the last word is below that of the last item
    pub last_item : get_or u (j - 1) 0 / 16 < x / 16 → Taking i lo j list u x (i - 1) j
    unfolding joint y items
    last_item l = record {
      fewer = omega arith;
      low = omega arith;
      high = omega arith;
      less = omega arith;
      small = item_key.below;
      is = merged_top (map unkey (slice lo j u) ++ front i list) (map unkey (slice lo j u) ++ items) (unkey x) all_proper
          (proper_both (words_proper C.keys) (items_proper (i - 1) fewer_held))
          (unkey_small x item_key).proper
          (λ z m. ⊎_elim
          (λ r. all_before words (unkey y) (unkey x) words_rise (unkey_before y x l) z (rw words_split at r))
          (rising_last items (unkey x) items_rise z)
          (Memᴰ.append_cases (map unkey (slice lo j u)) m))
          (rw (item_is, append_assoc (map unkey (slice lo j u)) items (unkey x ∷ [])) (same_refl (map unkey (slice lo j u) ++ (items ++ unkey x ∷ []))));
    }
