-- What a merge answers, and what a flush leaves is the promised state. Assumes nothing.
use Prim.Native.Nat.{ℕ, ◌+◌, ◌-◌, ◌<◌, ◌≤◌}
use mathlib.Core.Path.{◌≡◌, refl, ap, ◌∙◌}
use mathlib.Core.Bool.{Bool, true, false}
use mathlib.Core.List.{List, map, ◌++◌}
use native.Mathlib.Omega.{arith}
use borrow.Rule.Slice.PartMut.{mid_of}
use borrow.Author.Tests.{le-leb, lt-leb, leb-true, leb-false}
use lib.Dec.{leb}
use lib.ListN.{length}
use lib.Seq.{slice}
use Rattle.meaning.specs.Records.{Record, AllProper}
use Rattle.meaning.specs.Rising.{merged_list}
use Rattle.meaning.proofs.Bans.{same_refl, same_both}
use Rattle.meaning.proofs.Rising.{merged_bans, merged_proper, merged_rising, merged_same}
use Rattle.constraints.specs.Record.{room, filled}
use Rattle.constraints.specs.Keys.{unkey}
use Rattle.sorting.specs.Numbers.{Keys, distinct, distinct_at}
use Rattle.sorting.proofs.Numbers.{unkeys_distinct, distinct_slice, distinct_keys, part_keys, part_whole}
use Rattle.sorting.proofs.Joining.{words_proper}
use Rattle.std.specs.Prelude.{Option, Some, None}
use Rattle.found.specs.Joint.{front, Held, Climbed, joint}
use Rattle.found.proofs.Tops.{proper_both}
use Rattle.found.specs.Flush.{Left, left, settled_if, settled, flushed}

-- ---- the two answers

module _ (items : List Record) (list u : List ℕ) {n : ℕ} (e : n ≡ length items) where
  pub settled_full : room list < n → left None list u ≡ settled items list u
  unfolding settled settled_if
  settled_full h = rw (lt-leb (length items) (room list) (omega arith))

  pub settled_holds : n ≤ room list → {list' : List ℕ} → list' ≡ filled items list → left (Some n) list' u ≡ settled items list u
  unfolding settled settled_if
  settled_holds h q = rw (le-leb (length items) (room list) (omega arith), e, q)

-- what is answered and laid is so beside any words
pub with_words : (items : List Record) (list : List ℕ) {list' u : List ℕ} {answer : Option ℕ} → left answer list' u ≡ settled items list u → (w : List ℕ) → left answer list' w ≡ settled items list w
unfolding settled settled_if
with_words items list {list'} {u} {answer} h w = go (leb (length items) (room list)) h
  where
    go : (b : Bool) → left answer list' u ≡ settled_if b items list u → left answer list' w ≡ settled_if b items list w
    go true e = ap (λ (x : Left). left x.answer x.list w) e
    go false e = ap (λ (x : Left). left x.answer x.list w) e

-- ---- read back

module _ (items : List Record) (list u : List ℕ) where
  -- what holds of a list that took the items in
  pub record Took (n : ℕ) (x : Left) : Type 0 where
    pub fits : length items ≤ room list
    pub count : n ≡ length items
    pub laid : x.list ≡ filled items list

  took : {n : ℕ} (b : Bool) → leb (length items) (room list) ≡ b → (settled_if b items list u).answer ≡ Some n → Took n (settled_if b items list u)
  unfolding settled_if
  took {n} true t e = let z : n ≡ length items = cc in record { fits = leb-true (length items) (room list) t; count = z; laid = refl }
  took false t e = let z : ◌≡◌ {A = ℕ} 0 1 = cc in absurd (omega arith)

  pub holds_took : {n : ℕ} → (settled items list u).answer ≡ Some n → Took n (settled items list u)
  unfolding settled
  holds_took e = took (leb (length items) (room list)) refl e

  -- what holds of a list that has no room
  pub record Refused (x : Left) : Type 0 where
    pub more : room list < length items
    pub kept : x.list ≡ list

  refused : (b : Bool) → leb (length items) (room list) ≡ b → (settled_if b items list u).answer ≡ None → Refused (settled_if b items list u)
  unfolding settled_if
  refused true t e = let z : ◌≡◌ {A = ℕ} 0 1 = cc in absurd (omega arith)
  refused false t e = record { more = leb-false (length items) (room list) t; kept = refl }

  pub full_refused : (settled items list u).answer ≡ None → Refused (settled items list u)
  unfolding settled
  full_refused e = refused (leb (length items) (room list)) refl e

  pub settled_words : (settled items list u).words ≡ u
  unfolding settled settled_if
  settled_words = words (leb (length items) (room list))
    where
      words : (b : Bool) → (settled_if b items list u).words ≡ u
      words true = refl
      words false = refl

-- ---- the flush

module _ {lo hi r : ℕ} {u u' : List ℕ} (K : Keys lo hi u) (e : r ≡ lo + length (distinct (slice lo hi u))) (f : u' ≡ distinct_at lo hi u) where
  flush_words : map unkey (slice lo r u') ≡ merged_list (map unkey (slice lo hi u))
  flush_words = rw (e, f, distinct_slice lo hi u (omega (arith, K.order, K.room))) (unkeys_distinct K)

  flush_keys : Keys lo r u'
  flush_keys = rw (e, f) (distinct_keys lo hi u K)

  pub flush_room : r ≤ length u'
  flush_room = flush_keys.room

  -- the words that are left are in order
  pub flush_climbed : Climbed 0 (length (mid_of lo (r - lo) u')) (mid_of lo (r - lo) u')
  flush_climbed = record { keys = part_keys flush_keys; rising = rw (part_whole flush_keys, flush_words) (merged_rising (map unkey (slice lo hi u))) }

  module _ (held : ℕ) (list : List ℕ) (H : Held held list) where
    flush_joint : joint held 0 (length (mid_of lo (r - lo) u')) list (mid_of lo (r - lo) u') ≡ joint held lo hi list u
    unfolding joint
    flush_joint =
        let k = map unkey (slice lo hi u) in
        let a = front held list in
        let items : AllProper a = λ z m. (H.small z m).proper in
        ap (λ (l : List Record). merged_list (l ++ a)) (ap (map unkey) (part_whole flush_keys) ∙ flush_words)
        ∙ merged_same (merged_list k ++ a) (k ++ a) (proper_both (merged_proper k (words_proper K)) items) (proper_both (words_proper K) items) (same_both (merged_bans k) (same_refl a))

    pub flush_is : {answer : Option ℕ} {list' : List ℕ}
        → (let p = mid_of lo (r - lo) u' in left answer list' p ≡ settled (joint held 0 (length p) list p) list p)
        → left answer list' u' ≡ flushed list held u lo hi
    unfolding flushed
    flush_is h =
        with_words _ list h u'
        ∙ ap (λ (j : List Record). settled j list u') flush_joint
        ∙ ap (λ (w : List ℕ). settled (joint held lo hi list u) list w) f
