-- The front of an answer list, a part of the words, and both together. Assumes nothing.
use Prim.Native.Nat.{ℕ, zero, suc, ◌+◌, ◌*◌, ◌<◌, ◌≤◌}
use mathlib.Core.Path.{◌≡◌, refl, sym, ap, ◌∙◌}
use mathlib.Core.List.Memᴰ
use mathlib.Core.List.{List, [], ◌∷◌, ◌++◌, map, append_assoc}
use native.Mathlib.Omega.{arith}
use native.Mathlib.Numerals.{add-one}
use lib.ListN.{length, take, drop, take-append-drop}
use lib.Seq.{slice, slice_empty, length-take-le, take-suc, take-take, take_at, drop_at, take-set-le, sets-eq}
use Rattle.meaning.specs.Records.{Record, record_on}
use Rattle.meaning.specs.Rising.{merged_list}
use Rattle.meaning.proofs.Bans.{bans_right}
use Rattle.meaning.proofs.Rising.{merged_bans, merged_rising, rising_merged, rising_front, rising_part, holder}
use Rattle.constraints.specs.Record.{flat, room, record_at, records, filled, stored}
use Rattle.constraints.specs.Keys.{unkey}
use Rattle.constraints.proofs.Records.{length_records, record_at_lem, records_stored, records_filled}
use Rattle.sorting.proofs.Joining.{unkeys_split}
use Rattle.found.specs.Joint.{front, Held, Climbed, joint}

-- ---- the front of the list

pub front_length : (n : ℕ) (list : List ℕ) → n ≤ room list → length (front n list) ≡ n
unfolding front
front_length n list h = length-take-le n (records list) (omega (arith, length_records list))

pub front_snoc : (i : ℕ) (list : List ℕ) → i < room list → front (suc i) list ≡ front i list ++ record_at list i ∷ []
unfolding front
front_snoc i list h =
    take-suc (records list) i (record_on 0 0 0) (omega (arith, length_records list))
    ∙ ap (λ (x : Record). take i (records list) ++ x ∷ []) (record_at_lem list i (record_on 0 0 0) h)

front_front : (i n : ℕ) (list : List ℕ) → i ≤ n → take i (front n list) ≡ front i list
unfolding front
front_front i n list h = take-take i n (records list) h

-- lists with one front have one shorter front
pub front_fewer : (i n : ℕ) (l m : List ℕ) → i ≤ n → front n l ≡ front n m → front i l ≡ front i m
front_fewer i n l m h e = sym (front_front i n l h) ∙ ap (take i) e ∙ front_front i n m h

-- a store behind the front leaves it
pub front_stored : (i t : ℕ) (list : List ℕ) (x : Record) → i ≤ t → front i (stored list t x) ≡ front i list
unfolding front
front_stored i t list x h = ap (take i) (records_stored list t x) ∙ take-set-le i (records list) t x h

pub front_filled : (items : List Record) (list : List ℕ) → front (length items) (filled items list) ≡ items
unfolding front
front_filled items list =
    ap (take (length items)) (records_filled items list) ∙ take_at items (records (drop (3 * length items) list)) (length items) refl

three : (i : ℕ) → 3 * suc i ≡ suc (suc (suc (3 * i)))
three i = omega arith

-- the front as it stands in the list
pub flat_front : (i : ℕ) (list : List ℕ) → 3 * i ≤ length list → take (3 * i) list ≡ flat (front i list)
unfolding front flat records
flat_front zero list h = refl
flat_front (suc i) [] h = absurd (omega arith)
flat_front (suc i) (a ∷ []) h = absurd (omega arith)
flat_front (suc i) (a ∷ b ∷ []) h = absurd (omega arith)
flat_front (suc i) (a ∷ b ∷ c ∷ list) h = rw (three i) (ap (λ (l : List ℕ). a ∷ b ∷ c ∷ l) (flat_front i list (omega arith)))

-- a store puts the record_on in front of what stands behind its place
pub drop_stored : (t : ℕ) (list : List ℕ) (x : Record) → 3 * t + 2 < length list
    → drop (3 * t) (stored list t x) ≡ x.lower ∷ x.higher ∷ x.set ∷ drop (3 * (t + 1)) list
unfolding stored
drop_stored t list x h =
    let k = 3 * t in
    let part = x.lower ∷ x.higher ∷ x.set ∷ [] in
    let two : k + 2 ≡ suc (suc k) = omega arith in
    let next : 3 * (t + 1) ≡ k + 3 = omega arith in
    rw (two, add-one k, next, sets-eq part list k (omega arith), append_assoc (take k list) part (drop (k + 3) list))
    (drop_at (take k list) (part ++ drop (k + 3) list) k (length-take-le k list (omega arith)))

-- ---- fewer of the items, fewer of the words

pub held_fewer : (i n : ℕ) (list : List ℕ) → i ≤ n → Held n list → Held i list
held_fewer i n list h H =
    let e : front i list ++ drop i (front n list) ≡ front n list = rw (front_front i n list h) at (take-append-drop i (front n list)) in record {
      fits = omega (arith, H.fits);
      rising = rising_front (front i list) (drop i (front n list)) (rw e H.rising);
      small = λ x m. H.small x (rw e at (Memᴰ.append_left (drop i (front n list)) m));
    }

pub held_same : (n : ℕ) (l m : List ℕ) → front n l ≡ front n m → length l ≡ length m → Held n l → Held n m
held_same n l m e q H = record {
  fits = rw q at H.fits;
  rising = rw e at H.rising;
  small = λ x k. H.small x (rw e k);
}

pub climbed_fewer : (lo j hi : ℕ) (u : List ℕ) → lo ≤ j → j ≤ hi → Climbed lo hi u → Climbed lo j u
climbed_fewer lo j hi u h g C = record {
  keys = record { order = h; room = omega (arith, C.keys.room); each = λ t a b. C.keys.each t a (omega arith) };
  rising = rising_front (map unkey (slice lo j u)) (map unkey (slice j hi u)) (rw (unkeys_split lo j hi u h g C.keys.room) at C.rising);
}

-- ---- both together

-- lists with one front have one joint list
pub joint_as : (i lo j : ℕ) (l m u : List ℕ) → front i l ≡ front i m → joint i lo j l u ≡ joint i lo j m u
unfolding joint
joint_as i lo j l m u e = ap (λ (f : List Record). merged_list (map unkey (slice lo j u) ++ f)) e

-- it is no shorter than the front
pub joint_long : (i lo j : ℕ) (list u : List ℕ) → Held i list → i ≤ length (joint i lo j list u)
unfolding joint
joint_long i lo j list u H =
    let w = map unkey (slice lo j u) in
    let l = w ++ front i list in
    omega (
      arith,
      front_length i list H.fits,
      rising_part (front i list) (merged_list l) H.rising (merged_rising l) (λ x m.
          let k = holder (λ z q. (H.small z q).proper) (merged_rising l) (λ a b p f. (merged_bans l).from a b p (bans_right w f)) m in
          (k.by, (k.among, k.on))),
    )

-- with no words left it is the front
pub joint_none : (i lo : ℕ) (list u : List ℕ) → Held i list → joint i lo lo list u ≡ front i list
unfolding joint
joint_none i lo list u H = rw (slice_empty lo u) (rising_merged (front i list) H.rising)
