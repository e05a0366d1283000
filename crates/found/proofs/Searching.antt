-- The search for the place of a number among the records: their pairs climb, so one comparison speaks for all before it or for all behind it. Assumes nothing.
use Prim.Native.Nat.{ℕ, zero, suc, ◌+◌, ◌-◌, ◌*◌, ◌/◌, ◌<◌, ◌≤◌}
use mathlib.Core.Path.{◌≡◌, ap, ◌∙◌}
use mathlib.Core.Bool.{Bool, true, false}
use mathlib.Core.List.{List, [], ◌∷◌}
use native.Mathlib.Decide.{ℕ_discrete, dec_lt}
use native.Mathlib.Nat.{div-add-mod', mod-lt}
use native.Mathlib.Omega.{arith}
use borrow.Author.Tests.{le-leb, leb-true, leb-false}
use lib.Dec.{leb}
use lib.ListN.{length, get_or, take, drop, length-drop}
use lib.Seq.{length-take-le, get_or-take, get_or-drop}
use Rattle.std.specs.Simd.{first_chunks}
use Rattle.std.specs.List.Sorted.{IsPartitionedBy, IsPartitionPoint}
use Rattle.meaning.specs.Records.{Record, record_on}
use Rattle.meaning.specs.Rising.{Before, by_lower, by_higher, Rising}
use Rattle.constraints.specs.Record.{room, record_at, records}
use Rattle.constraints.specs.Keys.{key_of, Small}
use Rattle.constraints.proofs.Records.{has_room, record_at_lem, at_in, chunk_at}
use Rattle.found.specs.Joint.{front, Held, Between}
use Rattle.found.proofs.Fronts.{front_length}

-- ---- the pairs climb

pair_is : {x : Record} → Small x → key_of x / 16 ≡ x.lower * 4096 + x.higher
pair_is {x} s = omega (arith, s.proper.four, div-add-mod' (key_of x) 16, mod-lt (key_of x) {m = 16} (omega arith))

before_pair : {x y : Record} → Small x → Small y → Before x y → key_of x / 16 < key_of y / 16
before_pair s t (by_lower h) = omega (arith, pair_is s, pair_is t, s.higher, h)
before_pair s t (by_higher e h) = omega (arith, pair_is s, pair_is t, e, h)

rising_at : (l : List Record) (d : Record) → Rising l → (i j : ℕ) → i < j → j < length l → Before (get_or l i d) (get_or l j d)
rising_at [] d r i j h k = absurd (omega arith)
rising_at (x ∷ l) d r i zero h k = absurd (omega arith)
rising_at (x ∷ l) d r zero (suc j) h k = r.0 (get_or l j d) (at_in d l j (omega arith))
rising_at (x ∷ l) d r (suc i) (suc j) h k = rising_at l d r.1 i j (omega arith) (omega arith)

module _ {n : ℕ} {list : List ℕ} (H : Held n list) where
  front_at : (t : ℕ) → t < n → get_or (front n list) t (record_on 0 0 0) ≡ record_at list t
  unfolding front
  front_at t h = get_or-take n (records list) t (record_on 0 0 0) h ∙ record_at_lem list t (record_on 0 0 0) (omega (arith, H.fits))

  -- what a record's number asks
  pub small_at : (t : ℕ) → t < n → Small (record_at list t)
  small_at t h = H.small (record_at list t) (rw (front_at t h) at (at_in (record_on 0 0 0) (front n list) t (omega (arith, front_length n list H.fits))))

  pub room_at : (t : ℕ) → t < n → 3 * t + 2 < length list
  room_at t h = (has_room list t).0 (omega (arith, H.fits))

  climbs_at : (i j : ℕ) → i < j → j < n → key_of (record_at list i) / 16 < key_of (record_at list j) / 16
  climbs_at i j h k =
      before_pair (small_at i (omega arith)) (small_at j k)
      (rw (front_at i (omega arith), front_at j k) at (rising_at (front n list) (record_on 0 0 0) H.rising i j h (omega (arith, front_length n list H.fits))))

-- ---- one comparison

module _ {low high items y : ℕ} {list : List ℕ} (B : Between low high items y list) where
  -- the records before high alone
  pub between_first : Between low high high y list
  between_first = record { order = B.order; within = omega arith; below = B.below; above = λ t a b. absurd (omega arith) }

  module _ (H : Held items list) {mid x : ℕ} (e : x ≡ key_of (record_at list mid)) (h : mid < high) where
    -- no record up to mid is above
    pub between_raise : x / 16 ≤ y / 16 → Between (mid + 1) high items y list
    between_raise l =
        let g : key_of (record_at list mid) / 16 ≤ y / 16 = rw e at l in record {
          order = omega arith;
          within = B.within;
          below = λ t k. elim (ℕ_discrete t mid) [
            | yes q ↦ rw q g
            | no q ↦ omega (arith, g, climbs_at H t mid (omega arith) (omega (arith, B.within)))
          ];
          above = B.above;
        }

    -- all records from mid on are above
    pub between_lower : low ≤ mid → y / 16 < x / 16 → Between low mid items y list
    between_lower k l =
        let g : y / 16 < key_of (record_at list mid) / 16 = rw e at l in record {
          order = k;
          within = omega (arith, B.within);
          below = B.below;
          above = λ t a b. elim (ℕ_discrete t mid) [
            | yes q ↦ rw q g
            | no q ↦ omega (arith, g, climbs_at H mid t (omega arith) b)
          ];
        }

-- ---- the records as arrays of three

-- whether the pair of an array is not above that of the number y
abbrev pub not_above : ℕ → List ℕ → Bool
not_above y r = leb (get_or r 0 0 * 4096 + get_or r 1 0) (y / 16)

module _ {low high y : ℕ} {list : List ℕ} (H : Held high list) (B : Between low high high y list)
    {chunks : List (List ℕ)} (is : chunks ≡ first_chunks 3 (room list) list) (long : length chunks ≡ room list) where
  abbrev pub part : List (List ℕ)
  part = take (high - low) (drop low chunks)

  part_long : length part ≡ high - low
  part_long = length-take-le (high - low) (drop low chunks) (omega (arith, length-drop low chunks, long, H.fits, B.order))

  part_pair : (t : ℕ) (d : List ℕ) → t < high - low → get_or (get_or part t d) 0 0 * 4096 + get_or (get_or part t d) 1 0 ≡ key_of (record_at list (low + t)) / 16
  part_pair t d h =
      let at : get_or (take (high - low) (drop low chunks)) t d ≡ get_or (first_chunks 3 (room list) list) (low + t) d =
      get_or-take (high - low) (drop low chunks) t d h ∙ get_or-drop low chunks t d ∙ ap (λ (l : List (List ℕ)). get_or l (low + t) d) is in
      let has : (i : ℕ) → i < 3 → get_or (get_or (take (high - low) (drop low chunks)) t d) i 0 ≡ get_or list (3 * (low + t) + i) 0 =
      λ i g. rw at (chunk_at (room list) (low + t) i list d (omega (arith, H.fits)) g) in
      let first : get_or list (3 * (low + t) + 0) 0 ≡ get_or list (3 * (low + t)) 0 = ap (λ (j : ℕ). get_or list j 0) (omega arith) in
      omega (arith, has 0 (omega arith), first, has 1 (omega arith), pair_is (small_at H (low + t) (omega arith)))

  pub parted : IsPartitionedBy (not_above y) part
  parted i j d h k e =
      let l : j < high - low = omega (arith, part_long) in
      let below = leb-true (get_or (get_or part j d) 0 0 * 4096 + get_or (get_or part j d) 1 0) (y / 16) e in
      le-leb (get_or (get_or part i d) 0 0 * 4096 + get_or (get_or part i d) 1 0) (y / 16) (elim (ℕ_discrete i j) [
        | yes q ↦ omega (arith, below, part_pair i d (omega arith), part_pair j d l, ap (λ (t : ℕ). key_of (record_at list (low + t)) / 16) q)
        | no q ↦ omega (arith, below, part_pair i d (omega arith), part_pair j d l, climbs_at H (low + i) (low + j) (omega arith) (omega arith))
      ])

  pub located : {r : ℕ} → r ≤ length part → IsPartitionPoint (λ x. not_above y x ≡ true) (λ x. not_above y x ≡ false) part r → Between (low + r) (low + r) high y list
  located {r} h point = record {
    order = omega arith;
    within = omega (arith, part_long, B.order);
    below = λ t l. elim (dec_lt t low) [
      | yes q ↦ B.below t q
      | no q ↦
          let e : low + (t - low) ≡ t = omega arith in
          let u = leb-true _ _ (point.0 (t - low) [] (omega arith) (omega arith)) in
          let v = part_pair (t - low) [] (omega (arith, part_long)) in
          let w = ap (λ (k : ℕ). key_of (record_at list k) / 16) e in
          omega (arith, u, v, w)
    ];
    above = λ t a b.
        let e : low + (t - low) ≡ t = omega arith in
        let u = leb-false _ _ (point.1 (t - low) [] (omega arith) (omega (arith, part_long))) in
        let v = part_pair (t - low) [] (omega arith) in
        let w = ap (λ (k : ℕ). key_of (record_at list k) / 16) e in
        omega (arith, u, v, w);
  }
