-- The numbers of records: nothing is lost, their order is the order of the pairs, and the union of two of one pair is that of the merged record. Assumes nothing.
use Prim.Native.Nat.{ℕ, suc, ◌+◌, ◌*◌, ◌/◌, ◌%◌, ◌<◌, ◌≤◌}
use mathlib.Core.Path.{◌≡◌, sym, ap, ◌∙◌, subst}
use mathlib.Core.Bool.{Bool, true, false, cond}
use mathlib.Core.List.{List, [], ◌∷◌, map}
use native.Mathlib.Decide.{dec_lt}
use native.Mathlib.Nat.{div-add-mod', mod-lt}
use native.Mathlib.Omega.{arith}
use lib.Bits.{bit_or, or_shr, or_mod, or_self, or_lt, or_add_and, and_le_l}
use lib.Dec.{ltb}
use lib.ListN.{get_or}
use borrow.Author.Tests.{lt-ltb, le-ltb}
use Rattle.meaning.specs.Kinds.{Kind, Constraint, joining}
use Rattle.meaning.specs.Records.{Record, record_on, set_of, turned, record_of}
use Rattle.meaning.specs.Rising.{Before, by_lower, by_higher, Rising, joined}
use Rattle.meaning.proofs.Records.{record_proper}
use Rattle.constraints.specs.Keys.{key_of, unkey, Small, Key, Climbs}
use Rattle.constraints.proofs.Records.{in_map}

module _ (k : ℕ) where
  -- every number is the number of what it stands for
  pub key_of_unkey : key_of (unkey k) ≡ k
  key_of_unkey = omega (arith, div-add-mod' k 16, div-add-mod' (k / 16) 4096)

  pub unkey_small : Key k → Small (unkey k)
  unkey_small h = record {
    lower = omega (arith, h.below, div-add-mod' k 16, div-add-mod' (k / 16) 4096);
    higher = mod-lt (k / 16) {m = 4096} (omega arith);
    proper = record { some = h.some; four = mod-lt k {m = 16} (omega arith) };
  }

module _ {x : Record} (s : Small x) where
  key_pair : key_of x / 16 ≡ x.lower * 4096 + x.higher
  key_pair = omega (arith, s.proper.four, div-add-mod' (key_of x) 16, mod-lt (key_of x) {m = 16} (omega arith))

  key_set : key_of x % 16 ≡ x.set
  key_set = omega (arith, s.proper.four, div-add-mod' (key_of x) 16, mod-lt (key_of x) {m = 16} (omega arith))

  pub key_is : Key (key_of x)
  key_is = record { below = omega (arith, s.lower, s.higher, s.proper.four); some = rw key_set s.proper.some }

  -- a number stands for the record that it is the number of
  pub unkey_of_key : unkey (key_of x) ≡ x
  unkey_of_key =
      let a : key_of x / 16 / 4096 ≡ x.lower =
      omega (arith, key_pair, s.higher, div-add-mod' (key_of x / 16) 4096, mod-lt (key_of x / 16) {m = 4096} (omega arith)) in
      let b : key_of x / 16 % 4096 ≡ x.higher =
      omega (arith, key_pair, s.higher, div-add-mod' (key_of x / 16) 4096, mod-lt (key_of x / 16) {m = 4096} (omega arith)) in
      parts a b key_set
    where
      parts : {a b c a' b' c' : ℕ} → a ≡ a' → b ≡ b' → c ≡ c' → record_on a b c ≡ record_on a' b' c'
      parts e f g = cc

-- ---- the order

-- the order of numbers divided by 16 is the order of the pairs
pub unkey_before : (k l : ℕ) → k / 16 < l / 16 → Before (unkey k) (unkey l)
unkey_before k l h = go (dec_lt (k / 16 / 4096) (l / 16 / 4096))
  where
    go : Dec (k / 16 / 4096 < l / 16 / 4096) → Before (unkey k) (unkey l)
    go (yes p) = by_lower p
    go (no p) =
        let e : k / 16 / 4096 ≡ l / 16 / 4096 =
        omega (arith, div-add-mod' (k / 16) 4096, mod-lt (k / 16) {m = 4096} (omega arith), div-add-mod' (l / 16) 4096, mod-lt (l / 16) {m = 4096} (omega arith)) in
        by_higher e (omega (arith, div-add-mod' (k / 16) 4096, div-add-mod' (l / 16) 4096))

-- numbers whose pairs climb stand for records that rise
pub rising_unkeys : (ks : List ℕ) → Climbs ks → Rising (map unkey ks)
rising_unkeys [] c = tt
rising_unkeys (k ∷ ks) c = (
  λ y m. let s = in_map unkey 0 ks m in subst (Before (unkey k)) (sym s.1.1) (unkey_before k (get_or ks s.0 0) (c 0 (suc s.0) (omega arith) (omega (arith, s.1.0)))),
  rising_unkeys ks (λ i j h l. c (suc i) (suc j) (omega arith) (omega arith)),
)

-- ---- the union of two numbers of one pair

module _ (k l : ℕ) (e : k / 16 ≡ l / 16) where
  pub or_pair : bit_or k l / 16 ≡ k / 16
  or_pair = or_shr k l 4 ∙ rw e (or_self (l / 16))

  pub unkey_or : unkey (bit_or k l) ≡ joined (unkey k) (unkey l)
  unkey_or = rw (or_pair, or_mod k l 4)

  pub or_key : Key k → Key l → Key (bit_or k l)
  or_key h g = record { below = or_lt 28 k l h.below g.below; some = omega (arith, or_mod k l 4, or_add_and (k % 16) (l % 16), and_le_l (k % 16) (l % 16), g.some) }

-- ---- the record of a constraint

pub record_small : (c : Constraint) → c.first < 4096 → c.second < 4096 → Small (record_of c)
record_small c h g = record { lower = (ends (ltb c.first c.second)).0; higher = (ends (ltb c.first c.second)).1; proper = record_proper c }
  where
    ends : (b : Bool) → ((cond b (record_on c.first c.second (set_of c.kind)) (record_on c.second c.first (set_of (turned c.kind)))).lower < 4096)
        × ((cond b (record_on c.first c.second (set_of c.kind)) (record_on c.second c.first (set_of (turned c.kind)))).higher < 4096)
    ends true = (h, g)
    ends false = (g, h)

-- how code makes it
module _ (first second : ℕ) (k : Kind) {S r : ℕ} where
  pub key_straight : first < second → S ≡ set_of k → r ≡ key_of (record_on first second S) → r ≡ key_of (record_of (joining k first second))
  key_straight h e q = rw (lt-ltb first second h) (q ∙ ap (λ (z : ℕ). key_of (record_on first second z)) e)

  pub key_exchanged : {k' : Kind} → second ≤ first → k' ≡ turned k → S ≡ set_of k' → r ≡ key_of (record_on second first S) → r ≡ key_of (record_of (joining k first second))
  key_exchanged h t e q = rw (le-ltb first second h) (q ∙ ap (λ (z : ℕ). key_of (record_on second first z)) (e ∙ ap set_of t))
