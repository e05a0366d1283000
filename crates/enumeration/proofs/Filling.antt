-- The loops that list a part's terms. Assumes nothing.
use Prim.Native.Nat.{ℕ, zero, suc, ◌+◌, ◌*◌, ◌^◌, ◌<◌, ◌≤◌}
use mathlib.Core.Path.{◌≡◌, refl}
use mathlib.Core.Bool.{Bool, true, false, cond}
use mathlib.Core.List.{List, [], ◌∷◌, ◌++◌}
use native.Mathlib.Numerals.{add-one}
use native.Mathlib.Omega.{arith}
use lib.Bits.{bit_or, or_lt}
use lib.Dec.{ltb}
use lib.Pow.{pow-lt}
use lib.ListN.{length, get_or, length-append}
use lib.Ieee.{Float}
use borrow.Author.Tests.{lt-ltb, le-ltb}
use Rattle.scratch.specs.Region.{region}
use Rattle.scratch.proofs.Region.{region_at, length_region}
use Rattle.field.specs.Field.{Field, entries}
use Rattle.rows.specs.Model.{coeff_of}
use Rattle.masks.specs.Masks.{Term, term}
use Rattle.masks.specs.Listed.{Lists, Room, Listed}
use Rattle.masks.proofs.Listing.{listed_none, listed_then}
use Rattle.enumeration.specs.Terms.{linear_part, entry_of, linear_terms, term_at, pair_term, column_terms, pair_terms}

-- ---- the required bits

pub bit_fits : {count b r : ℕ} → count ≤ 10 → b < count → r ≡ 2 ^ b → r < 65536
bit_fits {b = b} few h e = let k : b < 10 = omega arith in omega (arith, pow-lt k)

pub pair_fits : {count a b x y : ℕ} → count ≤ 10 → a < count → b < count → x ≡ 2 ^ a → y ≡ 2 ^ b → bit_or x y < 65536
pair_fits {a = a} {b = b} {x = x} {y = y} few ha hb ex ey =
    let k : a < 10 = omega arith in
    let l : b < 10 = omega arith in
    omega (arith, or_lt 10 x y (rw ex (pow-lt k)) (rw ey (pow-lt l)))

-- ---- room on the lists

-- behind at most n more terms
pub room_after : {n room : ℕ} {ts : List Term} {L₀ L : Lists} (more : ℕ) → Listed ts L₀ L → length ts ≤ n → Room room L₀.values L₀.required → L₀.end + n + more ≤ room
    → Room (L.end + more) L.values L.required
room_after more A h R k = record {
  values_long = omega (arith, A.ends, A.values_long, R.values_long);
  required_long = omega (arith, A.ends, A.required_long, R.required_long);
}

-- ---- a loop: its first b turns list the terms ts b

pub record Filling (count : ℕ) (ts : ℕ → List Term) (L₀ L : Lists) (b : ℕ) : Type 0 where
  pub within : b ≤ count
  pub listed : Listed (ts b) L₀ L

pub fill_start : (count : ℕ) (ts : ℕ → List Term) {L₀ : Lists} → ts 0 ≡ [] → Filling count ts L₀ L₀ 0
fill_start count ts e = record { within = omega arith; listed = rw e listed_none }

module _ {count : ℕ} {ts : ℕ → List Term} {L₀ L : Lists} {b : ℕ} (I : Filling count ts L₀ L b) where
  pub fill_turn : {us : List Term} {L' : Lists} → b < count → Listed us L L' → ts (suc b) ≡ ts b ++ us → Filling count ts L₀ L' (b + 1)
  fill_turn h A e = record { within = omega arith; listed = rw (add-one b, e) (listed_then I.listed A) }

  pub fill_done : count ≤ b → Listed (ts count) L₀ L
  fill_done h = let e : b ≡ count = omega (arith, I.within) in rw e at I.listed

-- ---- the terms of one turn

module _ (F : Field) (u : List ℕ) (at count : ℕ) where
  pub linear_none : (s : List ℕ) → linear_terms F s (region at count u) 0 ≡ []
  unfolding linear_terms
  linear_none s = refl

  pub linear_more : (s : List ℕ) {b i r : ℕ} {v : Float} → b < count → i ≡ get_or u (at + b) 0 → r ≡ 2 ^ b → v ≡ linear_part F s i
      → linear_terms F s (region at count u) (suc b) ≡ linear_terms F s (region at count u) b ++ (term r v ∷ [])
  unfolding linear_terms
  linear_more s {b} h ei er ev = rw (er, ev, ei, region_at at count u b 0 h)

  pub column_none : (b : ℕ) → column_terms F (region at count u) b 0 ≡ []
  unfolding column_terms
  column_none b = refl

  pub column_more : (b a : ℕ) → column_terms F (region at count u) b (suc a) ≡ column_terms F (region at count u) b a ++ pair_term F (region at count u) b a
  unfolding column_terms
  column_more b a = refl

  pub pairs_none : pair_terms F (region at count u) 0 ≡ []
  unfolding pair_terms
  pairs_none = refl

  pub pairs_more : (b : ℕ) → at + count ≤ length u → pair_terms F (region at count u) (suc b) ≡ pair_terms F (region at count u) b ++ column_terms F (region at count u) b count
  unfolding pair_terms
  pairs_more b h = rw (length_region at count u h)

  module _ {a b i j k : ℕ} (ha : a < count) (hb : b < count) (ei : i ≡ get_or u (at + a) 0) (ej : j ≡ get_or u (at + b) 0) (ek : k ≡ entry_of F i j) where
    pair_is : pair_term F (region at count u) b a ≡ term_at F a b k
    unfolding pair_term
    pair_is = rw (region_at at count u a 0 ha, region_at at count u b 0 hb, ← ei, ← ej, ← ek)

    pub pair_none : {L : Lists} → entries F ≤ k → Listed (pair_term F (region at count u) b a) L L
    unfolding term_at
    pair_none h = rw (pair_is, le-ltb k (entries F) h) listed_none

    pub pair_some : {x y : ℕ} {v : Float} {L L' : Lists} → k < entries F → x ≡ 2 ^ a → y ≡ 2 ^ b → v ≡ coeff_of F k → Listed (term (bit_or x y) v ∷ []) L L'
        → Listed (pair_term F (region at count u) b a) L L'
    unfolding term_at
    pair_some h ex ey ev A = rw (pair_is, lt-ltb k (entries F) h, ← ex, ← ey, ← ev) A

-- ---- how many they are

module _ (F : Field) (members : List ℕ) where
  pub linear_few : (s : List ℕ) (b : ℕ) → length (linear_terms F s members b) ≤ b
  unfolding linear_terms
  linear_few s zero = omega arith
  linear_few s (suc b) = omega (arith, linear_few s b, length-append (linear_terms F s members b) (term (2 ^ b) (linear_part F s (get_or members b 0)) ∷ []))

  one_pair : (b a : ℕ) → length (pair_term F members b a) ≤ 1
  unfolding pair_term term_at
  one_pair b a = by (ltb (entry_of F (get_or members a 0) (get_or members b 0)) (entries F))
    where
      by : (t : Bool) → length (cond t (term (bit_or (2 ^ a) (2 ^ b)) (coeff_of F (entry_of F (get_or members a 0) (get_or members b 0))) ∷ []) []) ≤ 1
      by true = omega arith
      by false = omega arith

  pub column_few : (b a : ℕ) → length (column_terms F members b a) ≤ a
  unfolding column_terms
  column_few b zero = omega arith
  column_few b (suc a) = omega (arith, column_few b a, one_pair b a, length-append (column_terms F members b a) (pair_term F members b a))

  tens : length members ≤ 10 → (b : ℕ) → length (pair_terms F members b) ≤ 10 * b
  unfolding pair_terms
  tens few zero = omega arith
  tens few (suc b) =
      omega (arith, tens few b, column_few b (length members), length-append (pair_terms F members b) (column_terms F members b (length members)))

pub pairs_few : (F : Field) (u : List ℕ) (at count : ℕ) → count ≤ 10 → at + count ≤ length u → (b : ℕ) → length (pair_terms F (region at count u) b) ≤ 10 * b
pairs_few F u at count few room b = tens F (region at count u) (omega (arith, length_region at count u room)) b
