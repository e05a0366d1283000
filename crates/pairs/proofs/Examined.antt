-- The pairs that are examined: how many, which, and that with more values fixed a pair comes no later. Assumes nothing.
use mathlib.Core.Path.{◌≡◌, refl, sym, ap, ◌∙◌, subst}
use mathlib.Core.Logic.{⊎_elim}
use mathlib.Core.Bool.{Bool, true, false, cond, ◌&&◌, true≢false}
use mathlib.Core.List.Memᴰ
use mathlib.Core.List.{List, [], ◌∷◌, ◌++◌, map, map-append, Memᴰ}
use Prim.Native.Nat.{ℕ, zero, suc, ◌+◌, ◌*◌, ◌-◌, ◌/◌, min, ◌≤◌, ◌<◌}
use native.Mathlib.Nat.{mul-div_cancel, mul-suc, suc-mul, zero-mul}
use native.Mathlib.Omega.{arith}
use lib.ListN.{length, get_or, take, drop, length-append, length-take, take-append-drop}
use lib.Seq.{take-take}
use borrow.Author.Tests.{eqb-true, eq-eqb}
use Rattle.meaning.specs.Kinds.{Pair, pair}
use Rattle.meaning.specs.Records.{Record, record_on}
use Rattle.meaning.specs.Rising.{Before, by_lower, by_higher, Rising}
use Rattle.meaning.proofs.Rising.{rising_front}
use Rattle.meaning.specs.Steps.{Extends}
use Rattle.constraints.proofs.Records.{at_in, in_at}
use Rattle.meaning.proofs.Values.{free_back}
use Rattle.meaning.specs.Free.{is_free, free_to}
use Rattle.meaning.proofs.Free.{free_at, free_rises}
use Rattle.pairs.specs.Listing.{free_of, with_each, pairs_of, free_pairs, allowed, examined, pair_count}

-- ---- how many

each_length : (i : ℕ) (js : List ℕ) → length (with_each i js) ≡ length js
unfolding with_each
each_length i [] = refl
each_length i (j ∷ js) = ap suc (each_length i js)

square : (l : ℕ) → suc l * suc l ≡ l * l + l + l + 1
square l = omega (arith, suc-mul l (suc l), mul-suc l l)

square_less : (k p : ℕ) → p * 2 + k ≡ k * k → p * 2 ≡ k * (k - 1)
square_less zero p h = omega (arith, zero-mul zero, zero-mul (zero - 1))
square_less (suc l) p h = rw less_one (omega (arith, square l, suc-mul l l))
  where
    less_one : suc l - 1 ≡ l
    less_one = omega arith

twice_length : (is : List ℕ) → length (pairs_of is) * 2 + length is ≡ length is * length is
unfolding pairs_of
twice_length [] = refl
twice_length (i ∷ is) = omega (arith, twice_length is, length-append (with_each i is) (pairs_of is), each_length i is, square (length is))

pairs_length : (is : List ℕ) → length (pairs_of is) ≡ length is * (length is - 1) / 2
pairs_length is = rw (← square_less (length is) (length (pairs_of is)) (twice_length is)) (sym (mul-div_cancel (length (pairs_of is)) two))
  where
    two : 0 < 2
    two = omega arith

pub examined_count : (limit : ℕ) (s : List ℕ) → length (examined limit s) ≡ pair_count limit (length (free_of s))
examined_count limit s = length-take (allowed limit) (free_pairs s) ∙ ap (min (allowed limit)) (pairs_length (free_of s))

-- ---- PREFIX: a larger limit only lengthens the list
pub longer : (l m : ℕ) (s : List ℕ) → l ≤ m → examined l s ≡ take (allowed l) (examined m s)
longer l m s h = sym (take-take (allowed l) (allowed m) (free_pairs s) (omega arith))

-- ---- which

taken : {A : Type 0} {a : A} (k : ℕ) (l : List A) → Memᴰ a (take k l) → Memᴰ a l
taken zero l m = absurd (Memᴰ.not-nil m)
taken (suc k) [] m = absurd (Memᴰ.not-nil m)
taken (suc k) (b ∷ l) m = ⊎_elim (λ e. Memᴰ.head e) (λ r. Memᴰ.tail (taken k l r)) (Memᴰ.cases_cons m)

each_in : (i : ℕ) (js : List ℕ) {p : Pair} → Memᴰ p (with_each i js) → (b : ℕ) × ((b < length js) × (p ≡ pair i (get_or js b 0)))
unfolding with_each
each_in i [] m = absurd (Memᴰ.not-nil m)
each_in i (j ∷ js) m =
    ⊎_elim (λ e. (0, (omega arith, e))) (λ r. let z = each_in i js r in (suc z.0, (omega (arith, z.1.0), z.1.1))) (Memᴰ.cases_cons m)

-- two positions of a pair
pub record Positions (is : List ℕ) (p : Pair) : Type 0 where
  pub first : ℕ
  pub second : ℕ
  pub order : first < second
  pub within : second < length is
  pub is_pair : p ≡ pair (get_or is first 0) (get_or is second 0)

pair_in : (is : List ℕ) {p : Pair} → Memᴰ p (pairs_of is) → Positions is p
unfolding pairs_of
pair_in [] m = absurd (Memᴰ.not-nil m)
pair_in (i ∷ is) {p} m =
    ⊎_elim (λ r. let z = each_in i is r in record { first = 0; second = suc z.0; order = omega arith; within = omega (arith, z.1.0); is_pair = z.1.1 })
    (λ r. let z = pair_in is r in record { first = suc z.first; second = suc z.second; order = omega (arith, z.order); within = omega (arith, z.within); is_pair = z.is_pair })
    (Memᴰ.append_cases (with_each i is) m)

-- an examined pair: i < j, both variables, both free
pub record FreePair (s : List ℕ) (i j : ℕ) : Type 0 where
  pub order : i < j
  pub below : j < length s
  pub first : get_or s i 0 ≡ 2
  pub second : get_or s j 0 ≡ 2

free_pair : (s : List ℕ) (a b : ℕ) → a < b → b < length (free_of s) → {i j : ℕ} → i ≡ get_or (free_of s) a 0 → j ≡ get_or (free_of s) b 0 → FreePair s i j
free_pair s a b l h ei ej = rw (ei, ej) record {
  order = free_rises s (length s) a b l h;
  below = (free_at s (length s) b h).0;
  first = (free_at s (length s) a (omega arith)).1;
  second = (free_at s (length s) b h).1;
}

pub examined_free : (limit : ℕ) (s : List ℕ) {i j : ℕ} → Memᴰ (pair i j) (examined limit s) → FreePair s i j
examined_free limit s m =
    let P = pair_in (free_of s) (taken (allowed limit) (free_pairs s) m) in
    free_pair s P.first P.second P.order P.within (ap (λ (p : Pair). p.first) P.is_pair) (ap (λ (p : Pair). p.second) P.is_pair)

-- ---- in rising order

-- a pair of variables as a record that forbids nothing
abbrev pub on_pair : Pair → Record
on_pair p = record_on p.first p.second 0

pub rising_append : (l m : List Record) → Rising l → Rising m → ((x y : Record) → Memᴰ x l → Memᴰ y m → Before x y) → Rising (l ++ m)
rising_append [] m r s h = s
rising_append (x ∷ l) m r s h = (
  λ y k. ⊎_elim (r.0 y) (h x y (Memᴰ.head refl)) (Memᴰ.append_cases l k),
  rising_append l m r.1 s (λ y z k. h y z (Memᴰ.tail k)),
)

-- each number is below all that come after it
Ascends : List ℕ → Type 0
Ascends [] = Unit {0}
Ascends (x ∷ l) = ((y : ℕ) → Memᴰ y l → x < y) × Ascends l

ascends_from : (l : List ℕ) → ((a b : ℕ) → a < b → b < length l → get_or l a 0 < get_or l b 0) → Ascends l
unfolding Ascends
ascends_from [] h = tt
ascends_from (x ∷ l) h = (
  λ y m. let p = in_at 0 l m in rw p.1.1 (h 0 (suc p.0) (omega arith) (omega (arith, p.1.0))),
  ascends_from l (λ a b k g. h (suc a) (suc b) (omega arith) (omega arith)),
)

each_rises : (i : ℕ) (js : List ℕ) → Ascends js → Rising (map on_pair (with_each i js))
unfolding with_each Ascends
each_rises i [] r = tt
each_rises i (j ∷ js) r = (
  λ y m.
      let z = Memᴰ.of_map on_pair (with_each i js) m in
      let e = each_in i js z.1 in
      subst (Before (on_pair (pair i j))) (ap on_pair (sym e.1.1) ∙ z.2) (by_higher refl (r.0 (get_or js e.0 0) (at_in 0 js e.0 e.1.0))),
  each_rises i js r.1,
)

pairs_rise : (is : List ℕ) → Ascends is → Rising (map on_pair (pairs_of is))
unfolding pairs_of Ascends
pairs_rise [] r = tt
pairs_rise (i ∷ is) r =
    rw (map-append on_pair (with_each i is) (pairs_of is))
    (rising_append (map on_pair (with_each i is)) (map on_pair (pairs_of is)) (each_rises i is r.1) (pairs_rise is r.1) (λ x y m n.
    let z = Memᴰ.of_map on_pair (with_each i is) m in
    let e = each_in i is z.1 in
    let w = Memᴰ.of_map on_pair (pairs_of is) n in
    let P = pair_in is w.1 in
    let low : i ≡ x.lower = ap (λ (p : Pair). p.first) (sym e.1.1) ∙ ap (λ (q : Record). q.lower) z.2 in
    let high : get_or is P.first 0 ≡ y.lower = ap (λ (p : Pair). p.first) (sym P.is_pair) ∙ ap (λ (q : Record). q.lower) w.2 in
    by_lower (omega (arith, low, high, r.0 (get_or is P.first 0) (at_in 0 is P.first (omega (arith, P.order, P.within)))))))

-- the examined pairs rise
pub examined_rise : (limit : ℕ) (s : List ℕ) → Rising (map on_pair (examined limit s))
examined_rise limit s =
    let all : Rising (map on_pair (free_pairs s)) = pairs_rise (free_of s) (ascends_from (free_of s) (free_rises s (length s))) in
    let split : map on_pair (examined limit s) ++ map on_pair (drop (allowed limit) (free_pairs s)) ≡ map on_pair (free_pairs s) =
    sym (map-append on_pair (examined limit s) (drop (allowed limit) (free_pairs s))) ∙ ap (map on_pair) (take-append-drop (allowed limit) (free_pairs s)) in
    rising_front (map on_pair (examined limit s)) (map on_pair (drop (allowed limit) (free_pairs s))) (rw split all)

-- ---- with more values fixed

module _ {A : Type 0} where
  -- what passes the test, in order
  unfoldable pub only_those : (A → Bool) → List A → List A
  only_those p [] = []
  only_those p (a ∷ rest) = cond (p a) (a ∷ only_those p rest) (only_those p rest)

  only_append : (p : A → Bool) (l m : List A) → only_those p (l ++ m) ≡ only_those p l ++ only_those p m
  unfolding only_those
  only_append p [] m = refl
  only_append p (a ∷ l) m = go (p a) (only_append p l m)
    where
      go : (b : Bool) → only_those p (l ++ m) ≡ only_those p l ++ only_those p m → cond b (a ∷ only_those p (l ++ m)) (only_those p (l ++ m)) ≡ cond b (a ∷ only_those p l) (only_those p l) ++ only_those p m
      go true ih = rw ih refl
      go false ih = ih

  more_in : (k : ℕ) (l : List A) {a : A} → Memᴰ a (take k l) → Memᴰ a (take (suc k) l)
  more_in zero l m = absurd (Memᴰ.not-nil m)
  more_in (suc k) [] m = absurd (Memᴰ.not-nil m)
  more_in (suc k) (b ∷ l) m = ⊎_elim (λ e. Memᴰ.head e) (λ r. Memᴰ.tail (more_in k l r)) (Memᴰ.cases_cons m)

  -- RANK: among fewer a thing that is still there comes no later
  no_later : (p : A → Bool) (k : ℕ) (l : List A) {a : A} → Memᴰ a (take k l) → p a ≡ true → Memᴰ a (take k (only_those p l))
  unfolding only_those
  no_later p zero l m e = absurd (Memᴰ.not-nil m)
  no_later p (suc k) [] m e = absurd (Memᴰ.not-nil m)
  no_later p (suc k) (b ∷ l) {a} m e = ⊎_elim here (λ r. later (p b) (no_later p k l r e)) (Memᴰ.cases_cons m)
    where
      here : a ≡ b → Memᴰ a (take (suc k) (cond (p b) (b ∷ only_those p l) (only_those p l)))
      here q = rw (sym (ap p q) ∙ e) (Memᴰ.head q)

      later : (x : Bool) → Memᴰ a (take k (only_those p l)) → Memᴰ a (take (suc k) (cond x (b ∷ only_those p l) (only_those p l)))
      later true ih = Memᴰ.tail ih
      later false ih = more_in k (only_those p l) ih

abbrev both : (ℕ → Bool) → Pair → Bool
both p ij = p ij.first && p ij.second

only_each : (p : ℕ → Bool) (i : ℕ) (js : List ℕ) → p i ≡ true → only_those (both p) (with_each i js) ≡ with_each i (only_those p js)
unfolding only_those with_each
only_each p i [] e = refl
only_each p i (j ∷ js) e = rw e (go (p j) (only_each p i js e))
  where
    go : (b : Bool) → only_those (both p) (with_each i js) ≡ with_each i (only_those p js)
        → cond b (pair i j ∷ only_those (both p) (with_each i js)) (only_those (both p) (with_each i js)) ≡ with_each i (cond b (j ∷ only_those p js) (only_those p js))
    go true ih = rw ih refl
    go false ih = ih

none_each : (p : ℕ → Bool) (i : ℕ) (js : List ℕ) → p i ≡ false → only_those (both p) (with_each i js) ≡ []
unfolding only_those with_each
none_each p i [] e = refl
none_each p i (j ∷ js) e = rw e (none_each p i js e)

pairs_only : (p : ℕ → Bool) (is : List ℕ) → only_those (both p) (pairs_of is) ≡ pairs_of (only_those p is)
unfolding only_those pairs_of
pairs_only p [] = refl
pairs_only p (i ∷ is) = only_append (both p) (with_each i is) (pairs_of is) ∙ go (p i) refl (pairs_only p is)
  where
    go : (b : Bool) → p i ≡ b → only_those (both p) (pairs_of is) ≡ pairs_of (only_those p is)
        → only_those (both p) (with_each i is) ++ only_those (both p) (pairs_of is) ≡ pairs_of (cond (p i) (i ∷ only_those p is) (only_those p is))
    go true e ih = rw (e, only_each p i is e, ih) refl
    go false e ih = rw (e, none_each p i is e, ih) refl

module _ {s t : List ℕ} (p : Extends s t) where
  still_free : (i : ℕ) → is_free t i ≡ true → is_free s i ≡ true
  still_free i e = eq-eqb (get_or s i 0) 2 (free_back p i (eqb-true (get_or t i 0) 2 e))

  frees_only : (n : ℕ) → free_to t n ≡ only_those (is_free t) (free_to s n)
  unfolding free_to only_those
  frees_only zero = refl
  frees_only (suc n) = rw (frees_only n) (sym (only_append (is_free t) (free_to s n) (cond (is_free s n) (n ∷ []) []) ∙ ap (λ (l : List ℕ). only_those (is_free t) (free_to s n) ++ l) (go (is_free t n) (is_free s n) refl refl)))
    where
      go : (x y : Bool) → is_free t n ≡ x → is_free s n ≡ y → only_those (is_free t) (cond (is_free s n) (n ∷ []) []) ≡ cond (is_free t n) (n ∷ []) []
      go true true e f = rw (f, e) refl
      go false true e f = rw (f, e) refl
      go false false e f = rw (f, e) refl
      go true false e f = absurd (true≢false (sym (still_free n e) ∙ f))

  -- a pair that was examined, and is still free, is examined
  pub still_examined : (limit : ℕ) {i j : ℕ} → Memᴰ (pair i j) (examined limit s) → get_or t i 0 ≡ 2 → get_or t j 0 ≡ 2 → Memᴰ (pair i j) (examined limit t)
  still_examined limit {i} {j} m fi fj =
      rw (p.as_long, frees_only (length s), ← pairs_only (is_free t) (free_of s))
      (no_later (both (is_free t)) (allowed limit) (free_pairs s) m (rw (eq-eqb (get_or t i 0) 2 fi, eq-eqb (get_or t j 0) 2 fj) refl))
