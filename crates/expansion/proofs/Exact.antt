-- THE EXACT SUM: the parts of an error-free sum add up to what was added, while no sum has overflowed. Assumes nothing.
use mathlib.Core.Path.{◌≡◌, refl, sym, ap, ◌∙◌}
use mathlib.Core.Bool.{Bool, true, false, not, cond, false≢true}
use mathlib.Core.List.{List, [], ◌∷◌}
use mathlib.Core.Logic.{◌↔◌}
use Prim.Native.Nat.{ℕ, ◌+◌, ◌^◌, ◌<◌, ◌≤◌}
use native.Mathlib.Nat.{le_trans}
use native.Mathlib.Omega.{arith}
use borrow.Author.Tests.{eqb-true, eq-eqb, not-false}
use lib.Dec.{T, lit≤, eqb}
use lib.Ieee.{Float, nan, inf, fin, binary64, add, sub, lt, eq, ne, fits}
use lib.Ieee.Bits.{is_true}
use lib.Ieee.Fits.{add-fits, sub-fits}
use lib.Ieee.Scale.{finite}
use Rattle.whole.specs.Whole.{Whole, ◌⊕◌, ◌≈◌, Zero}
use Rattle.weights.specs.Counts.{Counts}
use Rattle.weights.specs.Worth.{Worth, Small, read, magnitude, zero64}
use Rattle.weights.proofs.Worth.{add_worth, as_worth, worth_read, eq_worth, zero_worth, two_sum_lem}
use Rattle.expansion.specs.declared.Split.{Split}
use Rattle.expansion.specs.Sum.{Expansion, parts, invalid, two_sum, split_of, kept, in_front, carried, plus, comes_to_zero}
use Rattle.expansion.specs.Exact.{Number, Numbers, none, more, AllHeld, none_held, more_held, total, add_all, Totals, adds_up, overflown, Plain, nought, single}
use Rattle.expansion.proofs.Nearby.{gap, Multiple}
use Rattle.expansion.proofs.Splitting.{Held, held, one_side, first_larger, second_larger, sum_parted}

-- ---- a float with a count is finite

counts_finite : (u p l : ℕ) (x : Float) → Counts binary64 u x p l → T (finite x)
unfolding Counts
counts_finite u p l nan h = h
counts_finite u p l (inf s) h = h
counts_finite u p l (fin s m e) h = tt

pub worth_finite : {u : ℕ} {x : Float} {a : Whole} → Worth u x a → finite x ≡ true
worth_finite {x = x} h = is_true (finite x) (counts_finite _ _ _ x h.is)

-- against 0
pub zero_test : {u : ℕ} {x : Float} {a : Whole} → Worth u x a → (ne x zero64 ≡ false) ↔ Zero a
unfolding ne
zero_test {x = x} {a = a} h =
    let e : eq x zero64 ≡ eqb (a.plus + 0) (0 + a.less) = eq_worth h (zero_worth h.unit) in (
      (λ n. omega (arith, eqb-true (a.plus + 0) (0 + a.less) (sym e ∙ not-false (eq x zero64) n))),
      λ z. ap not (e ∙ eq-eqb (a.plus + 0) (0 + a.less) (omega arith)),
    )

-- ---- two numbers

abbrev ledger : {x : Float} → Held binary64 x → Whole
ledger h = record { plus = cond h.sign 0 h.size; less = cond h.sign h.size 0 }

held_worth : {x : Float} (h : Held binary64 x) → Worth 0 x (ledger h)
held_worth h = record { unit = lit≤ tt; is = h.counts }

pub held_number : {x : Float} → Number x → Held binary64 x
held_number {x} n = held binary64 x n.held n.finite_one

pub number_worth : {x : Float} → Number x → Worth 0 x (read 0 x)
number_worth n = let w = held_worth (held_number n) in as_worth w (worth_read w)

-- how many units x is, without its sign
abbrev pub size_of : Float → ℕ
size_of x = gap (read 0 x).plus (read 0 x).less

gap_same : (a b : Whole) → a ≈ b → gap b.plus b.less ≡ gap a.plus a.less
gap_same a b e = omega arith

worth_size : {x : Float} {a : Whole} → Worth 0 x a → size_of x ≡ gap a.plus a.less
worth_size {x} {a} h = gap_same a (read 0 x) (worth_read h)

held_size : {x : Float} (h : Held binary64 x) → size_of x ≡ h.size
held_size h = worth_size (held_worth h) ∙ one_side h.sign h.size

-- s is x + y, parted without loss: both parts are numbers, the high one a multiple of a power of two above the low one
pub record Exactly (x y : Float) (s : Split) : Type 0 where
  pub high_one : Number s.high
  pub low_one : Number s.low
  pub sum : read 0 s.high ⊕ read 0 s.low ≈ read 0 x ⊕ read 0 y
  pub place : ℕ
  pub grid : Multiple (2 ^ place) (size_of s.high)
  pub under : size_of s.low < 2 ^ place
  pub near_x : size_of s.low ≤ size_of x
  pub near_y : size_of s.low ≤ size_of y
  pub finer_both : (j : ℕ) → Multiple (2 ^ j) (size_of x) → Multiple (2 ^ j) (size_of y) → Multiple (2 ^ j) (size_of s.high) × Multiple (2 ^ j) (size_of s.low)

two_exact : {x y : Float} (hx : Held binary64 x) (hy : Held binary64 y) → hy.size ≤ hx.size → T (finite (add binary64 x y)) → Exactly x y (two_sum x y)
two_exact {x} {y} hx hy l t =
    let q = sum_parted binary64 x y hx hy l t in
    let h : Worth 0 (two_sum x y).high (record { plus = q.plus; less = q.less }) = record { unit = lit≤ tt; is = q.high } in
    let d : Worth 0 (two_sum x y).low (ledger hy ⊕ (record { plus = q.less; less = q.plus } ⊕ ledger hx)) = record { unit = lit≤ tt; is = q.low } in
    let eh = worth_size h in
    let ed = worth_size d in
    let ex = worth_size (held_worth hx) in
    let ey = worth_size (held_worth hy) in
    let near : size_of (two_sum x y).low ≤ size_of y = rw (ed, ey) q.near in
    record {
      high_one = record { held = add-fits binary64 x y; finite_one = t };
      low_one = record { held = sub-fits binary64 y (sub binary64 (add binary64 x y) x); finite_one = counts_finite _ _ _ (two_sum x y).low q.low };
      sum = omega (arith, worth_read h, worth_read d, worth_read (held_worth hx), worth_read (held_worth hy));
      place = q.place;
      grid = rw eh q.grid;
      under = rw ed q.under;
      near_x = le_trans near (rw (held_size hx, held_size hy) l);
      near_y = near;
      finer_both = λ j u v. rw (eh, ed) (q.finer_both j (rw ex at u) (rw ey at v));
    }

pub split_exact : {x y : Float} → Number x → Number y → T (finite (split_of x y).high) → Exactly x y (split_of x y)
unfolding split_of
split_exact {x} {y} n m = go (lt (magnitude x) (magnitude y)) refl
  where
    hx : Held binary64 x
    hx = held_number n

    hy : Held binary64 y
    hy = held_number m

    go : (b : Bool) → lt (magnitude x) (magnitude y) ≡ b → T (finite (cond b (two_sum y x) (two_sum x y)).high) → Exactly x y (cond b (two_sum y x) (two_sum x y))
    go true e t =
        let k = two_exact hy hx (second_larger binary64 x y hx hy e) t in
        record {
          high_one = k.high_one;
          low_one = k.low_one;
          sum = omega (arith, k.sum);
          place = k.place;
          grid = k.grid;
          under = k.under;
          near_x = k.near_y;
          near_y = k.near_x;
          finer_both = λ j u v. k.finer_both j v u;
        }
    go false e t = two_exact hx hy (first_larger binary64 x y hx hy e) t

-- ---- parts

kept_number : {x : Float} {l : List Float} → Number x → Numbers l → Numbers (kept x l)
unfolding kept
kept_number {x} {l} n m = go (ne x zero64)
  where
    go : (b : Bool) → Numbers (cond b (x ∷ l) l)
    go true = more n m
    go false = m

kept_total : {x : Float} (l : List Float) → Number x → total (kept x l) ≈ read 0 x ⊕ total l
unfolding kept total
kept_total {x} l n = go (ne x zero64) refl
  where
    go : (b : Bool) → ne x zero64 ≡ b → total (cond b (x ∷ l) l) ≈ read 0 x ⊕ total l
    go true e = refl
    go false e = omega (arith, (zero_test (number_worth n)).0 e)

in_front_lem : {x : Float} {e : Expansion} {a : Whole} → Number x → Totals e a → Totals (in_front x e) (read 0 x ⊕ a)
unfolding in_front
in_front_lem {x} {a = a} n (adds_up {l} m h) = adds_up {a = read 0 x ⊕ a} (kept_number n m) (omega (arith, kept_total l n, h))
in_front_lem n overflown = overflown

pub totals_as : {e : Expansion} {a b : Whole} → Totals e a → a ≈ b → Totals e b
totals_as {b = b} (adds_up m h) w = adds_up {a = b} m (omega (arith, h, w))
totals_as overflown w = overflown

carried_totals : {x : Float} {l : List Float} → Number x → Numbers l → Totals (carried x l) (read 0 x ⊕ total l)
unfolding carried total
carried_totals {x} n none = adds_up (kept_number n none) (kept_total [] n)
carried_totals {x} n (more {x = y} {l = l} m ms) = go (finite (split_of x y).high) (split_exact n m) (λ k. carried_totals {x = (split_of x y).high} k ms)
  where
    go : (b : Bool) → (T b → Exactly x y (split_of x y)) → (Number (split_of x y).high → Totals (carried (split_of x y).high l) (read 0 (split_of x y).high ⊕ total l))
        → Totals (cond b (in_front (split_of x y).low (carried (split_of x y).high l)) invalid) (read 0 x ⊕ (read 0 y ⊕ total l))
    go true h rest = let k = h tt in totals_as (in_front_lem k.low_one (rest k.high_one)) (omega (arith, k.sum))
    go false h rest = overflown

-- ONE ADD: the parts come to x more
pub plus_totals : (x : Float) {e : Expansion} {a : Whole} → T (fits binary64 x) → Totals e a → Totals (plus x e) (a ⊕ read 0 x)
unfolding plus
plus_totals x {a = a} t (adds_up {l} m h) = go (finite x) (λ f. carried_totals (record { held = t; finite_one = f }) m)
  where
    go : (b : Bool) → (T b → Totals (carried x l) (read 0 x ⊕ total l)) → Totals (cond b (carried x l) invalid) (a ⊕ read 0 x)
    go true k = totals_as (k tt) (omega (arith, h))
    go false k = overflown
plus_totals x t overflown = overflown

-- ALL OF THEM: the parts add up to the true sum of what was added
pub sum_totals : {l : List Float} {e : Expansion} {a : Whole} → AllHeld l → Totals e a → Totals (add_all e l) (a ⊕ total l)
unfolding add_all total
sum_totals none_held h = totals_as h (omega arith)
sum_totals (more_held t ts) h = totals_as (sum_totals ts (plus_totals _ t h)) (omega arith)

-- where no part is left, what was added comes to 0
pub no_parts : {e : Expansion} {a : Whole} → Totals e a → comes_to_zero e ≡ true → Zero a
unfolding comes_to_zero total
no_parts (adds_up none h) z = omega (arith, h)
no_parts (adds_up (more n ns) h) z = absurd (false≢true z)
no_parts overflown z = absurd (false≢true z)

-- ---- sums that are exact in a unit, as those of an exact field are: the sum comes to 0 exactly if what was added does

kept_plain : {u : ℕ} {x : Float} {a : Whole} → Worth u x a → Plain u (parts (kept x [])) a
unfolding kept
kept_plain {u} {x} {a} h = go (ne x zero64) refl
  where
    go : (b : Bool) → ne x zero64 ≡ b → Plain u (parts (cond b (x ∷ []) [])) a
    go true e = single h e
    go false e = nought ((zero_test h).0 e)

split_plain : {u : ℕ} {x y : Float} {a b : Whole} → Worth u x a → Worth u y b → Small a → Small b → Small (a ⊕ b)
    → Worth u (split_of x y).high (a ⊕ b) × (ne (split_of x y).low zero64 ≡ false)
unfolding split_of
split_plain {u} {x} {y} {a} {b} h k sa sb sc = go (lt (magnitude x) (magnitude y))
  where
    go : (t : Bool) → Worth u (cond t (two_sum y x) (two_sum x y)).high (a ⊕ b) × (ne (cond t (two_sum y x) (two_sum x y)).low zero64 ≡ false)
    go true = (as_worth (add_worth k h (omega arith)) (omega arith), two_sum_lem k h sa (omega arith))
    go false = (add_worth h k sc, two_sum_lem h k sb sc)

kept_not : (x : Float) (l : List Float) → ne x zero64 ≡ false → kept x l ≡ l
unfolding kept
kept_not x l e = rw e

pub plus_plain : {u : ℕ} {x : Float} {e : Expansion} {a b : Whole} → Plain u e a → Worth u x b → Small a → Small b → Small (a ⊕ b) → Plain u (plus x e) (a ⊕ b)
unfolding plus carried in_front
plus_plain {u} {x} {a = a} {b = b} (nought z) k sa sb sc = rw (worth_finite k) (kept_plain (as_worth k (omega arith)))
plus_plain {u} {x} {a = a} {b = b} (single {x = y} h n) k sa sb sc =
    let s = split_plain k h sb sa (omega arith) in
    rw (worth_finite k, worth_finite s.0, kept_not (split_of x y).low _ s.1) (kept_plain (as_worth s.0 (omega arith)))

pub plain_zero : {u : ℕ} {e : Expansion} {a : Whole} → Plain u e a → (comes_to_zero e ≡ true) ↔ Zero a
unfolding comes_to_zero
plain_zero (nought z) = ((λ e. z), λ e. refl)
plain_zero (single h n) = ((λ e. absurd (false≢true e)), λ z. absurd (false≢true (sym ((zero_test h).1 z) ∙ n)))
