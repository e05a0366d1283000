-- On an exact field a variable's error-free sum comes to 0 exactly if its balance, in whole numbers, is 0, and exactly if its plain sum is 0. Assumes nothing.
use Prim.Native.Nat.{ℕ, zero, suc, ◌+◌, ◌*◌, ◌^◌, ◌<◌, ◌≤◌}
use mathlib.Core.Path.{◌≡◌, refl, sym, ap, ◌∙◌, subst}
use mathlib.Core.Logic.{◌↔◌}
use mathlib.Core.Bool.{Bool, true, false, cond, ◌||◌}
use mathlib.Core.List.{List, [], ◌∷◌}
use native.Mathlib.Numerals.{add-one}
use native.Mathlib.Omega.{arith}
use borrow.Author.Tests.{eqb-true, eq-eqb, ne_eqb}
use lib.Dec.{eqb}
use lib.ListN.{length, get_or, take}
use lib.Ieee.{add, Float, binary64, mul, eq, ne}
use Rattle.whole.specs.Whole.{Whole, nothing, ◌⊕◌, ◌⊙◌, only, sum, ◌≈◌, Zero, Under}
use Rattle.whole.proofs.Sums.{sum_add}
use Rattle.weights.specs.Worth.{Worth, zero64, four64}
use Rattle.weights.proofs.Worth.{as_worth, add_worth, finer_worth, four_worth, eq_worth, zero_worth}
use Rattle.meaning.specs.Symmetry.{at_ends, balance}
use Rattle.expansion.specs.Sum.{Expansion, parts, plus}
use Rattle.expansion.specs.Exact.{Plain, nought, single}
use Rattle.expansion.proofs.Exact.{zero_test, plus_plain, plain_zero}
use Rattle.field.specs.Field.{Field, variables, entries, linear_of, row_end, column_end, quad_of, Shaped}
use Rattle.field.specs.declared.Grade.{Grade}
use Rattle.field.specs.declared.Grade.TheVariants.{Exact}
use Rattle.field.specs.Grade.{grade_of, ExactIn}
use Rattle.field.specs.Reading.{whole_of}
use Rattle.field.proofs.Exact.{exact_means}
use Rattle.field.proofs.Reading.{linear_worth, linear_under, quad_worth, quad_under}
use Rattle.places.specs.Places.{keep, places}
use Rattle.places.proofs.Places.{tail, tail_end, tail_step, places_le, places_touch}
use Rattle.anchors.specs.Sums.{balance_at, balance_over, balance_of, balanced, plain_over, plain_sum}
use Rattle.anchors.specs.Number.{gather}

-- ---- a sum over the places of i is a sum over the entries that touch it

-- entry k touches i
abbrev pub touches : Field → ℕ → ℕ → Bool
touches F i k = eqb (row_end F k) i || eqb (column_end F k) i

gather_keep : (g : ℕ → Whole) (b : Bool) (k : ℕ) (l : List ℕ) → gather g (keep b k l) ≈ only b (g k) ⊕ gather g l
unfolding gather keep
gather_keep g true k l = refl
gather_keep g false k l = omega arith

module _ {F : Field} (S : Shaped F) (g : ℕ → Whole) (i : ℕ) where
  abbrev term : ℕ → Whole
  term k = only (touches F i k) (g k)

  -- the entries below k, and the places from k on
  split_sum : (d k : ℕ) → k + d ≡ entries F → sum k term ⊕ gather g (tail F.rows F.cols k i) ≈ sum (entries F) term
  unfolding gather sum
  split_sum zero k e =
      let w : k ≡ length F.rows = omega (arith, S.rows_long) in
      let z : tail F.rows F.cols k i ≡ [] = rw w (tail_end F.rows F.cols i) in
      let m : k ≡ entries F = omega arith in
      rw (z, m) (omega arith)
  split_sum (suc d) k e =
      let st : tail F.rows F.cols k i ≡ keep (touches F i k) k (tail F.rows F.cols (suc k) i) =
      ap (λ (f : ℕ → List ℕ). f i) (tail_step F.rows F.cols k (omega (arith, S.rows_long)) (omega (arith, S.cols_long))) in
      rw st (omega (arith, gather_keep g (touches F i k) k (tail F.rows F.cols (suc k) i), split_sum d (suc k) (omega arith)))

  pub gather_places : gather g (places F.rows F.cols i) ≈ sum (entries F) term
  unfolding places sum
  gather_places = omega (arith, split_sum (entries F) 0 (omega arith))

-- the first t of a list
pub take_short : (t : ℕ) (ks : List ℕ) → length (take t ks) ≤ length ks
take_short zero ks = omega arith
take_short (suc t) [] = omega arith
take_short (suc t) (k ∷ ks) = omega (arith, take_short t ks)

within_take : {m : ℕ} (t : ℕ) (ks : List ℕ) → ((h : ℕ) → h < length ks → get_or ks h 0 < m) → (h : ℕ) → h < length (take t ks) → get_or (take t ks) h 0 < m
within_take zero ks all h l = absurd (omega arith)
within_take (suc t) [] all h l = absurd (omega arith)
within_take (suc t) (k ∷ ks) all zero l = all 0 (omega arith)
within_take (suc t) (k ∷ ks) all (suc h) l = within_take t ks (λ x b. all (suc x) (omega arith)) h (omega arith)

-- two tests of one thing
same_test : {A : Type 0} (a b : Bool) → ((a ≡ true) ↔ A) → ((b ≡ true) ↔ A) → a ≡ b
same_test true true p q = refl
same_test true false p q = sym (q.1 (p.0 refl))
same_test false true p q = p.1 (q.0 refl)
same_test false false p q = refl

-- ---- the sum along the places is exact

plain_as : {u : ℕ} {e : Expansion} {a b : Whole} → Plain u e a → a ≈ b → Plain u e b
plain_as {b = b} (nought z) w = nought {a = b} (omega arith)
plain_as (single h n) w = single (as_worth h w) n

-- in half units q is 2w
abbrev twice : ℕ → Field → ℕ → Whole
twice u F k = (whole_of u F).weight k ⊙ 2

module _ {u : ℕ} {F : Field} (S : Shaped F) (x : ExactIn u F) where
  quad_half : (k : ℕ) → k < entries F → Worth u (quad_of F k) (twice u F k)
  quad_half k h = finer_worth 1 (subst (λ (n : ℕ). Worth n (quad_of F k) ((whole_of u F).weight k)) (sym (add-one u)) (quad_worth x k h))

  -- after n entries
  abbrev Sized : ℕ → Whole → Type 0
  Sized n a = Under (2 ^ 34 + 2 ^ 32 * n) a

  plain_at : {e : Expansion} {a : Whole} (n k : ℕ) → n < 32768 → k < entries F → Sized n a → Plain u e a → Plain u (balance_at F e k) (a ⊕ twice u F k)
  unfolding balance_at
  plain_at {e} {a} n k hn h l p =
      let off : eqb (row_end F k) (column_end F k) ≡ false = ne_eqb (row_end F k) (column_end F k) (x.standard k h) in
      rw off (go (ne (quad_of F k) zero64) refl)
    where
      go : (b : Bool) → ne (quad_of F k) zero64 ≡ b → Plain u (cond b (plus (quad_of F k) e) e) (a ⊕ twice u F k)
      go true t = plus_plain p (quad_half k h) (omega arith) (omega (arith, quad_under x k h)) (omega (arith, quad_under x k h))
      go false t = plain_as p (omega (arith, (zero_test (quad_half k h)).0 t))

  plain_over_lem : {e : Expansion} {a : Whole} (ks : List ℕ) (n : ℕ) → n + length ks ≤ 32768 → ((h : ℕ) → h < length ks → get_or ks h 0 < entries F) → Sized n a → Plain u e a
      → Plain u (balance_over F e ks) (a ⊕ gather (twice u F) ks)
  unfolding balance_over gather
  plain_over_lem [] n hn all l p = plain_as p (omega arith)
  plain_over_lem {e} {a} (k ∷ ks) n hn all l p =
      let here : k < entries F = all 0 (omega arith) in
      plain_as (plain_over_lem {e = balance_at F e k} ks (suc n) (omega arith) (λ h b. all (suc h) (omega arith)) (omega (arith, quad_under x k here)) (plain_at n k (omega arith) here l p)) (omega arith)

  -- every sum of a plain sum is whole, and below 2^53
  worth_over : {y : Float} {a : Whole} (ks : List ℕ) (n : ℕ) → n + length ks ≤ 32768 → ((h : ℕ) → h < length ks → get_or ks h 0 < entries F) → Sized n a → Worth u y a
      → Worth u (plain_over F y ks) (a ⊕ gather (twice u F) ks)
  unfolding plain_over gather
  worth_over [] n hn all l w = as_worth w (omega arith)
  worth_over {y} {a} (k ∷ ks) n hn all l w =
      let here : k < entries F = all 0 (omega arith) in
      let under = quad_under x k here in
      as_worth (worth_over {y = add binary64 y (quad_of F k)} ks (suc n) (omega arith) (λ h b. all (suc h) (omega arith)) (omega (arith, under)) (add_worth w (quad_half k here) (omega (arith, under)))) (omega arith)

  module _ (i : ℕ) (hi : i < variables F) where
    -- 4c and the entries, in half units
    abbrev all_of : Whole
    all_of = nothing ⊕ (whole_of u F).linear i ⊙ 4 ⊕ gather (twice u F) (places F.rows F.cols i)

    -- there are at most 32,768 places, and each is an entry
    few : 0 + length (places F.rows F.cols i) ≤ 32768
    few = omega (arith, places_le F.rows F.cols i, S.rows_long, S.few_entries)

    within : (h : ℕ) → h < length (places F.rows F.cols i) → get_or (places F.rows F.cols i) h 0 < entries F
    within h l = omega (arith, (places_touch F.rows F.cols i h l).0, S.rows_long)

    first_plain : Plain u (plus (mul binary64 four64 (linear_of F i)) (parts [])) (nothing ⊕ (whole_of u F).linear i ⊙ 4)
    first_plain =
        let a = linear_under x i hi in
        plus_plain (nought refl) (four_worth (linear_worth x i hi) (omega (arith, a))) (omega arith) (omega (arith, a)) (omega (arith, a))

    balance_plain : Plain u (balance_of F i) all_of
    unfolding balance_of
    balance_plain = let a = linear_under x i hi in plain_over_lem (places F.rows F.cols i) 0 few within (omega (arith, a)) first_plain

    -- 4c and any of the entries, one after another
    worth_along : (ks : List ℕ) → 0 + length ks ≤ 32768 → ((h : ℕ) → h < length ks → get_or ks h 0 < entries F)
        → Worth u (plain_over F (mul binary64 four64 (linear_of F i)) ks) (nothing ⊕ (whole_of u F).linear i ⊙ 4 ⊕ gather (twice u F) ks)
    worth_along ks hn all =
        let a = linear_under x i hi in
        worth_over ks 0 hn all (omega (arith, a)) (as_worth (four_worth (linear_worth x i hi) (omega (arith, a))) (omega arith))

    plain_sum_worth : Worth u (plain_sum F i) all_of
    unfolding plain_sum
    plain_sum_worth = worth_along (places F.rows F.cols i) few within

    -- every plain sum on the way is exact
    pub plain_sums : (t : ℕ) → Worth u (plain_over F (mul binary64 four64 (linear_of F i)) (take t (places F.rows F.cols i)))
        ((whole_of u F).linear i ⊙ 4 ⊕ gather (twice u F) (take t (places F.rows F.cols i)))
    plain_sums t =
        let ks = places F.rows F.cols i in
        as_worth (worth_along (take t ks) (omega (arith, few, take_short t ks)) (within_take t ks within)) (omega arith)

    -- the plain sum is 0 exactly if the error-free sum comes to 0
    pub plain_sum_tells : eq (plain_sum F i) zero64 ≡ balanced F i
    unfolding balanced
    plain_sum_tells = same_test _ _ zero_is (plain_zero balance_plain)
      where
        is : eq (plain_sum F i) zero64 ≡ eqb (all_of.plus + 0) (0 + all_of.less)
        is = eq_worth plain_sum_worth (zero_worth plain_sum_worth.unit)

        zero_is : (eq (plain_sum F i) zero64 ≡ true) ↔ Zero all_of
        zero_is = ((λ e. omega (arith, eqb-true (all_of.plus + 0) (0 + all_of.less) (sym is ∙ e))), λ z. is ∙ eq-eqb (all_of.plus + 0) (0 + all_of.less) (omega arith))

    -- an entry has one end at i, or none
    ends_once : (k : ℕ) → k < entries F → only (touches F i k) (twice u F k) ≈ at_ends (whole_of u F) i k ⊕ at_ends (whole_of u F) i k
    ends_once k h = go (eqb (row_end F k) i) (eqb (column_end F k) i) refl refl
      where
        w : Whole
        w = (whole_of u F).weight k

        go : (a b : Bool) → eqb (row_end F k) i ≡ a → eqb (column_end F k) i ≡ b → only (a || b) (w ⊙ 2) ≈ only a w ⊕ only b w ⊕ (only a w ⊕ only b w)
        go true true ea eb = absurd (x.standard k h (eqb-true (row_end F k) i ea ∙ sym (eqb-true (column_end F k) i eb)))
        go true false ea eb = omega arith
        go false true ea eb = omega arith
        go false false ea eb = omega arith

    -- THE BRIDGE: the sum comes to 0 exactly if the balance is 0
    pub balanced_is : (balanced F i ≡ true) ↔ Zero (balance (whole_of u F) i)
    unfolding balanced
    balanced_is =
        let p = plain_zero balance_plain in
        let g = gather_places S (twice u F) i in
        let d = sum_add (entries F) (λ k. only (touches F i k) (twice u F k)) (at_ends (whole_of u F) i) (at_ends (whole_of u F) i) ends_once in
        ((λ e. omega (arith, p.0 e, g, d)), λ z. p.1 (omega (arith, z, g, d)))

-- where the grade is exact a plain sum tells whether a variable is balanced
pub exact_tells : {F : Field} {i : ℕ} {g : Grade} {y : Float} → Shaped F → i < variables F → g ≡ grade_of F → g ≡ Exact → y ≡ plain_sum F i
    → eq y zero64 ≡ balanced F i
exact_tells {F} {i} S h eg ex ey = rw ey (plain_sum_tells S ((exact_means F S.rows_long).0 (sym eg ∙ ex)).exact i h)
