-- THE SUM AS A NUMBER: where no f64 sum on the way overflows, what is added at a variable comes to 4c and q of each entry, 2q on the diagonal. Assumes nothing.
use Prim.Native.Nat.{ℕ, suc, ◌+◌, ◌<◌, ◌≤◌}
use mathlib.Core.Path.{◌≡◌, refl, sym, ◌∙◌}
use mathlib.Core.Logic.{◌↔◌}
use mathlib.Core.Bool.{Bool, true, false, cond, false≢true}
use mathlib.Core.List.{List, [], ◌∷◌, ◌++◌}
use native.Mathlib.Omega.{arith}
use lib.Dec.{T}
use lib.ListN.{length, get_or, take, length-append}
use lib.Ieee.{Float, binary64, mul, ne}
use lib.Ieee.Scale.{finite}
use Rattle.whole.specs.Whole.{◌⊕◌, ◌⊙◌, ◌≈◌, Zero}
use Rattle.weights.specs.Worth.{read, zero64, four64}
use Rattle.scratch.proofs.All.{both}
use Rattle.expansion.specs.Sum.{parts, invalid, plus, comes_to_zero}
use Rattle.expansion.specs.Exact.{Number, total, add_all, Totals, overflown}
use Rattle.expansion.specs.Overflow.{sums_from, all_finite, Valid, Overflows}
use Rattle.expansion.proofs.Exact.{zero_test, number_worth, totals_as}
use Rattle.expansion.proofs.Ladder.{sum_from_none}
use Rattle.expansion.proofs.Overflow.{all_append, invalid_when, valid_parts, valid_finite, parts_few}
use Rattle.expansion.proofs.Scaling.{twice_read, four_read}
use Rattle.field.specs.Field.{Field, variables, entries, linear_of, quad_of, Shaped}
use Rattle.field.specs.Tests.{Finite}
use Rattle.places.specs.Places.{places}
use Rattle.places.proofs.Places.{places_le, places_touch}
use Rattle.anchors.specs.Sums.{on_diagonal, doubled, balance_over, balance_of, balanced}
use Rattle.anchors.specs.Rule.{terms_at, terms_over, terms}
use Rattle.anchors.specs.Number.{entry_of, sum_of, HeldField, gather}
use Rattle.anchors.proofs.Balance.{gather_places, take_short}
use Rattle.anchors.proofs.Certain.{balance_over_lem, balance_terms, held_terms, balance_certain, balance_exactly}

told : (b : Bool) → b ≡ true → T b
told true e = tt
told false e = absurd (false≢true e)

total_append : (l r : List Float) → total (l ++ r) ≈ total l ⊕ total r
unfolding total
total_append [] r = omega arith
total_append (x ∷ l) r = omega (arith, total_append l r)

-- ---- what is added, as numbers

module _ {F : Field} (S : Shaped F) (fine : Finite F) (h : HeldField F) where
  quad_number : (k : ℕ) → k < entries F → Number (quad_of F k)
  quad_number k l = record { held = h.quad k l; finite_one = fine.quad k l }

  at_number : (k : ℕ) → k < entries F → all_finite (terms_at F k) ≡ true → total (terms_at F k) ≈ entry_of F k
  unfolding terms_at total all_finite
  at_number k l = go (on_diagonal F k) (ne (quad_of F k) zero64) refl
    where
      q : Float
      q = quad_of F k

      n : Number (quad_of F k)
      n = quad_number k l

      go : (b d : Bool) → ne q zero64 ≡ d → all_finite (cond b (doubled F k ∷ []) (cond d (q ∷ []) [])) ≡ true
          → total (cond b (doubled F k ∷ []) (cond d (q ∷ []) [])) ≈ cond b (read 0 q ⊙ 2) (read 0 q)
      go true d z e = omega (arith, twice_read n (told (finite (doubled F k)) (both (finite (doubled F k)) true e).0))
      go false true z e = omega arith
      go false false z e = omega (arith, (zero_test (number_worth n)).0 z)

  over_number : (ks : List ℕ) → ((x : ℕ) → x < length ks → get_or ks x 0 < entries F) → all_finite (terms_over F ks) ≡ true → total (terms_over F ks) ≈ gather (entry_of F) ks
  unfolding terms_over total gather
  over_number [] all e = omega arith
  over_number (k ∷ ks) all e =
      let b = both (all_finite (terms_at F k)) (all_finite (terms_over F ks)) (sym (all_append (terms_at F k) (terms_over F ks)) ∙ e) in
      omega (arith, total_append (terms_at F k) (terms_over F ks), at_number k (all 0 (omega arith)) b.0, over_number ks (λ x l. all (suc x) (omega arith)) b.1)

  module _ (i : ℕ) (hi : i < variables F) where
    abbrev ks : List ℕ
    ks = places F.rows F.cols i

    pub terms_number : Valid (terms F i) → total (terms F i) ≈ sum_of F i
    unfolding terms total all_finite
    terms_number v =
        let b = both (finite (mul binary64 four64 (linear_of F i))) (all_finite (terms_over F ks)) (valid_finite (terms F i) v) in
        let n : Number (linear_of F i) = record { held = h.linear i hi; finite_one = fine.linear i hi } in
        omega (
          arith,
          four_read n (told (finite (mul binary64 four64 (linear_of F i))) b.0),
          over_number ks (λ x l. omega (arith, (places_touch F.rows F.cols i x l).0, S.rows_long)) b.1,
          gather_places S (entry_of F) i,
        )

-- ---- the sum

-- invalid exactly where a sum on the way is not finite
pub balance_invalid : (F : Field) (i : ℕ) → (balance_of F i ≡ invalid) ↔ Overflows (terms F i)
balance_invalid F i = rw (balance_terms F i) (invalid_when (terms F i))

zero_valid : (F : Field) (i : ℕ) → balanced F i ≡ true → Valid (terms F i)
unfolding balanced comes_to_zero
zero_valid F i e = go (all_finite (sums_from [] (terms F i))) refl
  where
    go : (b : Bool) → all_finite (sums_from [] (terms F i)) ≡ b → b ≡ true
    go true v = refl
    go false v = let z : comes_to_zero invalid ≡ true = rw ((balance_invalid F i).1 v) at e in absurd (false≢true z)

module _ {F : Field} (S : Shaped F) (fine : Finite F) (h : HeldField F) (i : ℕ) (hi : i < variables F) where
  pub balance_number : Totals (balance_of F i) (sum_of F i)
  balance_number = go (all_finite (sums_from [] (terms F i))) refl
    where
      go : (b : Bool) → all_finite (sums_from [] (terms F i)) ≡ b → Totals (balance_of F i) (sum_of F i)
      go true v = totals_as (rw (balance_terms F i) (sum_from_none (held_terms S h.quad i))) (terms_number S fine h i hi v)
      go false v = rw ((balance_invalid F i).1 v) overflown

  pub balanced_number : (balanced F i ≡ true) ↔ (Valid (terms F i) × Zero (sum_of F i))
  balanced_number = (to, from)
    where
      to : balanced F i ≡ true → Valid (terms F i) × Zero (sum_of F i)
      to e = let v = zero_valid F i e in (v, omega (arith, terms_number S fine h i hi v, balance_certain S h.quad i e))

      from : Valid (terms F i) × Zero (sum_of F i) → balanced F i ≡ true
      from p =
          let r = valid_parts (terms F i) p.0 in
          (balance_exactly S h.quad i (balance_terms F i ∙ r.1)).1 (omega (arith, terms_number S fine h i hi p.0, p.1))

-- ---- how many parts it has

at_short : (F : Field) (k : ℕ) → length (terms_at F k) ≤ 1
unfolding terms_at
at_short F k = go (on_diagonal F k) (ne (quad_of F k) zero64)
  where
    go : (b d : Bool) → length (cond b (doubled F k ∷ []) (cond d (quad_of F k ∷ []) [])) ≤ 1
    go true d = omega arith
    go false true = omega arith
    go false false = omega arith

over_short : (F : Field) (ks : List ℕ) → length (terms_over F ks) ≤ length ks
unfolding terms_over
over_short F [] = omega arith
over_short F (k ∷ ks) = omega (arith, length-append (terms_at F k) (terms_over F ks), at_short F k, over_short F ks)

pub balance_short : {F : Field} → Shaped F → (i t : ℕ) {r : List Float}
    → balance_over F (plus (mul binary64 four64 (linear_of F i)) (parts [])) (take t (places F.rows F.cols i)) ≡ parts r → length r ≤ entries F + 1
unfolding add_all
balance_short {F} S i t {r} e =
    let ks = take t (places F.rows F.cols i) in
    let four = mul binary64 four64 (linear_of F i) in
    let n : length r ≤ length (four ∷ terms_over F ks) = parts_few (four ∷ terms_over F ks) (sym (balance_over_lem F (plus four (parts [])) ks) ∙ e) in
    omega (arith, n, over_short F ks, take_short t (places F.rows F.cols i), places_le F.rows F.cols i, S.rows_long)
