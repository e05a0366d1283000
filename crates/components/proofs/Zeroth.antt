-- The mask of no bit sums to 0.0, and wins where every other sum is NaN or plus infinity. Assumes nothing.
use Prim.Native.Nat.{ℕ, zero, suc, ◌%◌, ◌^◌, ◌<◌, ◌≤◌}
use mathlib.Core.Path.{◌≡◌, refl, sym, ap, ◌∙◌}
use mathlib.Core.Bool.{Bool, true, false, cond, ◌&&◌, false≢true}
use mathlib.Core.List.{List, [], ◌∷◌, ◌++◌}
use native.Mathlib.Nat.{zero-div}
use native.Mathlib.Omega.{arith}
use lib.Bits.{bit_or}
use lib.Dec.{eqb, ltb}
use lib.Pow.{pow_pos}
use lib.ListN.{length, get_or}
use lib.Ieee.{Float, nan, inf, fin, lt, of_bits}
use Rattle.weights.specs.Worth.{zero64}
use Rattle.field.specs.declared.Grade.{Grade}
use Rattle.field.specs.Field.{Field, entries}
use Rattle.calls.proofs.Values as values
use Rattle.rows.specs.Model.{coeff_of}
use Rattle.parts.specs.Walk.{components}
use Rattle.masks.specs.Masks.{Term, term, has, plus, sum_at, objective, Best, top, best_of, lowest, HasBits}
use Rattle.masks.proofs.Digits.{has_bit, has_both}
use Rattle.enumeration.specs.Terms.{entry_of, linear_terms, term_at, pair_term, column_terms, pair_terms, terms_of, mask_of}
use Rattle.components.specs.Call.{components_call}
use Rattle.components.proofs.Small.{has_bits}
use Rattle.components.proofs.Demands.{values_are}
use Rattle.std.specs.Prelude.{Ok}

-- ---- the sum of no bit

-- none of the terms counts in the mask of no bit
record Unmet (ts : List Term) : Type 0 where
  sum : (x : Float) → sum_at 0 x ts ≡ x

unmet_none : Unmet []
unfolding sum_at
unmet_none = record { sum = λ x. refl }

unmet_one : (r : ℕ) (v : Float) → has 0 r ≡ false → Unmet (term r v ∷ [])
unfolding sum_at plus
unmet_one r v e = record { sum = λ x. rw e refl }

sum_then : (ts us : List Term) (x : Float) → sum_at 0 x (ts ++ us) ≡ sum_at 0 (sum_at 0 x ts) us
unfolding sum_at
sum_then [] us x = refl
sum_then (t ∷ ts) us x = sum_then ts us (plus 0 x t)

unmet_then : {ts us : List Term} → Unmet ts → Unmet us → Unmet (ts ++ us)
unmet_then {ts} {us} p q = record { sum = λ x. sum_then ts us x ∙ ap (λ (y : Float). sum_at 0 y us) (p.sum x) ∙ q.sum x }

no_bit : (b : ℕ) → has 0 (2 ^ b) ≡ false
no_bit b = has_bit 0 b ∙ ap (λ (x : ℕ). eqb (x % 2) 1) (zero-div (2 ^ b))

module _ (F : Field) (s members : List ℕ) where
  linear_unmet : (b : ℕ) → Unmet (linear_terms F s members b)
  unfolding linear_terms
  linear_unmet zero = unmet_none
  linear_unmet (suc b) = unmet_then (linear_unmet b) (unmet_one (2 ^ b) _ (no_bit b))

  pair_unmet : (b a : ℕ) → Unmet (pair_term F members b a)
  unfolding pair_term term_at
  pair_unmet b a = by (ltb (entry_of F (get_or members a 0) (get_or members b 0)) (entries F))
    where
      by : (c : Bool) → Unmet (cond c (term (bit_or (2 ^ a) (2 ^ b)) (coeff_of F (entry_of F (get_or members a 0) (get_or members b 0))) ∷ []) [])
      by true = unmet_one (bit_or (2 ^ a) (2 ^ b)) _ (has_both 0 (2 ^ a) (2 ^ b) ∙ ap (λ (x : Bool). x && has 0 (2 ^ b)) (no_bit a))
      by false = unmet_none

  column_unmet : (b a : ℕ) → Unmet (column_terms F members b a)
  unfolding column_terms
  column_unmet b zero = unmet_none
  column_unmet b (suc a) = unmet_then (column_unmet b a) (pair_unmet b a)

  pairs_unmet : (b : ℕ) → Unmet (pair_terms F members b)
  unfolding pair_terms
  pairs_unmet zero = unmet_none
  pairs_unmet (suc b) = unmet_then (pairs_unmet b) (column_unmet b (length members))

  -- Theorem. The mask of no bit has the objective 0.0, since no term counts in it.
  pub zeroth_sum : objective (terms_of F s members) 0 ≡ zero64
  unfolding terms_of
  zeroth_sum = (unmet_then (linear_unmet (length members)) (pairs_unmet (length members))).sum zero64

-- ---- the mask of no bit wins

not_below_zero : (x : Float) → lt x top ≡ false → lt x zero64 ≡ false
unfolding lt of_bits
not_below_zero nan h = refl
not_below_zero (inf true) h = absurd (false≢true (sym h))
not_below_zero (inf false) h = refl
not_below_zero (fin s m e) h = absurd (false≢true (sym h))

abbrev none_yet : Best
none_yet = record { sum = zero64; mask = 0 }

still_best : (x : Float) (n : ℕ) (b : Best) → b ≡ none_yet → lt x zero64 ≡ false → cond (lt x b.sum) (record { sum = x; mask = n }) b ≡ none_yet
still_best x n b e k = rw (e, k) refl

first_best : (x : Float) → x ≡ zero64 → cond (lt x top) (record { sum = x; mask = 0 }) (record { sum = top; mask = 0 }) ≡ none_yet
unfolding lt of_bits
first_best x e = rw e refl

zeroth_best : (f : ℕ → Float) → f 0 ≡ zero64 → (n : ℕ) → ((m : ℕ) → 0 < m → m < suc n → lt (f m) top ≡ false) → best_of f (suc n) ≡ none_yet
unfolding best_of
zeroth_best f z zero h = first_best (f 0) z
zeroth_best f z (suc n) h =
    still_best (f (suc n)) (suc n) (best_of f (suc n)) (zeroth_best f z n (λ m p l. h m p (omega arith))) (not_below_zero (f (suc n)) (h (suc n) (omega arith) (omega arith)))

-- Theorem. Where all sums but that of mask 0, which is 0.0, are NaN or plus infinity, mask 0 wins.
pub zeroth_wins : (F : Field) (s members : List ℕ) → ((m : ℕ) → 0 < m → m < 2 ^ length members → lt (objective (terms_of F s members) m) top ≡ false) → mask_of F s members ≡ 0
unfolding mask_of
zeroth_wins F s members h = by (2 ^ length members) (pow_pos (length members)) h
  where
    by : (n : ℕ) → 0 < n → ((m : ℕ) → 0 < m → m < n → lt (objective (terms_of F s members) m) top ≡ false) → lowest (objective (terms_of F s members)) n ≡ 0
    by zero p k = absurd (omega arith)
    by (suc n) p k = ap (λ (x : Best). x.mask) (zeroth_best (objective (terms_of F s members)) (zeroth_sum F s members) n k)

-- ---- the call

-- Theorem. A component of at most 10 of which every mask but 0 sums to NaN or plus infinity gets 0 everywhere.
pub all_zero : (F : Field) (s : List ℕ) (f : List Float) (u : List ℕ) (g : Grade) → (components_call F s f u).answer ≡ Ok g
    → (p : ℕ) → p < length (components F true s) → (let K = get_or (components F true s) p [] in length K ≤ 10
    → ((m : ℕ) → 0 < m → m < 2 ^ length K → lt (objective (terms_of F s K) m) top ≡ false) → HasBits (components_call F s f u).lent.values K 0)
all_zero F s f u g e p h few none =
    let S = (values.ready _ F s f u g e).sound in
    let K = get_or (components F true s) p [] in
    rw (values_are F s f u g e) (rw (zeroth_wins F s K none) at (has_bits S.shaped s S.start.long p h few))
