-- The gap as it is worked: fixed ends go into the linear parts first, then the free neighbours are counted one by one. Assumes nothing.
use mathlib.Core.Path.{◌≡◌, refl, ◌∙◌}
use mathlib.Core.Bool.{Bool}
use mathlib.Core.List.{List}
use Prim.Native.Nat.{ℕ, zero, suc, ◌≤◌}
use native.Mathlib.Decide.{ℕ_discrete}
use native.Mathlib.Omega.{arith}
use lib.ListN.{get_or}
use lib.Dec.{eqb}
use borrow.Author.Tests.{eq-eqb, ne_eqb}
use Rattle.whole.specs.Whole.{Whole, ◌⊕◌, only, sum, ◌≈◌}
use Rattle.whole.proofs.Sums.{sum_add}
use Rattle.meaning.specs.Steps.{Valid}
use Rattle.meaning.specs.Field.{Field, Within}
use Rattle.meaning.specs.Gradient.{share}
use Rattle.meaning.specs.Pair.{merged, signed, own, pull, pull_part, gap, settled, third}
use Rattle.meaning.proofs.Merged.{signed_add, signed_only, signed_sum, settled_merged}

module _ (free : Whole → Whole) (a b : Bool) (F : Field) (s : List ℕ) (valid : Valid s) (i j : ℕ) (fi : get_or s i 0 ≡ 2) (fj : get_or s j 0 ≡ 2) where
  -- the weight between x and k where k is 1
  abbrev one : ℕ → ℕ → Whole
  one x k = only (eqb (get_or s k 0) 1) (merged F x k)

  -- what a free k counts
  abbrev freed : ℕ → Whole
  freed k = only (third s i j k) (free (pull a b F i j k))

  term : (k : ℕ) → pull_part free (pull a b F i j) s i j k ≈ signed a (one i k) ⊕ signed b (one j k) ⊕ freed k
  unfolding share
  term k = rw (signed_only a (eqb (get_or s k 0) 1) (merged F i k), signed_only b (eqb (get_or s k 0) 1) (merged F j k)) (go (ℕ_discrete k i) (ℕ_discrete k j))
    where
      value : (v : ℕ) → v ≤ 2 → share (free (pull a b F i j k)) (pull a b F i j k) v
          ≈ only (eqb v 1) (signed a (merged F i k)) ⊕ only (eqb v 1) (signed b (merged F j k)) ⊕ only (eqb v 2) (free (pull a b F i j k))
      value zero h = omega arith
      value (suc zero) h = omega arith
      value (suc (suc zero)) h = omega arith
      value (suc (suc (suc v))) h = absurd (omega arith)

      go : Dec (k ≡ i) → Dec (k ≡ j) → pull_part free (pull a b F i j) s i j k
          ≈ only (eqb (get_or s k 0) 1) (signed a (merged F i k)) ⊕ only (eqb (get_or s k 0) 1) (signed b (merged F j k)) ⊕ freed k
      go (yes p) d = rw (p, fi, eq-eqb i i refl) (omega arith)
      go (no p) (yes q) = rw (q, fj, eq-eqb j j refl, ne_eqb j i (λ z. p (q ∙ z))) (omega arith)
      go (no p) (no q) = rw (ne_eqb k i p, ne_eqb k j q) (value (get_or s k 0) (valid k))

  pub gap_worked : Within F → gap free a b F s i j
      ≈ signed a (settled F s i) ⊕ signed b (settled F s j) ⊕ own a b (merged F i j) ⊕ sum F.n (λ k. only (third s i j k) (free (pull a b F i j k)))
  gap_worked fits =
      omega (
        arith,
        sum_add F.n (pull_part free (pull a b F i j) s i j) (λ k. signed a (one i k) ⊕ signed b (one j k)) freed (λ k h. term k),
        sum_add F.n (λ k. signed a (one i k) ⊕ signed b (one j k)) (λ k. signed a (one i k)) (λ k. signed b (one j k)) (λ k h. refl),
        signed_sum a F.n (one i),
        signed_sum b F.n (one j),
        ends a i,
        ends b j,
      )
    where
      -- the linear part of an end
      ends : (c : Bool) (x : ℕ) → signed c (settled F s x) ≈ signed c (F.linear x) ⊕ signed c (sum F.n (one x))
      ends c x = signed_add c (settled F s x) (F.linear x) (sum F.n (one x)) (settled_merged F fits s valid x)
