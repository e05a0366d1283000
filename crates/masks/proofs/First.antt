-- Over any floats: the lowest mask wins of those that no sum is below. Assumes nothing.
use Prim.Native.Nat.{ℕ, zero, suc, ◌<◌}
use mathlib.Core.Path.{◌≡◌, refl, sym, ap, ◌∙◌}
use mathlib.Core.Logic.{◌⊎◌, inl, inr, ⊎_elim}
use mathlib.Core.Bool.{Bool, true, false, cond, false≢true}
use native.Mathlib.Decide.{ℕ_discrete}
use native.Mathlib.Omega.{arith}
use lib.Ieee.{Float, nan, inf, fin, lt, of_bits}
use Rattle.masks.specs.Masks.{Best, top, best_of, lowest, First}
use Rattle.masks.proofs.Order.{below_once, not_below_itself, below_other, not_below_other}

-- NaN and plus infinity are below nothing
below_nothing : (x y : Float) → lt x top ≡ false → lt x y ≡ false
unfolding lt of_bits
below_nothing nan y h = refl
below_nothing (inf true) y h = absurd (false≢true (sym h))
below_nothing (inf false) nan h = refl
below_nothing (inf false) (inf t) h = refl
below_nothing (inf false) (fin t n d) h = refl
below_nothing (fin s m e) y h = absurd (false≢true (sym h))

below_lower : (x y : Float) → lt x y ≡ true → lt y top ≡ true → lt x top ≡ true
unfolding of_bits
below_lower x y h k = ⊎_elim (λ e. absurd (not_nan e)) (λ e. e) (below_other x y top h (below_once y top k))
  where
    not_nan : top ≡ nan → ⊥
    not_nan e = let z : ◌≡◌ {A = ℕ} 0 1 = cc in omega arith

-- the best so far, by its sum
record Ahead (f : ℕ → Float) (n : ℕ) (best : Best) : Type 0 where
  least : (m : ℕ) → m < n → lt (f m) best.sum ≡ false
  lowest : (m : ℕ) → m < best.mask → (f m ≡ nan) ⊎ (lt best.sum (f m) ≡ true)
  sum_is : (best ≡ record { sum = top; mask = 0 }) ⊎ ((best.sum ≡ f best.mask) × (lt best.sum top ≡ true))

module _ (f : ℕ → Float) where
  next_mask : (n : ℕ) (best : Best) → Ahead f n best → Ahead f (suc n) (cond (lt (f n) best.sum) (record { sum = f n; mask = n }) best)
  next_mask n best B = by (lt (f n) best.sum) refl
    where
      by : (b : Bool) → lt (f n) best.sum ≡ b → Ahead f (suc n) (cond b (record { sum = f n; mask = n }) best)
      by true e = record {
        least = λ m h. elim (ℕ_discrete m n) [
          | yes q ↦ rw q (not_below_itself (f n))
          | no q ↦ not_below_other (f n) best.sum (f m) e (B.least m (omega arith))
        ];
        lowest = λ m h. below_other (f n) best.sum (f m) e (B.least m h);
        sum_is = inr (refl, ⊎_elim (λ s. ap (λ (x : Best). lt (f n) x.sum) (sym s) ∙ e) (λ s. below_lower (f n) best.sum e s.1) B.sum_is);
      }
      by false e = record {
        least = λ m h. elim (ℕ_discrete m n) [
          | yes q ↦ rw q e
          | no q ↦ B.least m (omega arith)
        ];
        lowest = B.lowest;
        sum_is = B.sum_is;
      }

  all_masks : (n : ℕ) → Ahead f n (best_of f n)
  unfolding best_of
  all_masks zero = record { least = λ m h. absurd (omega arith); lowest = λ m h. absurd (omega arith); sum_is = inl refl }
  all_masks (suc n) = next_mask n (best_of f n) (all_masks n)

  first_of : (n : ℕ) (best : Best) → Ahead f n best → First f n best.mask
  first_of n best B = ⊎_elim none some B.sum_is
    where
      none : best ≡ record { sum = top; mask = 0 } → First f n best.mask
      none e =
          let not_below : (m : ℕ) → m < n → lt (f m) top ≡ false = λ m h. ap (λ (x : Best). lt (f m) x.sum) (sym e) ∙ B.least m h in
          let zeroth : best.mask ≡ 0 = ap (λ (x : Best). x.mask) e in
          record {
            least = λ m h. below_nothing (f m) (f best.mask) (not_below m h);
            lowest = λ m h. absurd (omega arith);
            below_top = λ m h k. absurd (false≢true (sym (not_below m h) ∙ k));
          }

      some : (best.sum ≡ f best.mask) × (lt best.sum top ≡ true) → First f n best.mask
      some e = record {
        least = λ m h. rw (← e.0) (B.least m h);
        lowest = λ m h. rw (← e.0) (B.lowest m h);
        below_top = λ m h k. rw (← e.0) e.1;
      }

  -- Theorem. Of equal sums the lowest mask wins, and NaN does not.
  pub lowest_first : (n : ℕ) → First f n (lowest f n)
  lowest_first n = first_of n (best_of f n) (all_masks n)
