-- The mask that wins: where every sum is a whole number of a unit it is the lowest of least sum; NaN and plus infinity are passed over,
-- and minus infinity counts as least. Assumes nothing.
use Prim.Native.Nat.{ℕ, zero, suc, ◌+◌, ◌≤◌, ◌<◌}
use mathlib.Core.Path.{◌≡◌, refl, sym, ap, ◌∙◌}
use mathlib.Core.Logic.{◌≢◌}
use mathlib.Core.Bool.{Bool, true, false, cond, true≢false}
use native.Mathlib.Nat.{le_refl}
use native.Mathlib.Omega.{arith}
use native.Mathlib.Decide.{ℕ_discrete}
use lib.Dec.{ltb}
use lib.Ieee.{Float, nan, inf, fin, lt, of_bits}
use borrow.Author.Tests.{ltb-true, ltb-false}
use Rattle.whole.specs.Whole.{Whole}
use Rattle.weights.specs.Counts.{Counts}
use Rattle.weights.specs.Worth.{Worth}
use Rattle.weights.proofs.Worth.{lt_worth}
use Rattle.masks.specs.Masks.{Best, top, best_of, lowest, Won}

below_top : {u : ℕ} (x : Float) {a : Whole} → Worth u x a → lt x top ≡ true
unfolding lt of_bits Counts
below_top nan w = absurd w.is
below_top (inf s) w = absurd w.is
below_top (fin s m e) w = refl

-- the best so far: its mask wins, and its sum is that mask's
record Winning (f : ℕ → Float) (g : ℕ → Whole) (n : ℕ) (best : Best) : Type 0 where
  sum_is : best.sum ≡ f best.mask
  won : Won g n best.mask

module _ {u : ℕ} (f : ℕ → Float) (g : ℕ → Whole) where
  one_mask : Worth u (f 0) (g 0) → Winning f g 1 (best_of f 1)
  unfolding best_of
  one_mask w = rw (below_top (f 0) w) (record {
    sum_is = refl;
    won = record { below = omega arith; least = λ m h. (let e : m ≡ 0 = omega arith in rw e (omega arith)); lowest = λ m h. absurd (omega arith) };
  })

  next_mask : (n : ℕ) → Worth u (f n) (g n) → (best : Best) → Worth u (f best.mask) (g best.mask) → Winning f g n best
      → Winning f g (suc n) (cond (lt (f n) best.sum) (record { sum = f n; mask = n }) best)
  next_mask n w best w' W = by (lt (f n) best.sum) (sym (ap (λ (x : Float). lt (f n) x) W.sum_is ∙ lt_worth w w'))
    where
      by : (b : Bool) → ltb ((g n).plus + (g best.mask).less) ((g best.mask).plus + (g n).less) ≡ b → Winning f g (suc n) (cond b (record { sum = f n; mask = n }) best)
      by true e =
          let l : (g n).plus + (g best.mask).less < (g best.mask).plus + (g n).less = ltb-true _ _ e in
          record {
            sum_is = refl;
            won = record {
              below = omega arith;
              least = λ m h. elim (ℕ_discrete m n) [
                | yes q ↦ rw q (omega arith)
                | no q ↦ omega (arith, W.won.least m (omega arith))
              ];
              lowest = λ m h. omega (arith, W.won.least m h);
            };
          }
      by false e =
          let l : (g best.mask).plus + (g n).less ≤ (g n).plus + (g best.mask).less = ltb-false _ _ e in
          record {
            sum_is = W.sum_is;
            won = record {
              below = omega (arith, W.won.below);
              least = λ m h. elim (ℕ_discrete m n) [
                | yes q ↦ rw q (omega arith)
                | no q ↦ W.won.least m (omega arith)
              ];
              lowest = W.won.lowest;
            };
          }

  all_masks : (n : ℕ) → ((m : ℕ) → m < suc n → Worth u (f m) (g m)) → Winning f g (suc n) (best_of f (suc n))
  unfolding best_of
  all_masks zero w = one_mask (w 0 (omega arith))
  all_masks (suc n) w =
      let W = all_masks n (λ m h. w m (omega arith)) in
      next_mask (suc n) (w (suc n) (omega arith)) (best_of f (suc n)) (w (best_of f (suc n)).mask (omega (arith, W.won.below))) W

  -- Theorem. Where every sum f is worth g, the lowest mask of least g wins.
  pub winner : (n : ℕ) → 0 < n → ((m : ℕ) → m < n → Worth u (f m) (g m)) → Won g n (lowest f n)
  winner zero h w = absurd (omega arith)
  winner (suc n) h w = (all_masks n w).won

-- ---- whatever the sums are

-- Theorem. Where all sums are NaN or plus infinity, mask 0 wins.
pub none_below_top : (f : ℕ → Float) (n : ℕ) → ((m : ℕ) → m < n → lt (f m) top ≡ false) → best_of f n ≡ record { sum = top; mask = 0 }
unfolding best_of
none_below_top f zero h = refl
none_below_top f (suc n) h = rw (none_below_top f n (λ m l. h m (omega arith)), h n (omega arith))

-- a sum that is some mask's or plus infinity, and not minus infinity, is above minus infinity
above_bottom : (x : Float) → x ≢ nan → x ≢ inf true → lt (inf true) x ≡ true
unfolding lt
above_bottom nan a b = absurd (a refl)
above_bottom (inf true) a b = absurd (b refl)
above_bottom (inf false) a b = refl
above_bottom (fin s m e) a b = refl

not_below : (x : Float) → lt x (inf true) ≡ false
unfolding lt
not_below nan = refl
not_below (inf true) = refl
not_below (inf false) = refl
not_below (fin s m e) = refl

nan_not_below : (y : Float) → lt nan y ≡ false
unfolding lt
nan_not_below y = refl

module _ (f : ℕ → Float) (m : ℕ) (bottom : f m ≡ inf true) (first_one : (k : ℕ) → k < m → f k ≢ inf true) where
  before_bottom : (n : ℕ) → n ≤ m → ((best_of f n).sum ≢ nan) × ((best_of f n).sum ≢ inf true)
  unfolding best_of of_bits
  before_bottom zero h = ((λ e. let z : ◌≡◌ {A = ℕ} 0 1 = cc in omega arith), (λ e. different e))
    where
      different : inf false ≡ inf true → ⊥
      different e = let z : ◌≡◌ {A = ℕ} 0 1 = cc in omega arith
  before_bottom (suc n) h = by (lt (f n) (best_of f n).sum) refl (before_bottom n (omega arith))
    where
      by : (b : Bool) → lt (f n) (best_of f n).sum ≡ b → ((best_of f n).sum ≢ nan) × ((best_of f n).sum ≢ inf true)
          → ((cond b (record { sum = f n; mask = n }) (best_of f n)).sum ≢ nan) × ((cond b (record { sum = f n; mask = n }) (best_of f n)).sum ≢ inf true)
      by true e s = ((λ q. true≢false (sym e ∙ ap (λ (x : Float). lt x (best_of f n).sum) q ∙ nan_not_below (best_of f n).sum)), first_one n h)
      by false e s = s

  -- Theorem. Minus infinity is least: the lowest mask of that sum wins.
  pub bottom_wins : (d : ℕ) → best_of f (m + suc d) ≡ record { sum = inf true; mask = m }
  unfolding best_of
  bottom_wins zero =
      let b = before_bottom m (le_refl m) in
      let e : m + 1 ≡ suc m = omega arith in
      rw (e, bottom, above_bottom (best_of f m).sum b.0 b.1)
  bottom_wins (suc d) = let e : m + suc (suc d) ≡ suc (m + suc d) = omega arith in rw (e, bottom_wins d, not_below (f (m + suc d)))
