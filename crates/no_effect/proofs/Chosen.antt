-- The numbers that pass a test: how one goes to a list's front, and how a loop that counts up puts all there. Assumes nothing.
use Prim.Native.Nat.{ℕ, zero, suc, ◌+◌, ◌-◌, ◌<◌, ◌≤◌}
use mathlib.Core.Path.{◌≡◌, refl, sym, ap, ◌∙◌}
use mathlib.Core.Logic.{◌≢◌}
use mathlib.Core.Bool.{Bool, true, false, cond}
use mathlib.Core.List.{List, ◌∷◌}
use native.Mathlib.Numerals.{add-one}
use native.Mathlib.Omega.{arith}
use borrow.Author.Tests.{eq-eqb, ne_eqb, not-true, not-false}
use lib.ListN.{length, get_or, set, length-set}
use lib.Seq.{sets, set_out}
use lib.Ieee.{Float, nan, ne}
use Rattle.weights.specs.Worth.{zero64}
use Rattle.scratch.proofs.All.{and_yes, and_no}
use Rattle.no_effect.specs.Putting.{chosen_from, chosen, Putting, putting, put_at, put_all}
use Rattle.no_effect.specs.Effect.{idle}

-- ---- one number

module _ {b : Bool} (i : ℕ) (l : List ℕ) (k : ℕ) where
  pub passed_over : b ≡ false → putting l k ≡ put_at b i (putting l k)
  unfolding put_at
  passed_over e = rw e

  pub goes_in : b ≡ true → putting (set l k i) (k + 1) ≡ put_at b i (putting l k)
  unfolding put_at
  goes_in e = rw e

  -- past its end a list does not change
  pub counted_only : length l ≤ k → b ≡ true → putting l (k + 1) ≡ put_at b i (putting l k)
  unfolding put_at
  counted_only h e = rw (e, set_out l k i h)

-- ---- as the code tests it

module _ (c : List Float) (u : List ℕ) (i : ℕ) where
  pub marked_not : get_or u i 0 ≢ 0 → idle c u i ≡ false
  marked_not n = sym (and_no _ (ne_eqb (get_or u i 0) 0 n))

  pub weighs_not : get_or u i 0 ≡ 0 → ne (get_or c i nan) zero64 ≡ true → idle c u i ≡ false
  unfolding ne
  weighs_not z e = sym (and_yes (eq-eqb (get_or u i 0) 0 z) (sym (not-true _ e)))

  pub is_idle : get_or u i 0 ≡ 0 → ne (get_or c i nan) zero64 ≡ false → idle c u i ≡ true
  unfolding ne
  is_idle z e = sym (and_yes (eq-eqb (get_or u i 0) 0 z) (sym (not-false _ e)))

-- ---- all numbers

-- what is left to go into l at place k is what went into l₀ at its front
pub record Fills (p : ℕ → Bool) (n : ℕ) (l₀ : List ℕ) (i : ℕ) (l : List ℕ) (k : ℕ) : Type 0 where
  pub within : i ≤ n
  pub behind : k ≤ i
  pub long : length l ≡ length l₀
  pub rest : sets l k (chosen_from p i (n - i)) ≡ sets l₀ 0 (chosen p n)
  pub total : k + length (chosen_from p i (n - i)) ≡ length (chosen p n)

module _ {p : ℕ → Bool} {n : ℕ} {l₀ : List ℕ} where
  pub fills_start : Fills p n l₀ 0 l₀ 0
  fills_start = let e : n - 0 ≡ n = omega arith in record { within = omega arith; behind = omega arith; long = refl; rest = rw e refl; total = rw e (omega arith) }

  pub fills_turn : {i k k' : ℕ} {l l' : List ℕ} → Fills p n l₀ i l k → i < n → putting l' k' ≡ put_at (p i) i (putting l k) → Fills p n l₀ (i + 1) l' k'
  unfolding put_at chosen_from
  fills_turn {i} {k} {k'} {l} {l'} now h e =
      let step : n - i ≡ suc (n - suc i) = omega arith in
      rw add-one (by (p i) (ap (λ (s : Putting). s.list) e) (ap (λ (s : Putting). s.count) e) (rw step at now.rest) (rw step at now.total))
    where
      by : (b : Bool) → l' ≡ (cond b (putting (set l k i) (k + 1)) (putting l k)).list → k' ≡ (cond b (putting (set l k i) (k + 1)) (putting l k)).count
          → sets l k (cond b (i ∷ chosen_from p (suc i) (n - suc i)) (chosen_from p (suc i) (n - suc i))) ≡ sets l₀ 0 (chosen p n)
          → k + length (cond b (i ∷ chosen_from p (suc i) (n - suc i)) (chosen_from p (suc i) (n - suc i))) ≡ length (chosen p n) → Fills p n l₀ (suc i) l' k'
      by true el ek rest total = let one : k' ≡ suc k = omega arith in
          record { within = h; behind = omega (arith, now.behind); long = ap length el ∙ length-set l k i ∙ now.long; rest = rw (el, one) rest; total = omega arith }
      by false el ek rest total = record { within = h; behind = omega (arith, now.behind); long = ap length el ∙ now.long; rest = rw (el, ek) rest; total = omega arith }

  pub fills_done : {i k : ℕ} {l : List ℕ} → Fills p n l₀ i l k → n ≤ i → putting l k ≡ put_all p n l₀
  unfolding put_all chosen_from
  fills_done {i} {k} {l} now h =
      let z : n - i ≡ 0 = omega arith in
      let count : k ≡ length (chosen p n) = omega (arith, rw z at now.total) in
      rw (rw z at now.rest, count)

-- tests that agree choose the same
pub chosen_same : (p q : ℕ → Bool) (i k : ℕ) → ((j : ℕ) → j < i + k → p j ≡ q j) → chosen_from p i k ≡ chosen_from q i k
unfolding chosen_from
chosen_same p q i zero h = refl
chosen_same p q i (suc k) h = rw (h i (omega arith), chosen_same p q (suc i) k (λ j l. h j (omega arith)))
