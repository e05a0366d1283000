-- What a test at every number below a bound means, and how a loop that counts up answers it. Assumes nothing.
use Prim.Native.Nat.{ℕ, zero, suc, ◌+◌, ◌<◌, ◌≤◌}
use mathlib.Core.Path.{◌≡◌, refl, sym, ◌∙◌, ap, subst}
use mathlib.Core.Bool.{Bool, true, false, ◌&&◌, false≢true}
use mathlib.Core.Logic.{⊎_elim, ◌↔◌}
use native.Mathlib.Nat.{le_of_suc-le-suc, eq-or-lt_of_le, le_antisymm}
use native.Mathlib.Numerals.{add-one}
use native.Mathlib.Omega.{arith}
use Rattle.scratch.specs.All.{all_below, Passing, Testing}

-- ---- two tests, one after the other

pub both : (a b : Bool) → (a && b) ≡ true → (a ≡ true) × (b ≡ true)
both true b e = (refl, e)
both false b e = absurd (false≢true e)

pub and_yes : {a b x : Bool} → a ≡ true → x ≡ b → x ≡ (a && b)
and_yes e h = rw e h

pub and_no : {a : Bool} (b : Bool) → a ≡ false → false ≡ (a && b)
and_no b e = rw e

false_and : (a b : Bool) → b ≡ false → (a && b) ≡ false
false_and true b e = e
false_and false b e = refl

and_swap : (a b : Bool) → (a && b) ≡ (b && a)
and_swap true true = refl
and_swap true false = refl
and_swap false true = refl
and_swap false false = refl

-- ---- a test at every number

below_or_last : {k n : ℕ} (P : ℕ → Type 0) → ((j : ℕ) → j < n → P j) → P n → k < suc n → P k
below_or_last P h last l = ⊎_elim (λ e. subst P (sym e) last) (λ b. h _ b) (eq-or-lt_of_le (le_of_suc-le-suc l))

module _ (p : ℕ → Bool) where
  means : (n : ℕ) → all_below p n ≡ true → (k : ℕ) → k < n → p k ≡ true
  unfolding all_below
  means zero e k l = absurd (omega arith)
  means (suc n) e k l = let t = both (p n) (all_below p n) e in below_or_last (λ j. p j ≡ true) (means n t.1) t.0 l

  from : (n : ℕ) → ((k : ℕ) → k < n → p k ≡ true) → all_below p n ≡ true
  unfolding all_below
  from zero h = refl
  from (suc n) h = sym (and_yes (h n (omega arith)) (sym (from n (λ k l. h k (omega arith)))))

  -- the test says that each number passes
  pub all_means : (n : ℕ) → (all_below p n ≡ true) ↔ ((k : ℕ) → k < n → p k ≡ true)
  all_means n = (means n, from n)

  fails : (n k : ℕ) → k < n → p k ≡ false → all_below p n ≡ false
  unfolding all_below
  fails zero k l e = absurd (omega arith)
  fails (suc n) k l e =
      below_or_last (λ j. p j ≡ false → (p n && all_below p n) ≡ false) (λ j b f. false_and (p n) _ (fails n j b f)) (λ f. sym (and_no _ f)) l e

  -- ---- the loop: it starts, takes a turn, stops at a number that fails, and comes to the end

  pub all_start : (n : ℕ) → Passing p n 0
  unfolding all_below
  all_start n = record { within = omega arith; so_far = refl }

  pub all_turn : {n k : ℕ} → Passing p n k → k < n → p k ≡ true → Passing p n (k + 1)
  unfolding all_below
  all_turn now l e = record { within = omega arith; so_far = rw add-one (sym (and_yes e (sym now.so_far))) }

  pub all_stop : {n : ℕ} (k : ℕ) → k < n → p k ≡ false → false ≡ all_below p n
  all_stop {n} k l e = sym (fails n k l e)

  pub all_done : {n k : ℕ} → Passing p n k → n ≤ k → true ≡ all_below p n
  all_done now l = sym now.so_far ∙ ap (all_below p) (le_antisymm now.within l)

  -- ---- the loop that tests every number: it starts, takes a turn, and comes to the end

  pub testing_start : (n : ℕ) → Testing p n 0 true
  unfolding all_below
  testing_start n = record { within = omega arith; so_far = refl }

  pub testing_turn : {n k : ℕ} {all passes : Bool} → Testing p n k all → k < n → passes ≡ p k → Testing p n (k + 1) (all && passes)
  unfolding all_below
  testing_turn {k = k} {all = all} {passes = passes} now l e =
      record { within = omega arith; so_far = rw add-one (and_swap all passes ∙ ap (λ b. b && all) e ∙ ap (λ b. p k && b) now.so_far) }

  pub testing_done : {n k : ℕ} {all : Bool} → Testing p n k all → n ≤ k → all ≡ all_below p n
  testing_done now l = now.so_far ∙ ap (all_below p) (le_antisymm now.within l)
