-- Counts of the numbers that pass a test, and of the literals that one reaches. Assumes nothing.
use mathlib.Core.Path.{◌≡◌, refl, sym, ap, ◌∙◌}
use mathlib.Core.Logic.{⊎_elim, ◌↔◌}
use mathlib.Core.Bool.{Bool, true, false, cond}
use mathlib.Core.List.{List, [], ◌∷◌}
use Prim.Native.Nat.{ℕ, zero, suc, ◌+◌, ◌*◌, ◌-◌, ◌/◌, ◌%◌, ◌<◌, ◌≤◌}
use native.Mathlib.Nat.{add-zero, add-suc}
use native.Mathlib.Numerals.{add-one}
use native.Mathlib.Omega.{arith}
use lib.Dec.{eqb}
use lib.ListN.{length}
use Rattle.meaning.specs.Free.{is_free, frees}
use Rattle.meaning.specs.Literal.{Implication}
use Rattle.meaning.proofs.Literal.{Fits}
use Rattle.reaching.specs.Reach.{Reach, CountIs, none, one_more, passed_over}
use Rattle.reaching.specs.Via.{bit, reaches, count_below}
use Rattle.reaching.proofs.Truth.{not_both, true_or_false}
use Rattle.reaching.proofs.Via.{reaches_at, reach_within}

pub count_same : (p q : ℕ → Bool) (n : ℕ) → ((i : ℕ) → i < n → p i ≡ q i) → count_below p n ≡ count_below q n
unfolding count_below
count_same p q zero h = refl
count_same p q (suc n) h = rw (count_same p q n (λ i l. h i (omega arith)), h n (omega arith)) refl

pub count_add : (p : ℕ → Bool) (m n : ℕ) → count_below p (m + n) ≡ count_below p m + count_below (λ i. p (m + i)) n
unfolding count_below
count_add p m zero = let e : m + 0 ≡ m = omega arith in rw e (omega arith)
count_add p m (suc n) = ap (λ (k : ℕ). count_below p k) (add-suc m n) ∙ omega (arith, count_add p m n)

pub count_most : (p : ℕ → Bool) (n : ℕ) → count_below p n ≤ n
unfolding count_below
count_most p zero = omega arith
count_most p (suc n) = omega (arith, count_most p n, small (p n))
  where
    small : (b : Bool) → bit b ≤ 1
    small true = omega arith
    small false = omega arith

pub count_none : (p : ℕ → Bool) (n : ℕ) → ((i : ℕ) → i < n → p i ≡ false) → count_below p n ≡ 0
unfolding count_below
count_none p zero h = refl
count_none p (suc n) h = rw (count_none p n (λ i l. h i (omega arith)), h n (omega arith)) refl

-- a test that passes exactly where P holds counts what has P
pub count_means : (p : ℕ → Bool) (P : ℕ → Type 0) (n : ℕ) → ((i : ℕ) → (p i ≡ true) ↔ P i) → CountIs P n (count_below p n)
unfolding count_below
count_means p P zero h = none
count_means p P (suc n) h = go (p n) refl (count_means p P n h)
  where
    go : (b : Bool) → p n ≡ b → CountIs P n (count_below p n) → CountIs P (suc n) (count_below p n + bit b)
    go true e c = rw add-one (one_more c ((h n).0 e))
    go false e c = rw add-zero (passed_over c (λ q. not_both ((h n).1 q) e))

-- the free values of a list, by number
pub frees_count : (t : List ℕ) → frees t ≡ count_below (is_free t) (length t)
unfolding frees count_below
frees_count [] = refl
frees_count (v ∷ t) =
    let n = length t in
    let e : suc n ≡ 1 + n = omega arith in
    let d = count_same (λ i. is_free (v ∷ t) (1 + i)) (is_free t) n (λ i l. shifted i) in
    let c : count_below (is_free (v ∷ t)) (suc n) ≡ bit (eqb v 2) + count_below (is_free t) n = ap (count_below (is_free (v ∷ t))) e ∙ count_add (is_free (v ∷ t)) 1 n ∙ omega (arith, d) in
    go (eqb v 2) (frees_count t) ∙ sym c
  where
    shifted : (i : ℕ) → is_free (v ∷ t) (1 + i) ≡ is_free t i
    shifted i = let e : 1 + i ≡ suc i = omega arith in rw e

    go : (b : Bool) → frees t ≡ count_below (is_free t) (length t) → cond b (suc (frees t)) (frees t) ≡ bit b + count_below (is_free t) (length t)
    go true h = omega arith
    go false h = omega arith

module _ {E : List Implication} {n : ℕ} (fits : Fits n E) where
  -- the number of literals that literal a reaches
  pub count_reached : (a : ℕ) → CountIs (λ b. Reach E (a / 2) (a % 2) (b / 2) (b % 2)) (2 * n) (count_below (reaches E n a) (2 * n))
  count_reached a = count_means (reaches E n a) _ (2 * n) (λ b. reaches_at fits a b)

  -- no number from 2n on is reached: a count over more numbers is the same
  pub count_literals : (m : ℕ) → 2 * n ≤ m → (a : ℕ) → a < 2 * n → count_below (reaches E n a) m ≡ count_below (reaches E n a) (2 * n)
  count_literals m few a ha =
      let e : m ≡ 2 * n + (m - 2 * n) = omega arith in
      ap (λ (k : ℕ). count_below (reaches E n a) k) e ∙ count_add (reaches E n a) (2 * n) (m - 2 * n)
      ∙ omega (arith, count_none (λ i. reaches E n a (2 * n + i)) (m - 2 * n) past)
    where
      past : (i : ℕ) → i < m - 2 * n → reaches E n a (2 * n + i) ≡ false
      past i h = ⊎_elim (λ z. absurd (omega (arith, reach_within fits a (2 * n + i) ha z))) (λ z. z) (true_or_false (reaches E n a (2 * n + i)))
