-- Tests that are true, and a test of every number below a bound. Assumes nothing.
use mathlib.Core.Path.{◌≡◌, refl}
use mathlib.Core.Logic.{◌⊎◌, inl, inr, ⊎_elim}
use mathlib.Core.Bool.{Bool, true, false, ◌&&◌, ◌||◌}
use Prim.Native.Nat.{ℕ, zero, suc, ◌<◌}
use native.Mathlib.Omega.{arith}
use Rattle.meaning.proofs.Values.{below_or_at}
use Rattle.reaching.specs.Via.{any_below}

pub not_both : {b : Bool} → b ≡ true → b ≡ false → ⊥
not_both p q = let z : ◌≡◌ {A = ℕ} 0 1 = cc in omega arith

pub or_left : {a : Bool} (b : Bool) → a ≡ true → (a || b) ≡ true
or_left b e = rw e

pub or_right : (a : Bool) {b : Bool} → b ≡ true → (a || b) ≡ true
or_right true e = refl
or_right false e = e

pub or_cases : (a b : Bool) → (a || b) ≡ true → (a ≡ true) ⊎ (b ≡ true)
or_cases true b e = inl refl
or_cases false b e = inr e

pub and_true : {a b : Bool} → a ≡ true → b ≡ true → (a && b) ≡ true
and_true p q = rw (p, q)

pub true_or_false : (a : Bool) → (a ≡ true) ⊎ (a ≡ false)
true_or_false true = inl refl
true_or_false false = inr refl

pub same_test : (a b : Bool) → (a ≡ true → b ≡ true) → (b ≡ true → a ≡ true) → a ≡ b
same_test true true f g = refl
same_test false false f g = refl
same_test true false f g = absurd (not_both (f refl) refl)
same_test false true f g = absurd (not_both (g refl) refl)

-- ---- some number below n

pub any_at : (p : ℕ → Bool) (n j : ℕ) → j < n → p j ≡ true → any_below p n ≡ true
unfolding any_below
any_at p zero j h e = absurd (omega arith)
any_at p (suc n) j h e = ⊎_elim (λ l. or_left (p n) (any_at p n j l e)) (λ q. or_right (any_below p n) (rw q at e)) (below_or_at h)

pub any_found : (p : ℕ → Bool) (n : ℕ) → any_below p n ≡ true → (j : ℕ) × (j < n) × (p j ≡ true)
unfolding any_below
any_found p zero e = absurd (not_both e refl)
any_found p (suc n) e = ⊎_elim (λ z. let f = any_found p n z in (f.0, omega (arith, f.1), f.2)) (λ z. (n, omega arith, z)) (or_cases (any_below p n) (p n) e)

pub any_same : (p q : ℕ → Bool) (n : ℕ) → ((i : ℕ) → i < n → p i ≡ q i) → any_below p n ≡ any_below q n
unfolding any_below
any_same p q zero h = refl
any_same p q (suc n) h = rw (any_same p q n (λ i l. h i (omega arith)), h n (omega arith)) refl
