-- What a test means, both ways: a comparison, two tests together, one test or another, a test at every position. Assumes nothing.
use Prim.Native.Nat.{ℕ, ◌<◌, ◌≤◌}
use mathlib.Core.Path.{◌≡◌, refl, ap}
use mathlib.Core.Bool.{Bool, true, false, not, ◌&&◌, ◌||◌}
use mathlib.Core.Logic.{◌≢◌, ◌⊎◌, inl, inr, ⊎_elim, ◌↔◌}
use borrow.Author.Tests.{ltb-true, lt-ltb, leb-true, le-leb, eqb-true, eq-eqb, eqb-false, ne_eqb, not-true}
use lib.Dec.{T, ltb, leb, eqb}
use lib.Ieee.Bits.{is_true}
use Rattle.scratch.specs.All.{all_below}
use Rattle.scratch.proofs.All.{both, all_means}

pub lt_is : (a b : ℕ) → (ltb a b ≡ true) ↔ (a < b)
lt_is a b = (ltb-true a b, lt-ltb a b)

pub le_is : (a b : ℕ) → (leb a b ≡ true) ↔ (a ≤ b)
le_is a b = (leb-true a b, le-leb a b)

pub eq_is : (a b : ℕ) → (eqb a b ≡ true) ↔ (a ≡ b)
eq_is a b = (eqb-true a b, eq-eqb a b)

pub ne_is : (a b : ℕ) → (not (eqb a b) ≡ true) ↔ (a ≢ b)
ne_is a b = ((λ e. eqb-false a b (not-true _ e)), λ n. ap not (ne_eqb a b n))

pub true_is : (b : Bool) → (b ≡ true) ↔ T b
true_is b = ((λ e. rw e tt), is_true b)

module _ {A B : Type 0} (a b : Bool) (p : (a ≡ true) ↔ A) (q : (b ≡ true) ↔ B) where
  pub both_is : ((a && b) ≡ true) ↔ (A × B)
  both_is = ((λ e. let t = both a b e in (p.0 t.0, q.0 t.1)), λ h. rw (p.1 h.0, q.1 h.1))

  pub either_is : ((a || b) ≡ true) ↔ (A ⊎ B)
  either_is = (from a b p.0 q.0, ⊎_elim (λ h. rw (p.1 h)) (λ h. rw (q.1 h) (last a)))
    where
      from : (a b : Bool) → (a ≡ true → A) → (b ≡ true → B) → (a || b) ≡ true → A ⊎ B
      from true b f g e = inl (f refl)
      from false b f g e = inr (g e)

      last : (a : Bool) → (a || true) ≡ true
      last true = refl
      last false = refl

pub every_is : (p : ℕ → Bool) (P : ℕ → Type 0) (n : ℕ) → ((k : ℕ) → (p k ≡ true) ↔ P k) → (all_below p n ≡ true) ↔ ((k : ℕ) → k < n → P k)
every_is p P n h = ((λ e k l. (h k).0 ((all_means p n).0 e k l)), λ all. (all_means p n).1 (λ k l. (h k).1 (all k l)))
