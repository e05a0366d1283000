-- To fix a free place is to have one less; the list of the free variables: how many they are, that each is free, and that they rise. Assumes nothing.
use mathlib.Core.Path.{◌≡◌, refl}
use mathlib.Core.Logic.{◌≢◌, ◌⊎◌, inl, inr}
use mathlib.Core.Bool.{Bool, true, false, cond}
use mathlib.Core.List.{List, [], ◌∷◌, ◌++◌, append-nil}
use Prim.Native.Nat.{ℕ, zero, suc, ◌+◌, ◌≤◌, ◌<◌}
use native.Mathlib.Nat.{eq-or-lt_of_le}
use native.Mathlib.Omega.{arith}
use lib.ListN.{length, get_or, set, length-append, get_or-append}
use lib.Seq.{get_or-append_seam}
use lib.Dec.{eqb}
use borrow.Author.Tests.{ne_eqb, eqb-true}
use Rattle.meaning.specs.Free.{is_free, frees, free_to}

one_more : (b : Bool) (n : ℕ) → (n ≤ cond b (suc n) n) × (cond b (suc n) n ≤ suc n)
one_more true n = omega arith
one_more false n = omega arith

pub frees_le : (s : List ℕ) → frees s ≤ length s
unfolding frees
frees_le [] = omega arith
frees_le (v ∷ s) = omega (arith, one_more (eqb v 2) (frees s), frees_le s)

pub frees_set : (s : List ℕ) (i v : ℕ) → get_or s i 0 ≡ 2 → v < 2 → frees s ≡ frees (set s i v) + 1
unfolding frees
frees_set [] i v h small = omega arith
frees_set (x ∷ s) zero v h small = rw (h, ne_eqb v 2 (λ e. omega arith)) (omega arith)
frees_set (x ∷ s) (suc i) v h small = by (eqb x 2) _ _ (frees_set s i v h small)
  where
    by : (b : Bool) (m n : ℕ) → m ≡ n + 1 → cond b (suc m) m ≡ cond b (suc n) n + 1
    by true m n e = omega arith
    by false m n e = e

pub no_frees : (s : List ℕ) → frees s ≡ 0 → (i : ℕ) → get_or s i 0 ≢ 2
unfolding frees
no_frees [] h i e = omega arith
no_frees (x ∷ s) h zero e = let k : cond (eqb x 2) (suc (frees s)) (frees s) ≡ 0 = h in omega (arith, rw e at k)
no_frees (x ∷ s) h (suc i) e = no_frees s (omega (arith, one_more (eqb x 2) (frees s))) i e

-- ---- the free variables, rising

pub free_few : (s : List ℕ) (n : ℕ) → length (free_to s n) ≤ n
unfolding free_to
free_few s zero = omega arith
free_few s (suc n) = omega (arith, length-append (free_to s n) (cond (is_free s n) (n ∷ []) []), one (is_free s n), free_few s n)
  where
    one : (b : Bool) → length (cond b (n ∷ []) []) ≤ 1
    one true = omega arith
    one false = omega arith

-- each is below n and free
pub free_at : (s : List ℕ) (n a : ℕ) → a < length (free_to s n) → (get_or (free_to s n) a 0 < n) × (get_or s (get_or (free_to s n) a 0) 0 ≡ 2)
unfolding free_to
free_at s zero a h = absurd (omega arith)
free_at s (suc n) a h = go (is_free s n) refl (free_at s n a)
  where
    go : (b : Bool) → is_free s n ≡ b → (a < length (free_to s n) → (get_or (free_to s n) a 0 < n) × (get_or s (get_or (free_to s n) a 0) 0 ≡ 2))
        → (get_or (free_to s n ++ cond (is_free s n) (n ∷ []) []) a 0 < suc n) × (get_or s (get_or (free_to s n ++ cond (is_free s n) (n ∷ []) []) a 0) 0 ≡ 2)
    go true e ih = rw e (at (eq-or-lt_of_le (within (length-append (free_to s n) (n ∷ [])) (rw e at h))))
      where
        within : length (free_to s n ++ n ∷ []) ≡ length (free_to s n) + 1 → a < length (free_to s n ++ n ∷ []) → a ≤ length (free_to s n)
        within l q = omega arith

        at : (a ≡ length (free_to s n)) ⊎ (a < length (free_to s n)) → (get_or (free_to s n ++ n ∷ []) a 0 < suc n) × (get_or s (get_or (free_to s n ++ n ∷ []) a 0) 0 ≡ 2)
        at (inl z) = rw (z, get_or-append_seam (free_to s n) n [] 0) (omega arith, eqb-true (get_or s n 0) 2 e)
        at (inr z) = rw (get_or-append (free_to s n) (n ∷ []) 0 a z) (let r = ih z in (omega (arith, r.0), r.1))
    go false e ih = rw (e, append-nil (free_to s n)) (let r = ih (rw (e, append-nil (free_to s n)) at h) in (omega (arith, r.0), r.1))

-- they rise
pub free_rises : (s : List ℕ) (n a b : ℕ) → a < b → b < length (free_to s n) → get_or (free_to s n) a 0 < get_or (free_to s n) b 0
unfolding free_to
free_rises s zero a b l h = absurd (omega arith)
free_rises s (suc n) a b l h = go (is_free s n) refl (free_rises s n a b l)
  where
    go : (c : Bool) → is_free s n ≡ c → (b < length (free_to s n) → get_or (free_to s n) a 0 < get_or (free_to s n) b 0)
        → get_or (free_to s n ++ cond (is_free s n) (n ∷ []) []) a 0 < get_or (free_to s n ++ cond (is_free s n) (n ∷ []) []) b 0
    go true e ih = rw e (at (eq-or-lt_of_le (within (length-append (free_to s n) (n ∷ [])) (rw e at h))))
      where
        within : length (free_to s n ++ n ∷ []) ≡ length (free_to s n) + 1 → b < length (free_to s n ++ n ∷ []) → b ≤ length (free_to s n)
        within l q = omega arith

        at : (b ≡ length (free_to s n)) ⊎ (b < length (free_to s n)) → get_or (free_to s n ++ n ∷ []) a 0 < get_or (free_to s n ++ n ∷ []) b 0
        at (inl z) = rw (z, get_or-append_seam (free_to s n) n [] 0, get_or-append (free_to s n) (n ∷ []) 0 a (omega arith)) (free_at s n a (omega arith)).0
        at (inr z) = rw (get_or-append (free_to s n) (n ∷ []) 0 a (omega arith), get_or-append (free_to s n) (n ∷ []) 0 b z) (ih z)
    go false e ih = rw (e, append-nil (free_to s n)) (ih (rw (e, append-nil (free_to s n)) at h))
