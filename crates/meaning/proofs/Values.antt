-- Lists of values: one extends another. Assumes nothing.
use mathlib.Core.Path.{◌≡◌, refl, sym, ◌∙◌}
use mathlib.Core.Logic.{◌⊎◌, inl, inr, ⊎_elim}
use mathlib.Core.List.{List, [], ◌∷◌}
use Prim.Native.Nat.{ℕ, zero, suc, ◌<◌}
use native.Mathlib.Decide.{ℕ_discrete}
use native.Mathlib.Omega.{arith}
use lib.ListN.{length, get_or, set, length-set}
use lib.Seq.{get_or-set_same, get_or-set_other, ext_get_or}
use Rattle.meaning.specs.Steps.{Extends}

-- ---- numbers

pub zero_or_one : {n : ℕ} → n < 2 → (n ≡ 0) ⊎ (n ≡ 1)
zero_or_one {n = zero} h = inl refl
zero_or_one {n = suc zero} h = inr refl
zero_or_one {n = suc (suc n)} h = absurd (omega arith)

pub below_or_at : {i k : ℕ} → i < suc k → (i < k) ⊎ (i ≡ k)
below_or_at {i} {k} h = go (ℕ_discrete i k)
  where
    go : Dec (i ≡ k) → (i < k) ⊎ (i ≡ k)
    go (yes e) = inr e
    go (no n) = inl (omega arith)

-- what is not free is kept
pub fixed : {a b : ℕ} → (a ≡ 2) ⊎ (b ≡ a) → a < 2 → b ≡ a
fixed h small = ⊎_elim (λ e. omega arith) (λ e. e) h

-- ---- lists

-- a place that holds something but 0 is in the list
pub inside : (s : List ℕ) (i : ℕ) → get_or s i 0 ≡ 2 → i < length s
inside [] i h = omega arith
inside (x ∷ s) zero h = omega arith
inside (x ∷ s) (suc i) h = omega (arith, inside s i h)

-- the place that was set holds the value, and each other place what it held
pub after_set : (s : List ℕ) (i v : ℕ) → i < length s → (j : ℕ) → ((j ≡ i) × (get_or (set s i v) j 0 ≡ v)) ⊎ (get_or (set s i v) j 0 ≡ get_or s j 0)
after_set s i v h j = go (ℕ_discrete j i)
  where
    go : Dec (j ≡ i) → ((j ≡ i) × (get_or (set s i v) j 0 ≡ v)) ⊎ (get_or (set s i v) j 0 ≡ get_or s j 0)
    go (yes e) = inl (e, rw e (get_or-set_same s i v 0 h))
    go (no n) = inr (get_or-set_other s i j v 0 n)

pub extends_refl : (s : List ℕ) → Extends s s
extends_refl s = record { as_long = refl; kept = λ i. inr refl }

pub extends_trans : {s t u : List ℕ} → Extends s t → Extends t u → Extends s u
extends_trans p q =
    record {
      as_long = q.as_long ∙ p.as_long;
      kept = λ i. ⊎_elim inl (λ e. ⊎_elim (λ f. inl (sym e ∙ f)) (λ f. inr (f ∙ e)) (q.kept i)) (p.kept i);
    }

-- to fix a free place is to extend
pub extends_set : (s : List ℕ) (i v : ℕ) → get_or s i 0 ≡ 2 → Extends s (set s i v)
extends_set s i v free =
    record {
      as_long = length-set s i v;
      kept = λ j. ⊎_elim (λ e. inl (rw e.0 free)) inr (after_set s i v (inside s i free) j);
    }

-- what is free in the extension is free in what it extends
pub free_back : {s t : List ℕ} → Extends s t → (i : ℕ) → get_or t i 0 ≡ 2 → get_or s i 0 ≡ 2
free_back p i h = ⊎_elim (λ e. e) (λ e. sym e ∙ h) (p.kept i)

pub extends_antisym : {s t : List ℕ} → Extends s t → Extends t s → s ≡ t
extends_antisym {s} {t} p q =
    ext_get_or 0 s t q.as_long λ i h. ⊎_elim (λ e. e ∙ sym (free_back q i e)) (λ e. sym e) (p.kept i)

-- an extension that has v at a place extends what is set to v there
pub extends_fixed : {s t : List ℕ} → Extends s t → (i v : ℕ) → get_or s i 0 ≡ 2 → get_or t i 0 ≡ v → Extends (set s i v) t
extends_fixed {s} {t} p i v free e =
    record {
      as_long = p.as_long ∙ sym (length-set s i v);
      kept = λ j. ⊎_elim
          (λ z. inr (rw z.0 e ∙ sym z.1))
          (λ z. ⊎_elim (λ w. inl (z ∙ w)) (λ w. inr (w ∙ sym z)) (p.kept j))
          (after_set s i v (inside s i free) j);
    }
