-- Every best completion obeys every gradient value. Assumes nothing.
use mathlib.Core.Path.{◌≡◌, sym, ◌∙◌}
use mathlib.Core.Logic.{◌≢◌, inl, inr, ⊎_elim}
use mathlib.Core.List.{List}
use Prim.Native.Nat.{ℕ, zero, suc, ◌<◌}
use native.Mathlib.Decide.{ℕ_discrete}
use native.Mathlib.Omega.{arith}
use lib.ListN.{length, get_or, set, length-set}
use lib.Dec.{eqb}
use lib.Seq.{get_or-set_same, get_or-set_other, set-get_or}
use borrow.Author.Tests.{eq-eqb, ne_eqb}
use Rattle.whole.specs.Whole.{Whole, ◌⊕◌, ◌⊙◌, only, min0, max0, ◌⊑◌, ◌≈◌}
use Rattle.whole.proofs.Sums.{sum_add, sum_at}
use Rattle.meaning.specs.Steps.{Extends, Steps}
use Rattle.meaning.specs.Field.{Field, Standard, variable_term, entry_term, twice_f, Completion, Best}
use Rattle.meaning.specs.Gradient.{view, share, part, gradient, zero_by, one_by, Forces}
use Rattle.meaning.proofs.Values.{inside, after_set}
use Rattle.meaning.proofs.Order.{steps_follow}
use Rattle.meaning.proofs.Gradient.{forces_lawful}

-- the share of an end at 0 or 1 is the weight times the value
share_full : (f q : Whole) (v : ℕ) → v < 2 → share f q v ≈ q ⊙ v
unfolding share
share_full f q zero h = omega arith
share_full f q (suc zero) h = omega arith
share_full f q (suc (suc v)) h = absurd (omega arith)

module _ (F : Field) (st : Standard F) (free : Whole → Whole) (x : List ℕ) (i : ℕ) (bound : i < length x) (full : (j : ℕ) → get_or x j 0 < 2) where
  at : (v : ℕ) {j : ℕ} → j ≡ i → get_or (set x i v) j 0 ≡ v
  at v e = rw e (get_or-set_same x i v 0 bound)

  off : (v : ℕ) {j : ℕ} → j ≢ i → get_or (set x i v) j 0 ≡ get_or x j 0
  off v {j} n = get_or-set_other x i j v 0 n

  -- what a variable and an entry count where i is 1, and where it is 0
  linear_flip : (k : ℕ) → variable_term F (set x i 1) k ≈ variable_term F (set x i 0) k ⊕ only (eqb i k) (F.linear k)
  linear_flip k = go (ℕ_discrete k i)
    where
      go : Dec (k ≡ i) → variable_term F (set x i 1) k ≈ variable_term F (set x i 0) k ⊕ only (eqb i k) (F.linear k)
      go (yes e) = rw (at 1 e, at 0 e, eq-eqb i k (sym e)) (omega arith)
      go (no n) = rw (off 1 n, off 0 n, ne_eqb i k (λ e. n (sym e))) (omega arith)

  entry_flip : (k : ℕ) → F.row k ≢ F.column k → entry_term F (set x i 1) k ≈ entry_term F (set x i 0) k ⊕ part free F (view x) i k
  entry_flip k ne = go (ℕ_discrete r i) (ℕ_discrete c i)
    where
      r : ℕ
      r = F.row k

      c : ℕ
      c = F.column k

      q : Whole
      q = F.weight k

      go : Dec (r ≡ i) → Dec (c ≡ i) → entry_term F (set x i 1) k ≈ entry_term F (set x i 0) k ⊕ part free F (view x) i k
      go (yes a) (yes b) = absurd (ne (a ∙ sym b))
      go (yes a) (no b) = rw (at 1 a, at 0 a, off 1 b, off 0 b, eq-eqb r i a, ne_eqb c i b) (omega (arith, share_full (free q) q (get_or x c 0) (full c)))
      go (no a) (yes b) = rw (off 1 a, off 0 a, at 1 b, at 0 b, ne_eqb r i a, eq-eqb c i b) (omega (arith, share_full (free q) q (get_or x r 0) (full r)))
      go (no a) (no b) = rw (off 1 a, off 0 a, off 1 b, off 0 b, ne_eqb r i a, ne_eqb c i b) (omega arith)

  -- THE FLIP: the objective at 1 is that at 0 and the gradient, whatever a free end would count
  pub flip : i < F.n → twice_f F (set x i 1) ≈ twice_f F (set x i 0) ⊕ gradient free F (view x) i
  flip b =
      omega (
        arith,
        sum_add F.n (variable_term F (set x i 1)) (variable_term F (set x i 0)) (λ k. only (eqb i k) (F.linear k)) (λ k h. linear_flip k),
        sum_at F.n F.linear i b,
        sum_add F.m (entry_term F (set x i 1)) (entry_term F (set x i 0)) (part free F (view x) i) (λ k h. entry_flip k (st k h)),
      )

-- a completion with a place changed that was free is a completion
pub complete_set : {s x : List ℕ} → Completion s x → (i v : ℕ) → get_or s i 0 ≡ 2 → v < 2 → Completion s (set x i v)
complete_set {s} {x} c i v free small =
    let bound : i < length x = omega (arith, inside s i free, c.extends.as_long) in
    record {
      extends = record {
        as_long = length-set x i v ∙ c.extends.as_long;
        kept = λ j. ⊎_elim (λ z. inl (rw z.0 free)) (λ z. ⊎_elim inl (λ w. inr (z ∙ w)) (c.extends.kept j)) (after_set x i v bound j);
      };
      full = λ j. ⊎_elim (λ z. omega arith) (λ z. omega (arith, c.full j)) (after_set x i v bound j);
    }

-- a best completion has what it forces
pub best_obeys : {F : Field} {s x : List ℕ} → Standard F → length s ≡ F.n → Best F s x → (i v : ℕ) → get_or s i 0 ≡ 2 → Forces F x i v → get_or x i 0 ≡ v
best_obeys {F} {s} {x} st long b i v free f = go v f (ℕ_discrete (get_or x i 0) v)
  where
    full : (j : ℕ) → get_or x j 0 < 2
    full = b.completion.full

    flipped : (count : Whole → Whole) → twice_f F (set x i 1) ≈ twice_f F (set x i 0) ⊕ gradient count F (view x) i
    flipped count = flip F st count x i (omega (arith, inside s i free, b.completion.extends.as_long)) full (omega (arith, inside s i free))

    -- x is no worse than x with i set to w
    least : (w : ℕ) → w < 2 → twice_f F x ⊑ twice_f F (set x i w)
    least w h = b.least (set x i w) (complete_set b.completion i w free h)

    -- x with i set to what it has is x
    same : (w : ℕ) → get_or x i 0 ≡ w → set x i w ≡ x
    same w e = rw (← e) (set-get_or x i 0)

    go : (v : ℕ) → Forces F x i v → Dec (get_or x i 0 ≡ v) → get_or x i 0 ≡ v
    go v f (yes e) = e
    go v (zero_by h) (no n) = omega (arith, least 0 (omega arith), rw (same 1 (omega (arith, full i))) at (flipped min0))
    go v (one_by h) (no n) = omega (arith, least 1 (omega arith), rw (same 0 (omega (arith, full i))) at (flipped max0))

-- SOUNDNESS: every best completion of the start has each value of the closure
pub best_has_closure : {F : Field} {s t x : List ℕ} → Standard F → length s ≡ F.n → Steps (Forces F) s t → Best F s x → Extends t x
best_has_closure {F = F} {x = x} st long r b = steps_follow (forces_lawful F) x b.completion.extends (λ i v free e f. best_obeys st long b i v free f) r
