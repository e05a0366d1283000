-- Views that catch up with the values: what one sight more changes, and how far the bounds reach. Assumes nothing.
use mathlib.Core.Path.{◌≡◌, refl, sym, ◌∙◌}
use mathlib.Core.Logic.{◌≢◌, ◌⊎◌, ⊎_elim}
use mathlib.Core.Bool.{Bool, true, false, ◌&&◌}
use mathlib.Core.List.{List}
use Prim.Native.Nat.{ℕ, zero, suc, ◌+◌, ◌*◌, ◌≤◌, ◌<◌}
use native.Mathlib.Omega.{arith}
use lib.ListN.{get_or}
use lib.Dec.{eqb}
use borrow.Author.Tests.{eqb-true, eq-eqb, ne_eqb}
use Rattle.whole.specs.Whole.{Whole, ◌⊕◌, ◌⊖◌, sum, min0, max0, ◌≈◌, Under}
use Rattle.whole.proofs.Sums.{only_same, only_under, sum_same, sum_update, sum_under}
use Rattle.meaning.specs.Field.{Field}
use Rattle.meaning.specs.Gradient.{View, view, see, share, part, gradient}

-- a view that has caught up is the values
pub caught_up : (w : View) (s : List ℕ) (F : Field) → ((k j : ℕ) → k < F.m → w k j ≡ get_or s j 0) → (free : Whole → Whole) (i : ℕ) → gradient free F w i ≈ gradient free F (view s) i
caught_up w s F h free i =
    omega (arith, sum_same F.m (part free F w i) (part free F (view s) i) (λ k b. rw (h k (F.column k) b, h k (F.row k) b) refl))

-- ---- one sight more

pub see_here : (w : View) (k i v : ℕ) → see w k i v k i ≡ v
unfolding see
see_here w k i v = rw (eq-eqb k k refl, eq-eqb i i refl) refl

and_false : (a : Bool) → (a && false) ≡ false
and_false true = refl
and_false false = refl

pub see_variable : (w : View) (k i v k' j : ℕ) → j ≢ i → see w k i v k' j ≡ w k' j
unfolding see
see_variable w k i v k' j h = rw (ne_eqb j i h, and_false (eqb k' k)) refl

pub see_entry : (w : View) (k i v k' j : ℕ) → k' ≢ k → see w k i v k' j ≡ w k' j
unfolding see
see_entry w k i v k' j h = rw (ne_eqb k' k h) refl

module _ (F : Field) (w : View) (k i v : ℕ) (free : Whole → Whole) where
  -- only entry k's part changes
  update : (t : ℕ) → k < F.m → gradient free F (see w k i v) t ⊕ part free F w t k ≈ gradient free F w t ⊕ part free F (see w k i v) t k
  update t h =
      omega (
        arith,
        sum_update F.m (part free F (see w k i v) t) (part free F w t) k h (λ k' d. rw (see_entry w k i v k' (F.column k') d, see_entry w k i v k' (F.row k') d) refl),
      )

  -- a row that entry k does not join to i
  pub see_apart : (t : ℕ) → k < F.m → (F.row k ≡ t → F.column k ≢ i) → (F.column k ≡ t → F.row k ≢ i) → gradient free F (see w k i v) t ≈ gradient free F w t
  see_apart t h r c =
      omega (
        arith,
        update t h,
        only_same (eqb (F.row k) t) (end (see w k i v) (F.column k)) (end w (F.column k)) (λ e. rw (see_variable w k i v k (F.column k) (r (eqb-true _ _ e))) refl),
        only_same (eqb (F.column k) t) (end (see w k i v) (F.row k)) (end w (F.row k)) (λ e. rw (see_variable w k i v k (F.row k) (c (eqb-true _ _ e))) refl),
      )
    where
      end : View → ℕ → Whole
      end x j = share (free (F.weight k)) (F.weight k) (x k j)

  -- the row that it joins to i
  pub see_joined : (t : ℕ) → k < F.m → F.row k ≢ F.column k → ((F.row k ≡ i) × (F.column k ≡ t)) ⊎ ((F.column k ≡ i) × (F.row k ≡ t)) → w k i ≡ 2
      → gradient free F (see w k i v) t ≈ gradient free F w t ⊖ free (F.weight k) ⊕ share (free (F.weight k)) (F.weight k) v
  unfolding share
  see_joined t h d j e = omega (arith, update t h, at w e, at (see w k i v) (see_here w k i v))
    where
      at : (x : View) {y : ℕ} → x k i ≡ y → part free F x t k ≈ share (free (F.weight k)) (F.weight k) y
      at x e = ⊎_elim
          (λ z. rw (ne_eqb (F.row k) t (λ p. d (p ∙ sym z.1)), eq-eqb (F.column k) t z.1, z.0, e) (omega arith))
          (λ z. rw (ne_eqb (F.column k) t (λ p. d (z.1 ∙ sym p)), eq-eqb (F.row k) t z.1, z.0, e) (omega arith))
          j

-- ---- how far the bounds reach

pub min0_under : (l : ℕ) (q : Whole) → Under l q → Under l (min0 q)
min0_under l q h = omega arith

pub max0_under : (l : ℕ) (q : Whole) → Under l q → Under l (max0 q)
max0_under l q h = omega arith

pub share_under : (l : ℕ) (f q : Whole) (v : ℕ) → Under l f → Under l q → Under l (share f q v)
unfolding share
share_under l f q zero h k = omega arith
share_under l f q (suc zero) h k = k
share_under l f q (suc (suc v)) h k = h

-- weights within l and a linear weight within b: each entry counts for its two ends
module _ (l : ℕ) (F : Field) (weights : (k : ℕ) → k < F.m → Under l (F.weight k)) (free : Whole → Whole) (f : (q : Whole) → Under l q → Under l (free q)) (w : View) (i : ℕ) where
  part_under : (k : ℕ) → k < F.m → Under (l + l) (part free F w i k)
  part_under k h =
      let q = weights k h in
      omega (
        arith,
        only_under l (eqb (F.row k) i) _ (share_under l (free (F.weight k)) (F.weight k) (w k (F.column k)) (f _ q) q),
        only_under l (eqb (F.column k) i) _ (share_under l (free (F.weight k)) (F.weight k) (w k (F.row k)) (f _ q) q),
      )

  pub reach : (b : ℕ) → Under b (F.linear i) → (k : ℕ) → k ≤ F.m → Under (b + (l + l) * k) (F.linear i ⊕ sum k (part free F w i))
  reach b h k le = omega (arith, sum_under (l + l) k (part free F w i) (λ e d. part_under e (omega arith)))
