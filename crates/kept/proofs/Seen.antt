-- One entry sees another value of a variable: what that changes in the bounds. Assumes nothing.
use Prim.Native.Nat.{ℕ, ◌<◌}
use mathlib.Core.Path.{◌≡◌, refl, sym, ap₂, ◌∙◌}
use mathlib.Core.Logic.{◌≢◌}
use mathlib.Core.Bool.{Bool, true, false, cond, ◌&&◌}
use native.Mathlib.Omega.{arith}
use borrow.Author.Tests.{eqb-true}
use lib.Dec.{eqb}
use Rattle.whole.specs.Whole.{Whole, ◌⊕◌, ◌⊖◌, ◌≈◌}
use Rattle.whole.proofs.Sums.{sum_same}
use Rattle.scratch.proofs.All.{both}
use Rattle.meaning.specs.Field.{Field}
use Rattle.meaning.specs.Gradient.{View, see, share, part, gradient}
use Rattle.meaning.proofs.Views.{see_here, see_joined}
use Rattle.run.proofs.Sight.{Joins}

module _ (G : Field) where
  -- views that agree give one gradient
  pub same_views : (w w' : View) → ((k j : ℕ) → w k j ≡ w' k j) → (free : Whole → Whole) (t : ℕ) → gradient free G w t ≈ gradient free G w' t
  same_views w w' e free t =
      omega (arith, sum_same G.m (part free G w t) (part free G w' t) (λ k b. rw (e k (G.column k), e k (G.row k)) refl))

  module _ (w : View) (k i : ℕ) where
    see_again : (v : ℕ) (k' j : ℕ) → see (see w k i 2) k i v k' j ≡ see w k i v k' j
    unfolding see
    see_again v k' j = by (eqb k' k && eqb j i)
      where
        by : (b : Bool) → cond b v (cond b 2 (w k' j)) ≡ cond b v (w k' j)
        by true = refl
        by false = refl

    see_own : {old : ℕ} → w k i ≡ old → (k' j : ℕ) → see w k i old k' j ≡ w k' j
    unfolding see
    see_own {old} e k' j = by (eqb k' k && eqb j i) refl
      where
        by : (b : Bool) → (eqb k' k && eqb j i) ≡ b → cond b old (w k' j) ≡ w k' j
        by true h = let p = both (eqb k' k) (eqb j i) h in sym e ∙ ap₂ w (sym (eqb-true _ _ p.0)) (sym (eqb-true _ _ p.1))
        by false h = refl

    -- the row that entry k joins to i, of which it saw old and now sees new
    pub see_turned : (free : Whole → Whole) (t : ℕ) → k < G.m → G.row k ≢ G.column k → Joins G k i t → (old new : ℕ) → w k i ≡ old
        → gradient free G (see w k i new) t ≈ gradient free G w t ⊖ share (free (G.weight k)) (G.weight k) old ⊕ share (free (G.weight k)) (G.weight k) new
    see_turned free t l d o old new e =
        omega (
          arith,
          see_joined G (see w k i 2) k i new free t l d o (see_here w k i 2),
          see_joined G (see w k i 2) k i old free t l d o (see_here w k i 2),
          same_views (see (see w k i 2) k i new) (see w k i new) (see_again new) free t,
          same_views (see (see w k i 2) k i old) w (λ k' j. see_again old k' j ∙ see_own e k' j) free t,
        )
