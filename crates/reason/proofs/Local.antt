-- A bound sees only the other ends of the entries at its variable. Assumes nothing.
use Prim.Native.Nat.{ℕ, zero, suc, ◌<◌}
use mathlib.Core.Path.{◌≡◌, refl}
use mathlib.Core.Logic.{inl, inr}
use mathlib.Core.Bool.{Bool, true, false, ◌&&◌, ◌||◌}
use mathlib.Core.List.{List}
use native.Mathlib.Omega.{arith}
use borrow.Author.Tests.{eqb-true, eq-eqb}
use lib.ListN.{get_or}
use lib.Dec.{eqb}
use Rattle.whole.specs.Whole.{Whole, ◌≈◌}
use Rattle.whole.proofs.Sums.{only_same, sum_same}
use Rattle.meaning.specs.Field as meaning
use Rattle.meaning.proofs.Values.{below_or_at}
use Rattle.meaning.specs.Gradient.{View, view, share, part, gradient}
use Rattle.field.specs.Field.{Field, variables, entries, row_end, column_end, Shaped}
use Rattle.field.specs.Reading.{whole_of}
use Rattle.reason.specs.Listed.{joins_at, joins_to}

-- GRADIENT-LOCAL, in any field: views that agree at the other ends of the entries at i give it one gradient
pub gradient_local : (G : meaning.Field) (w v : View) (i : ℕ) → ((k : ℕ) → k < G.m → G.row k ≡ i → w k (G.column k) ≡ v k (G.column k))
    → ((k : ℕ) → k < G.m → G.column k ≡ i → w k (G.row k) ≡ v k (G.row k)) → (free : Whole → Whole) → gradient free G w i ≈ gradient free G v i
gradient_local G w v i r c free = omega (
  arith,
  sum_same G.m (part free G w i) (part free G v i) (λ k b.
      omega (
        arith,
        only_same (eqb (G.row k) i) (end k w (G.column k)) (end k v (G.column k)) (λ e. rw (r k b (eqb-true _ _ e)) refl),
        only_same (eqb (G.column k) i) (end k w (G.row k)) (end k v (G.row k)) (λ e. rw (c k b (eqb-true _ _ e)) refl),
      )),
)
  where
    end : ℕ → View → ℕ → Whole
    end k x j = share (free (G.weight k)) (G.weight k) (x k j)

-- ---- neighbours

pub or_right : (a b : Bool) → b ≡ true → (a || b) ≡ true
or_right true b e = refl
or_right false b e = e

pub or_left : (a b : Bool) → a ≡ true → (a || b) ≡ true
or_left a b e = rw e refl

pub joins_some : (F : Field) (i j k n : ℕ) → k < n → joins_at F i j k ≡ true → joins_to F i j n ≡ true
unfolding joins_to
joins_some F i j k zero l e = absurd (omega arith)
joins_some F i j k (suc n) l e = elim (below_or_at l) [
  | inl b ↦ or_left (joins_to F i j n) (joins_at F i j n) (joins_some F i j k n b e)
  | inr b ↦ or_right (joins_to F i j n) (joins_at F i j n) (rw (← b) e)
]

-- values that agree at every neighbour of i give it one gradient
pub same_gradient : (F : Field) (i : ℕ) (r x : List ℕ) (u : ℕ) → Shaped F → ((j k : ℕ) → j < variables F → k < entries F → joins_at F i j k ≡ true → get_or r j 0 ≡ get_or x j 0) → (free : Whole → Whole)
    → gradient free (whole_of u F) (view r) i ≈ gradient free (whole_of u F) (view x) i
same_gradient F i r x u shaped same = gradient_local (whole_of u F) (view r) (view x) i
    (λ k b e. same (column_end F k) k (shaped.column_below k b) b (rw (eq-eqb (row_end F k) i e, eq-eqb (column_end F k) (column_end F k) refl) refl))
    (λ k b e. same (row_end F k) k (shaped.row_below k b) b
    (or_right (eqb (row_end F k) i && eqb (column_end F k) (row_end F k)) (eqb (column_end F k) i && eqb (row_end F k) (row_end F k)) (rw (eq-eqb (column_end F k) i e, eq-eqb (row_end F k) (row_end F k) refl) refl)))
