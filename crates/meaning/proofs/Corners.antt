-- The gap of a pattern at a completion is the difference of f, for each of the four patterns. Assumes nothing.
use mathlib.Core.Path.{◌≡◌, refl, sym, ◌∙◌}
use mathlib.Core.Logic.{◌≢◌, ⊎_elim}
use mathlib.Core.Bool.{Bool, true, false, not, ◌&&◌}
use mathlib.Core.List.{List}
use Prim.Native.Nat.{ℕ, ◌<◌}
use native.Mathlib.Decide.{ℕ_discrete}
use native.Mathlib.Omega.{arith}
use lib.ListN.{length, get_or, set, length-set}
use lib.Seq.{get_or-set_same, get_or-set_other, set_comm}
use lib.Dec.{eqb}
use borrow.Author.Tests.{eq-eqb, ne_eqb}
use Rattle.whole.specs.Whole.{Whole, nothing, ◌⊕◌, only, sum, min0, ◌≈◌}
use Rattle.whole.proofs.Sums.{only_zero, sum_add, sum_at}
use Rattle.meaning.specs.Field.{Field, Standard, Within, twice_f}
use Rattle.meaning.specs.Pair.{merged, signed, own, pull, other, pull_part, gap, at, difference}
use Rattle.meaning.proofs.Values.{after_set}
use Rattle.meaning.proofs.Sound.{flip}
use Rattle.meaning.proofs.Merged.{signed_nothing, signed_add, signed_sum, merged_turn, merged_self, share_test, settled_merged}

-- what k weighs on i at x, where k is another variable than i and j; and with it the gradient of i where j is 0
abbrev pulls : Field → List ℕ → ℕ → ℕ → ℕ → Whole
pulls F x i j k = only (other i j k) (only (eqb (get_or x k 0) 1) (merged F i k))

abbrev slope : Field → List ℕ → ℕ → ℕ → Whole
slope F x i j = F.linear i ⊕ sum F.n (pulls F x i j)

module _ (F : Field) (st : Standard F) (fits : Within F) (x : List ℕ) (full : (k : ℕ) → get_or x k 0 < 2) (long : length x ≡ F.n) where
  set_full : (a v : ℕ) → a < F.n → v < 2 → (k : ℕ) → get_or (set x a v) k 0 < 2
  set_full a v b h k = ⊎_elim (λ z. omega arith) (λ z. omega (arith, full k)) (after_set x a v (omega arith) k)

  -- i alone goes from 0 to 1, and j has the value v
  module _ (i j v : ℕ) (hi : i < F.n) (hj : j < F.n) (ne : i ≢ j) (small : v < 2) where
    term : (k : ℕ) → only (eqb (get_or (set x j v) k 0) 1) (merged F i k) ≈ pulls F x i j k ⊕ only (eqb j k) (only (eqb v 1) (merged F i k))
    term k = go (ℕ_discrete k i) (ℕ_discrete k j)
      where
        go : Dec (k ≡ i) → Dec (k ≡ j) → only (eqb (get_or (set x j v) k 0) 1) (merged F i k) ≈ pulls F x i j k ⊕ only (eqb j k) (only (eqb v 1) (merged F i k))
        go (yes a) (yes b) = absurd (ne (sym a ∙ b))
        go (yes a) (no b) =
            rw (a, eq-eqb i i refl, ne_eqb j i (λ z. ne (sym z)))
            (omega (arith, only_zero (eqb (get_or (set x j v) i 0) 1) (merged F i i) (λ z. merged_self F st i)))
        go (no a) (yes b) = rw (b, get_or-set_same x j v 0 (omega arith), eq-eqb j j refl, ne_eqb j i (λ z. ne (sym z))) (omega arith)
        go (no a) (no b) = rw (get_or-set_other x j k v 0 b, ne_eqb k i a, ne_eqb k j b, ne_eqb j k (λ z. b (sym z))) (omega arith)

    rise : twice_f F (set (set x j v) i 1) ≈ twice_f F (set (set x j v) i 0) ⊕ slope F x i j ⊕ only (eqb v 1) (merged F i j)
    rise =
        omega (
          arith,
          flip F st (λ q. nothing) (set x j v) i (omega (arith, length-set x j v)) (set_full j v hj small) hi,
          settled_merged F fits (set x j v) (λ k. omega (arith, set_full j v hj small k)) i,
          sum_add F.n (λ k. only (eqb (get_or (set x j v) k 0) 1) (merged F i k)) (pulls F x i j) (λ k. only (eqb j k) (only (eqb v 1) (merged F i k))) (λ k h. term k),
          sum_at F.n (λ k. only (eqb v 1) (merged F i k)) j hj,
        )

  module _ (i j : ℕ) (hi : i < F.n) (hj : j < F.n) (ne : i ≢ j) where
    -- the corners: 10 and 01 from 00, and 11 from 10
    corner_10 : twice_f F (at true false x i j) ≈ twice_f F (at false false x i j) ⊕ slope F x i j
    corner_10 = rw (set_comm x i j 1 0 ne, set_comm x i j 0 0 ne) (omega (arith, rise i j 0 hi hj ne (omega arith)))

    corner_01 : twice_f F (at false true x i j) ≈ twice_f F (at false false x i j) ⊕ slope F x j i
    corner_01 = omega (arith, rise j i 0 hj hi (λ z. ne (sym z)) (omega arith))

    corner_11 : twice_f F (at true true x i j) ≈ twice_f F (at true false x i j) ⊕ slope F x j i ⊕ merged F i j
    corner_11 = omega (arith, rise j i 1 hj hi (λ z. ne (sym z)) (omega arith), merged_turn F i j)

    -- the gap in slopes
    pull_term : (a b : Bool) (k : ℕ) → pull_part min0 (pull a b F i j) x i j k ≈ signed a (pulls F x i j k) ⊕ signed b (pulls F x j i k)
    pull_term a b k =
        rw (share_test (min0 (pull a b F i j k)) (pull a b F i j k) (get_or x k 0) (omega (arith, full k)) (λ e. absurd (omega (arith, full k))))
        (go (not (eqb k i)) (not (eqb k j)) (eqb (get_or x k 0) 1))
      where
        none : signed a nothing ⊕ signed b nothing ≈ nothing
        none = omega (arith, signed_nothing a, signed_nothing b)

        go : (p q v : Bool) → only (p && q) (only v (pull a b F i j k)) ≈ signed a (only (p && q) (only v (merged F i k))) ⊕ signed b (only (q && p) (only v (merged F j k)))
        go true true true = refl
        go true true false = omega (arith, none)
        go true false v = omega (arith, none)
        go false true v = omega (arith, none)
        go false false v = omega (arith, none)

    split : (a b : Bool) → gap min0 a b F x i j ≈ signed a (slope F x i j) ⊕ signed b (slope F x j i) ⊕ own a b (merged F i j)
    split a b =
        omega (
          arith,
          sum_add F.n (pull_part min0 (pull a b F i j) x i j) (λ k. signed a (pulls F x i j k)) (λ k. signed b (pulls F x j i k)) (λ k h. pull_term a b k),
          signed_sum a F.n (pulls F x i j),
          signed_sum b F.n (pulls F x j i),
          signed_add a (slope F x i j) (F.linear i) (sum F.n (pulls F x i j)) refl,
          signed_add b (slope F x j i) (F.linear j) (sum F.n (pulls F x j i)) refl,
        )

    pub gap_is : (a b : Bool) → gap min0 a b F x i j ≈ difference a b F x i j
    gap_is true true = omega (arith, split true true, corner_10, corner_11)
    gap_is true false = omega (arith, split true false, corner_10, corner_01)
    gap_is false true = omega (arith, split false true, corner_10, corner_01)
    gap_is false false = omega (arith, split false false, corner_10, corner_11)
