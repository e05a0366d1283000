-- Weights merged: the gradient counted by the variables at the other ends. Assumes nothing.
use mathlib.Core.Path.{◌≡◌, refl, sym, ap, ◌∙◌}
use mathlib.Core.Logic.{◌≢◌}
use mathlib.Core.Bool.{Bool, true, false}
use mathlib.Core.List.{List}
use Prim.Native.Nat.{ℕ, zero, suc, ◌≤◌, ◌<◌}
use native.Mathlib.Omega.{arith}
use lib.ListN.{get_or}
use lib.Dec.{eqb}
use borrow.Author.Tests.{eqb-true}
use Rattle.whole.specs.Whole.{Whole, nothing, ◌⊕◌, ◌⊖◌, only, sum, ◌≈◌, Zero}
use Rattle.whole.proofs.Sums.{only_zero, sum_add, sum_same, sum_zero, sum_turned, sum_at, sum_swap}
use Rattle.meaning.specs.Steps.{Valid}
use Rattle.meaning.specs.Field.{Field, Standard, Within}
use Rattle.meaning.specs.Gradient.{view, share, part}
use Rattle.meaning.specs.Pair.{joins, merged, signed, settled}
use Rattle.meaning.proofs.Only.{only_swap, only_add, only_sum}

-- ---- a sign

pub signed_nothing : (a : Bool) → Zero (signed a nothing)
signed_nothing true = refl
signed_nothing false = refl

pub signed_add : (a : Bool) (r p q : Whole) → r ≈ p ⊕ q → signed a r ≈ signed a p ⊕ signed a q
signed_add true r p q h = h
signed_add false r p q h = omega arith

pub signed_only : (a b : Bool) (w : Whole) → signed a (only b w) ≡ only b (signed a w)
signed_only true b w = refl
signed_only false true w = refl
signed_only false false w = refl

pub signed_sum : (a : Bool) (n : ℕ) (g : ℕ → Whole) → sum n (λ k. signed a (g k)) ≈ signed a (sum n g)
signed_sum true n g = refl
signed_sum false n g = omega (arith, sum_turned n (λ k. nothing ⊖ g k) g (λ k b. refl))

-- ---- merged weights

pub merged_turn : (F : Field) (i j : ℕ) → merged F i j ≈ merged F j i
merged_turn F i j =
    sum_same F.m _ _ (λ k h. rw (only_swap (eqb (F.row k) i) (eqb (F.column k) j) (F.weight k), only_swap (eqb (F.column k) i) (eqb (F.row k) j) (F.weight k)) (omega arith))

pub merged_self : (F : Field) → Standard F → (i : ℕ) → Zero (merged F i i)
merged_self F st i = sum_zero F.m _ (λ k h. omega (arith, clash (F.row k) (F.column k) (F.weight k) (st k h), clash (F.column k) (F.row k) (F.weight k) (λ z. st k h (sym z))))
  where
    clash : (r c : ℕ) (q : Whole) → r ≢ c → Zero (only (eqb r i) (only (eqb c i) q))
    clash r c q n = only_zero (eqb r i) _ (λ a. only_zero (eqb c i) _ (λ b. absurd (n (eqb-true r i a ∙ sym (eqb-true c i b)))))

-- ---- THE GRADIENT MERGED

-- where a free end counts nothing, or there is none, a share is a test of the value
pub share_test : (f q : Whole) (v : ℕ) → v ≤ 2 → (v ≡ 2 → f ≡ nothing) → share f q v ≡ only (eqb v 1) q
unfolding share
share_test f q zero h e = refl
share_test f q (suc zero) h e = refl
share_test f q (suc (suc zero)) h e = e refl
share_test f q (suc (suc (suc v))) h e = absurd (omega arith)

module _ (F : Field) (fits : Within F) (y : List ℕ) (valid : Valid y) (i : ℕ) where
  abbrev is_one : ℕ → Bool
  is_one k = eqb (get_or y k 0) 1

  -- what an entry of weight q between r and c counts at i
  abbrev counts : ℕ → ℕ → Whole → Whole
  counts r c q = only (eqb r i) (share nothing q (get_or y c 0)) ⊕ only (eqb c i) (share nothing q (get_or y r 0))

  only_turn : (a b d : Bool) (q : Whole) → only a (only b (only d q)) ≡ only d (only b (only a q))
  only_turn a b d q = ap (only a) (only_swap b d q) ∙ only_swap a d (only b q) ∙ ap (only d) (only_swap a b q)

  -- and what it counts where its other end is k
  abbrev counts_at : ℕ → ℕ → Whole → ℕ → Whole
  counts_at r c q k = only (is_one k) (only (eqb r i) (only (eqb c k) q) ⊕ only (eqb c i) (only (eqb r k) q))

  entry : (r c : ℕ) (q : Whole) → r < F.n → c < F.n → sum F.n (counts_at r c q) ≈ counts r c q
  entry r c q hr hc =
      rw (share_test nothing q (get_or y c 0) (valid c) (λ e. refl), share_test nothing q (get_or y r 0) (valid r) (λ e. refl))
      (omega (
        arith,
        sum_add F.n (counts_at r c q) (λ k. only (eqb c k) (at_end r k)) (λ k. only (eqb r k) (at_end c k)) (λ k h. term k),
        sum_at F.n (at_end r) c hc,
        sum_at F.n (at_end c) r hr,
      ))
    where
      at_end : ℕ → ℕ → Whole
      at_end e k = only (eqb e i) (only (is_one k) q)

      term : (k : ℕ) → counts_at r c q k ≈ only (eqb c k) (at_end r k) ⊕ only (eqb r k) (at_end c k)
      term k =
          rw (← only_turn (is_one k) (eqb r i) (eqb c k) q, ← only_turn (is_one k) (eqb c i) (eqb r k) q)
          (rw (only_add (is_one k) (only (eqb r i) (only (eqb c k) q)) (only (eqb c i) (only (eqb r k) q))) refl)

  -- with free ends counting nothing, the gradient is 2c and the merged weights of the variables that are 1
  pub settled_merged : settled F y i ≈ F.linear i ⊕ sum F.n (λ k. only (eqb (get_or y k 0) 1) (merged F i k))
  settled_merged =
      omega (
        arith,
        sum_same F.m (λ e. sum F.n (λ k. only (is_one k) (joins F i k e))) (part (λ q. nothing) F (view y) i) (λ e h. entry (F.row e) (F.column e) (F.weight e) (fits e h).0 (fits e h).1),
        sum_swap F.n F.m (λ k e. only (is_one k) (joins F i k e)),
        sum_same F.n (λ k. only (is_one k) (merged F i k)) (λ k. sum F.m (λ e. only (is_one k) (joins F i k e))) (λ k h. only_sum (is_one k) F.m (joins F i k)),
      )
