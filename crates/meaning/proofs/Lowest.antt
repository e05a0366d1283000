-- The completion with 1 at each free place whose weight is below 0: it reaches the least that the free places can count. Assumes nothing.
use mathlib.Core.Path.{◌≡◌, refl, ap}
use mathlib.Core.Logic.{◌⊎◌, inl, inr}
use mathlib.Core.Bool.{Bool, true, false}
use mathlib.Core.List.{List, [], ◌∷◌}
use Prim.Native.Nat.{ℕ, zero, suc, ◌≤◌, ◌<◌}
use native.Mathlib.Omega.{arith}
use lib.ListN.{length, get_or}
use lib.Dec.{ltb}
use borrow.Author.Tests.{ltb-true, ltb-false}
use Rattle.whole.specs.Whole.{Whole, sum, min0, ◌≈◌}
use Rattle.whole.proofs.Sums.{only_same, sum_same}
use Rattle.meaning.specs.Steps.{Valid}
use Rattle.meaning.specs.Field.{Completion}
use Rattle.meaning.specs.Gradient.{share}
use Rattle.meaning.specs.Pair.{bit, other, pull_part, fill, lowest}

lowest_at : (w : ℕ → Whole) (s : List ℕ) (k : ℕ) → get_or (lowest w s) k 0 ≡ fill (get_or s k 0) (ltb (w k).plus (w k).less)
unfolding fill
lowest_at w [] k = refl
lowest_at w (v ∷ s) zero = refl
lowest_at w (v ∷ s) (suc k) = lowest_at (λ i. w (suc i)) s k

lowest_length : (w : ℕ → Whole) (s : List ℕ) → length (lowest w s) ≡ length s
lowest_length w [] = refl
lowest_length w (v ∷ s) = ap suc (lowest_length (λ i. w (suc i)) s)

pub bit_small : (b : Bool) → bit b < 2
bit_small true = omega arith
bit_small false = omega arith

fill_small : (v : ℕ) (b : Bool) → fill v b < 2
unfolding fill
fill_small zero b = omega arith
fill_small (suc zero) b = omega arith
fill_small (suc (suc v)) b = bit_small b

fill_keeps : (v : ℕ) (b : Bool) → v ≤ 2 → (v ≡ 2) ⊎ (fill v b ≡ v)
unfolding fill
fill_keeps zero b h = inr refl
fill_keeps (suc zero) b h = inr refl
fill_keeps (suc (suc v)) b h = inl (omega arith)

pub lowest_completion : (w : ℕ → Whole) (s : List ℕ) → Valid s → Completion s (lowest w s)
lowest_completion w s valid =
    record {
      extends = record { as_long = lowest_length w s; kept = λ k. rw (lowest_at w s k) (fill_keeps (get_or s k 0) _ (valid k)) };
      full = λ k. rw (lowest_at w s k) (fill_small (get_or s k 0) _);
    }

share_lowest : (q : Whole) (v : ℕ) (b : Bool) → ltb q.plus q.less ≡ b → share (min0 q) q (fill v b) ≈ share (min0 q) q v
unfolding fill share
share_lowest q zero b e = omega arith
share_lowest q (suc zero) b e = omega arith
share_lowest q (suc (suc v)) true e = omega (arith, ltb-true q.plus q.less e)
share_lowest q (suc (suc v)) false e = omega (arith, ltb-false q.plus q.less e)

pub lowest_reaches : (n : ℕ) (w : ℕ → Whole) (s : List ℕ) (i j : ℕ) → sum n (pull_part min0 w (lowest w s) i j) ≈ sum n (pull_part min0 w s i j)
lowest_reaches n w s i j =
    sum_same n (pull_part min0 w (lowest w s) i j) (pull_part min0 w s i j) (λ k h.
    rw (lowest_at w s k) (only_same (other i j k) _ _ (λ e. share_lowest (w k) (get_or s k 0) _ refl)))
