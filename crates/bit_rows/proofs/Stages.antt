-- A stage of the closure, row by row, and all stages: the rows are the closure. Assumes nothing.
use mathlib.Core.Path.{◌≡◌, refl, sym, ap, ◌∙◌}
use mathlib.Core.Logic.{◌≢◌, ⊎_elim}
use mathlib.Core.Bool.{Bool, true, false, cond, ◌&&◌, ◌||◌, or-false}
use mathlib.Core.List.{List}
use Prim.Native.Nat.{ℕ, ◌+◌, ◌<◌, ◌≤◌}
use native.Mathlib.Numerals.{add-one}
use native.Mathlib.Omega.{arith}
use lib.Dec.{eqb, ltb}
use borrow.Author.Tests.{eqb-true, eqb-false, lt-ltb, le-ltb, ltb-true, ltb-false}
use Rattle.reaching.specs.Via.{via}
use Rattle.reaching.proofs.Truth.{true_or_false, same_test}
use Rattle.bit_rows.specs.Rows.{bit_in, Holding, joined, through, stepped, stage, closed, Staging, Closing}

-- ---- one row

pub step_joined : {w₀ w : List ℕ} (a k : ℕ) → bit_in w₀ a k ≡ true → Holding (joined (bit_in w₀) a k) w₀ w → Holding (stepped (bit_in w₀) k a) w₀ w
unfolding joined stepped through
step_joined {w₀} {w} a k e h = record { long = h.long; bits = λ c d l. h.bits c d l ∙ ap (λ (t : Bool). cond (eqb c a) (bit_in w₀ a d || (t && bit_in w₀ k d)) (bit_in w₀ c d)) (sym e) }

pub step_left : {w : List ℕ} (a k : ℕ) → bit_in w a k ≡ false → Holding (stepped (bit_in w) k a) w w
unfolding stepped through
step_left {w} a k e = record { long = refl; bits = λ c d l. go c d (eqb c a) refl }
  where
    go : (c d : ℕ) (s : Bool) → eqb c a ≡ s → bit_in w c d ≡ cond s (bit_in w a d || (bit_in w a k && bit_in w k d)) (bit_in w c d)
    go c d true p = let q = eqb-true c a p in rw (e, q) (sym (or-false (bit_in w a d)))
    go c d false p = refl

-- ---- the rows below i

pub stage_start : (k n : ℕ) (w : List ℕ) → Staging (bit_in w) k n w 0 w
unfolding stage
stage_start k n w = record { within = omega arith; held = record { long = refl; bits = λ c d l. rw (le-ltb c 0 (omega arith)) refl } }

absorb : (a b : Bool) → (b || (a && b)) ≡ b
absorb a true = refl
absorb true false = refl
absorb false false = refl

pub stage_turn : {w₀ w w₁ : List ℕ} {k n i : ℕ} → k < 2048 → i < n → Staging (bit_in w₀) k n w₀ i w → Holding (stepped (bit_in w) k i) w w₁ → Staging (bit_in w₀) k n w₀ (i + 1) w₁
unfolding stage stepped through
stage_turn {w₀} {w} {w₁} {k} {n} {i} hk hi s h = record { within = omega arith; held = record { long = h.long ∙ s.held.long; bits = bits } }
  where
    r : ℕ → ℕ → Bool
    r = bit_in w₀

    -- row k is as it was
    row_k : (d : ℕ) → d < 2048 → bit_in w k d ≡ r k d
    row_k d l = s.held.bits k d l ∙ same (ltb k i)
      where
        same : (t : Bool) → cond t (r k d || (r k k && r k d)) (r k d) ≡ r k d
        same true = absorb (r k k) (r k d)
        same false = refl

    -- and so is row i
    row_i : (d : ℕ) → d < 2048 → bit_in w i d ≡ r i d
    row_i d l = s.held.bits i d l ∙ rw (le-ltb i i (omega arith)) refl

    bits : (c d : ℕ) → d < 2048 → bit_in w₁ c d ≡ cond (ltb c (i + 1)) (r c d || (r c k && r k d)) (r c d)
    bits c d l = h.bits c d l ∙ go (eqb c i) refl
      where
        go : (t : Bool) → eqb c i ≡ t → cond t (bit_in w i d || (bit_in w i k && bit_in w k d)) (bit_in w c d) ≡ cond (ltb c (i + 1)) (r c d || (r c k && r k d)) (r c d)
        go true p = let q = eqb-true c i p in rw (q, lt-ltb i (i + 1) (omega arith), row_i d l, row_i k hk, row_k d l) refl
        go false p = s.held.bits c d l ∙ ap (λ (t : Bool). cond t (r c d || (r c k && r k d)) (r c d)) same
          where
            less : ltb c (i + 1) ≡ true → c ≢ i → c < i
            less z n = let m = ltb-true c (i + 1) z in ⊎_elim (λ y. ltb-true c i y) (λ y. let o = ltb-false c i y in absurd (n (omega arith))) (true_or_false (ltb c i))

            same : ltb c i ≡ ltb c (i + 1)
            same =
                same_test (ltb c i) (ltb c (i + 1))
                (λ z. lt-ltb c (i + 1) (omega (arith, ltb-true c i z)))
                (λ z. lt-ltb c i (less z (eqb-false c i p)))

-- ---- all stages

pub close_start : (n : ℕ) (w : List ℕ) → Closing (bit_in w) n w 0 w
unfolding closed via
close_start n w = record { within = omega arith; held = record { long = refl; bits = λ c d l. same (ltb c n) (bit_in w c d) } }
  where
    same : (t b : Bool) → b ≡ cond t b b
    same true b = refl
    same false b = refl

pub close_turn : {w₀ w w₁ : List ℕ} {n k : ℕ} → n ≤ 2048 → k < n → Closing (bit_in w₀) n w₀ k w → Holding (stage (bit_in w) k n) w w₁ → Closing (bit_in w₀) n w₀ (k + 1) w₁
unfolding stage through closed via
close_turn {w₀} {w} {w₁} {n} {k} few hk s h = record { within = omega arith; held = record { long = h.long ∙ s.held.long; bits = bits } }
  where
    r : ℕ → ℕ → Bool
    r = bit_in w₀

    at : (c d : ℕ) → c < n → d < 2048 → bit_in w c d ≡ via r k c d
    at c d hc l = s.held.bits c d l ∙ rw (lt-ltb c n hc) refl

    bits : (c d : ℕ) → d < 2048 → bit_in w₁ c d ≡ cond (ltb c n) (via r (k + 1) c d) (r c d)
    bits c d l = h.bits c d l ∙ go (ltb c n) refl
      where
        go : (t : Bool) → ltb c n ≡ t → cond t (bit_in w c d || (bit_in w c k && bit_in w k d)) (bit_in w c d) ≡ cond t (via r (k + 1) c d) (r c d)
        go true p = let q = ltb-true c n p in rw (add-one, at c d q l, at c k q (omega arith), at k d hk l) refl
        go false p = s.held.bits c d l ∙ rw p refl
