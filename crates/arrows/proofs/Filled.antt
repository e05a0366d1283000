-- Cleared, marked and closed, the rows are what the literals reach. Assumes nothing.
use mathlib.Core.Path.{◌≡◌, refl, ap, ◌∙◌}
use mathlib.Core.Logic.{⊎_elim}
use mathlib.Core.Bool.{Bool, false, cond, ◌&&◌, ◌||◌}
use mathlib.Core.List.{List}
use Prim.Native.Nat.{ℕ, zero, suc, ◌*◌, ◌/◌, ◌%◌, ◌^◌, ◌<◌, ◌≤◌}
use native.Mathlib.Omega.{arith}
use lib.ListN.{length, get_or, replicate, length-replicate}
use lib.Pow.{high, pow_pos}
use lib.Dec.{eqb, ltb}
use borrow.Author.Tests.{lt-ltb, le-ltb}
use Rattle.meaning.specs.Literal.{Implication}
use Rattle.meaning.proofs.Literal.{Fits}
use Rattle.scratch.specs.Cleared.{cleared}
use Rattle.reaching.specs.Via.{arrow, within, via, reaches}
use Rattle.reaching.proofs.Truth.{true_or_false}
use Rattle.reaching.proofs.Via.{via_same, arrow_led}
use Rattle.bit_rows.specs.Rows.{digit, word_of, bit_in, Holding, closed}
use Rattle.arrows.specs.Marks.{more, selves, Marked, Filled}

zero_digit : (k : ℕ) → digit 0 k ≡ false
unfolding digit
zero_digit k = let e : 0 / 2 ^ k ≡ 0 = ap (λ (x : ℕ). x / 2 ^ k) (omega arith) ∙ high 0 k (pow_pos k) in rw e refl

all_zero : (n i : ℕ) → ◌≡◌ {A = ℕ} (get_or (replicate n 0) i 0) 0
all_zero zero i = refl
all_zero (suc n) zero = refl
all_zero (suc n) (suc i) = all_zero n i

pub clear_bits : (w : List ℕ) (a b : ℕ) → bit_in (cleared 0 w) a b ≡ false
unfolding bit_in
clear_bits w a b = ap (λ (x : ℕ). digit x (b % 64)) (all_zero (length w) (word_of a b)) ∙ zero_digit (b % 64)

-- no arrow begins past the variables
past : {E : List Implication} {n : ℕ} → Fits n E → (a b : ℕ) → 2 * n ≤ a → arrow E a b ≡ false
past {E} fits a b h = ⊎_elim (λ z. let l = arrow_led E a b z in absurd (omega (arith, l.from_a, (fits l.by l.among).from, (fits l.by l.among).when))) (λ z. z) (true_or_false (arrow E a b))

pub fill_done : {E : List Implication} {n : ℕ} {w w₀ w₁ w₂ w₃ : List ℕ} → Fits n E → n ≤ 1024
    → w₀ ≡ cleared 0 w → Holding (selves (2 * n) (bit_in w₀)) w₀ w₁ → Marked E w₁ w₂ → Holding (closed (bit_in w₂) (2 * n) (2 * n)) w₂ w₃
    → Filled E n w w₃
unfolding selves more closed within
fill_done {E} {n} {w} {w₀} {w₁} {w₂} {w₃} fits few e p q s = record { long = s.long ∙ q.long ∙ p.long ∙ ap length e ∙ length-replicate (length w) 0; rows = rows; last = last }
  where
    start : (a b : ℕ) → bit_in w₀ a b ≡ false
    start a b = rw e (clear_bits w a b)

    -- before the closure
    marks : (a b : ℕ) → b < 2048 → bit_in w₂ a b ≡ ((ltb a (2 * n) && eqb a b) || arrow E a b)
    marks a b h = q.bits a b h ∙ ap (λ (t : Bool). t || arrow E a b) (p.bits a b h ∙ ap (λ (t : Bool). t || (ltb a (2 * n) && eqb a b)) (start a b))

    one : (a b : ℕ) → a < 2 * n → b < 2048 → bit_in w₂ a b ≡ within E a b
    one a b ha hb = marks a b hb ∙ ap (λ (t : Bool). (t && eqb a b) || arrow E a b) (lt-ltb a (2 * n) ha)

    rows : (a b : ℕ) → a < 2 * n → b < 2048 → bit_in w₃ a b ≡ reaches E n a b
    rows a b ha hb =
        s.bits a b hb ∙ ap (λ (t : Bool). cond t (via (bit_in w₂) (2 * n) a b) (bit_in w₂ a b)) (lt-ltb a (2 * n) ha)
        ∙ via_same (bit_in w₂) (within E) (2 * n) 2048 (omega arith) one (2 * n) (omega arith) a b ha hb

    last : (b : ℕ) → b < 2048 → bit_in w₃ (2 * n) b ≡ false
    last b hb =
        let l = le-ltb (2 * n) (2 * n) (omega arith) in
        s.bits (2 * n) b hb ∙ ap (λ (t : Bool). cond t (via (bit_in w₂) (2 * n) (2 * n) b) (bit_in w₂ (2 * n) b)) l
        ∙ marks (2 * n) b hb ∙ ap (λ (t : Bool). (t && eqb (2 * n) b) || arrow E (2 * n) b) l ∙ past fits (2 * n) b (omega arith)
