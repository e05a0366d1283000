-- The pieces of a tally's text make the whole of it. Assumes nothing.
use Prim.Native.Nat.{ℕ, zero, suc, ◌+◌, ◌-◌, ◌*◌, ◌/◌, ◌%◌, ◌^◌, ◌<◌, ◌≤◌}
use mathlib.Core.Bool.{Bool, true, false}
use native.Mathlib.Nat.{div-add-mod', mod-lt, add-mul}
use lib.Dec.{leb}
use mathlib.Core.Path.{◌≡◌, refl, sym, ap, ◌∙◌}
use mathlib.Core.List.{List, [], ◌∷◌, ◌++◌, append-nil}
use native.Mathlib.Omega.{arith}
use borrow.Author.Tests.{eq-eqb, ne_eqb, leb-true, leb-false}
use lib.ListN.{length, length-append}
use Rattle.scratch.proofs.Over.{over_sets}
use Rattle.text.specs.Text.{decimal, space, newline, refused_text, Wrote, Written}
use Rattle.text.proofs.Writes.{wrote_none, wrote_then, as_text, written, decimal_short}
use Rattle.tally.specs.Tally.{tally}
use Rattle.tally.specs.Text.{each_text, rate_text, line_of, ending_text, tally_text}
use Rattle.tally.specs.declared.Totals.{Totals}
use Rattle.tally.specs.declared.Ending.{Ending}
use Rattle.tally.specs.declared.Ending.TheVariants.{Whole}

ne_zero : (n : ℕ) → (n ≡ 0 → ⊥) → 0 < n
ne_zero zero h = absurd (h refl)
ne_zero (suc n) h = omega arith

-- a quotient is at most k where the number is at most k times the divisor
div_most : (n m k : ℕ) → 0 < m → n ≤ k * m → n / m ≤ k
div_most n m k pos h = go (leb (n / m) k) refl
  where
    go : (b : Bool) → leb (n / m) k ≡ b → n / m ≤ k
    go true e = leb-true (n / m) k e
    go false e =
        let above : k < n / m = leb-false (n / m) k e in
        let more : n / m ≡ (k + 1) + (n / m - (k + 1)) = omega arith in
        absurd (omega (arith, h, pos, div-add-mod' n m, ap (λ (x : ℕ). x * m) more, add-mul (k + 1) (n / m - (k + 1)) m, add-mul k 1 m))

-- a total has sixteen digits at most, the rate four and its remainder seventeen
pub total_short : (n : ℕ) → n ≤ 2 ^ 53 → length (decimal n) ≤ 16
total_short n h = decimal_short 15 n (omega arith)

pub rate_short : (n : ℕ) → n ≤ 1000 → length (decimal n) ≤ 4
rate_short n h = decimal_short 3 n (omega arith)

pub rest_short : (n : ℕ) → n < 3 * 2 ^ 53 → length (decimal n) ≤ 17
rest_short n h = decimal_short 16 n (omega arith)

-- the rate is 1000 at most, and its remainder is below the rest
pub rate_few : (forced rest : ℕ) → forced ≤ rest → (rest ≡ 0 → ⊥) → 1000 * forced / rest ≤ 1000
rate_few forced rest h some = div_most (1000 * forced) rest 1000 (ne_zero rest some) (omega (arith, h))

pub rest_few : (forced rest : ℕ) → rest ≤ 3 * 2 ^ 53 → (rest ≡ 0 → ⊥) → 1000 * forced % rest < 3 * 2 ^ 53
rest_few forced rest h some = omega (arith, mod-lt (1000 * forced) {m = rest} (ne_zero rest some))

pub each_four : (a b c d : ℕ) {o₀ o₁ o₂ o₃ o : List ℕ} {at r₁ r₂ r₃ r : ℕ} → Wrote (decimal a ++ space) o₀ at o₁ r₁ → Wrote (decimal b ++ space) o₁ r₁ o₂ r₂
    → Wrote (decimal c ++ space) o₂ r₂ o₃ r₃ → Wrote (decimal d ++ space) o₃ r₃ o r → Wrote (each_text (a ∷ b ∷ c ∷ d ∷ [])) o₀ at o r
unfolding each_text
each_four a b c d w₁ w₂ w₃ w₄ = wrote_then w₁ (wrote_then w₂ (wrote_then w₃ (as_text (sym (append-nil (decimal d ++ space))) w₄)))

module _ (forced rest : ℕ) {o₀ o : List ℕ} {at r : ℕ} where
  pub rate_none : rest ≡ 0 → Wrote (45 ∷ []) o₀ at o r → Wrote (rate_text forced rest) o₀ at o r
  unfolding rate_text
  rate_none e w = simp (eq-eqb rest 0 e) w

  pub rate_some : {o₁ o₂ : List ℕ} {r₁ r₂ : ℕ} → (rest ≡ 0 → ⊥) → Wrote (decimal (1000 * forced / rest)) o₀ at o₁ r₁ → Wrote space o₁ r₁ o₂ r₂
      → Wrote (decimal (1000 * forced % rest)) o₂ r₂ o r → Wrote (rate_text forced rest) o₀ at o r
  unfolding rate_text
  rate_some n w₁ w₂ w₃ = simp (ne_eqb rest 0 n) (wrote_then w₁ (wrote_then w₂ w₃))

module _ (t : Totals) {o₀ o₁ o₂ o₃ o : List ℕ} {at r₁ r₂ r₃ r : ℕ} where
  pub line_written : Wrote (each_text (t.read ∷ t.exact ∷ t.inexact ∷ t.refused ∷ [])) o₀ at o₁ r₁
      → Wrote (each_text (t.given ∷ t.zero ∷ t.one ∷ t.free ∷ [])) o₁ r₁ o₂ r₂
      → Wrote (rate_text (t.zero + t.one) (t.zero + t.one + t.free)) o₂ r₂ o₃ r₃
      → Wrote newline o₃ r₃ o r → Wrote (line_of t) o₀ at o r
  unfolding line_of
  line_written w₁ w₂ w₃ w₄ = wrote_then w₁ (wrote_then w₂ (wrote_then w₃ w₄))

-- ---- the ending

-- what stands at the front was written from there
wrote : {text o₀ o : List ℕ} {r : ℕ} → length text ≤ length o₀ → Written text o₀ o r → Wrote text o₀ 0 o r
wrote {text} {o₀} h w = record { list = w.list ∙ sym (over_sets text o₀ h); next = omega (arith, w.size) }

pub refused_short : (n : ℕ) → n < 1000 → length (refused_text n) ≤ 12
unfolding refused_text
refused_short n h =
    omega (arith, decimal_short 2 n h, length-append (decimal n) newline)

module _ {ending : Ending} {o₀ : List ℕ} where
  pub ending_none : ending ≡ Whole → Wrote (ending_text ending) o₀ 0 o₀ 0
  unfolding ending_text
  ending_none e = rw e wrote_none

  pub ending_some : {e : Ending} {o : List ℕ} {r : ℕ} (n : ℕ) → ending ≡ e → ending_text e ≡ refused_text n → n < 1000 → 12 ≤ length o₀ → Written (refused_text n) o₀ o r
      → Wrote (ending_text ending) o₀ 0 o r
  ending_some n e text small room w = as_text (sym text ∙ ap ending_text (sym e)) (wrote (omega (arith, refused_short n small)) w)

pub tally_written : (ending : Ending) (t : Totals) {o₀ o₁ o : List ℕ} {at r : ℕ} → Wrote (ending_text ending) o₀ 0 o₁ at → Wrote (line_of t) o₁ at o r → r ≤ length o₀
    → Written (tally_text (tally ending t)) o₀ o r
unfolding tally_text
tally_written ending t w v h = written (wrote_then w v) h
