-- THE BRIDGE for one part: on an exact field the enumerated values of a part that stands alone are in some best completion. Assumes nothing.
use Prim.Native.Nat.{ℕ, ◌/◌, ◌%◌, ◌^◌, ◌<◌, ◌≤◌}
use mathlib.Core.Path.{◌≡◌, refl, sym, ◌∙◌}
use mathlib.Core.Logic.{◌⊎◌, inl, inr}
use mathlib.Core.Bool.{Bool, true, false, cond}
use mathlib.Core.List.{List}
use native.Mathlib.Nat.{le_refl}
use native.Mathlib.Omega.{arith}
use lib.Pow.{pow_pos}
use lib.ListN.{length, get_or}
use lib.Seq.{ext_get_or}
use Rattle.whole.specs.Whole.{◌⊕◌, ◌≈◌}
use Rattle.meaning.specs.Steps.{Extends}
use Rattle.meaning.specs.Field.{twice_f, Completion, Best}
use Rattle.meaning.specs.Part.{mix, LeastOn, Safe}
use Rattle.meaning.proofs.Part.{mix_length, mix_at}
use Rattle.meaning.proofs.Theorems.{best_completion_exists, part_stands}
use Rattle.field.specs.Field.{Field, variables, Shaped, StartFor}
use Rattle.field.specs.Grade.{ExactIn}
use Rattle.field.specs.Reading.{whole_of}
use Rattle.parts.specs.Part.{has}
use Rattle.parts.proofs.Listed.{at_has}
use Rattle.masks.specs.Masks.{objective, Won}
use Rattle.masks.proofs.Winner.{winner}
use Rattle.enumeration.specs.Terms.{terms_of, mask_of, put_to, solved}
use Rattle.enumeration.specs.Alone.{Alone}
use Rattle.enumeration.specs.Weighed.{weighed}
use Rattle.enumeration.proofs.Putting.{put_long}
use Rattle.enumeration.proofs.Objective.{counted, same_bits, objective_worth}
use Rattle.enumeration.proofs.Exchange.{exchange}
use Rattle.enumeration.proofs.Bits.{put_at, put_other, mask_for, mask_below, mask_bits}

module _ {u : ℕ} {F : Field} (unit : u ≤ 2044) (shaped : Shaped F) (exact : ExactIn u F) {t ms : List ℕ} (valid : StartFor (variables F) t) (A : Alone u F t ms) (few : length ms ≤ 10) where
  -- the mask that wins is the lowest that counts least
  mask_won : Won (weighed u F t ms) (2 ^ length ms) (mask_of F t ms)
  unfolding mask_of
  mask_won = winner (objective (terms_of F t ms)) (weighed u F t ms) (2 ^ length ms) (pow_pos (length ms)) (λ m h. objective_worth unit shaped exact valid ms few A.below m)

  below_in : {x : List ℕ} → Extends t x → (b : ℕ) → b < length ms → get_or ms b 0 < length x
  below_in E b h = omega (arith, A.below b h, E.as_long, valid.long)

  -- a completion with the values of a mask
  with_mask : ℕ → List ℕ → List ℕ
  with_mask mask x = put_to x ms mask (length ms)

  bit_at : (mask : ℕ) {x : List ℕ} → Extends t x → (b : ℕ) → b < length ms → get_or (with_mask mask x) (get_or ms b 0) 0 ≡ mask / 2 ^ b % 2
  unfolding with_mask
  bit_at mask {x} E b h = put_at x ms mask A.once (below_in E) (length ms) b h (le_refl _)

  off_part : (mask : ℕ) (x : List ℕ) (i : ℕ) → has ms i ≡ false → get_or (with_mask mask x) i 0 ≡ get_or x i 0
  unfolding with_mask
  off_part mask x i e = put_other x ms mask i e (length ms) (le_refl _)

  completed : (mask : ℕ) {x : List ℕ} → Completion t x → Completion t (with_mask mask x)
  unfolding with_mask
  completed mask {x} C = record {
    extends = record {
      as_long = put_long x ms mask (length ms) ∙ C.extends.as_long;
      kept = λ i. kept i (has ms i) refl;
    };
    full = λ i. full i (has ms i) refl;
  }
    where
      kept : (i : ℕ) (b : Bool) → has ms i ≡ b → (get_or t i 0 ≡ 2) ⊎ (get_or (with_mask mask x) i 0 ≡ get_or t i 0)
      kept i true e = inl (A.free i e)
      kept i false e = rw (off_part mask x i e) (C.extends.kept i)

      full : (i : ℕ) (b : Bool) → has ms i ≡ b → get_or (with_mask mask x) i 0 < 2
      full i true e = let s = at_has ms i e in rw (← s.1.1, bit_at mask C.extends s.0 s.1.0) (omega arith)
      full i false e = rw (off_part mask x i e) (C.full i)

  bits_count : (mask : ℕ) {x : List ℕ} → Completion t x → weighed u F t ms mask ≈ counted u F t ms (with_mask mask x)
  bits_count mask {x} C = same_bits u F t ms (with_mask mask x) mask (λ b h. sym (bit_at mask C.extends b h))

  least_on : {x : List ℕ} → Completion t x → LeastOn (whole_of u F) t (has ms) (with_mask (mask_of F t ms) x)
  least_on {x} C = record {
    completion = completed (mask_of F t ms) C;
    least = λ z Z off.
        omega (
          arith,
          exchange shaped A (completed (mask_of F t ms) C) Z off,
          bits_count (mask_of F t ms) C,
          same_bits u F t ms z (mask_for z ms) (mask_bits z Z.full ms),
          mask_won.least (mask_for z ms) (mask_below z Z.full ms),
        );
  }

  -- of equal sums the lowest mask wins, whatever completion the values of a mask are put into
  pub part_lowest : {x : List ℕ} → Completion t x → Won (λ mask. twice_f (whole_of u F) (put_to x ms mask (length ms))) (2 ^ length ms) (mask_of F t ms)
  unfolding with_mask
  part_lowest {x} C = record {
    below = mask_won.below;
    least = λ mask h. omega (arith, swapped mask, bits_count mask C, bits_count (mask_of F t ms) C, mask_won.least mask h);
    lowest = λ mask h. omega (arith, swapped mask, bits_count mask C, bits_count (mask_of F t ms) C, mask_won.lowest mask h);
  }
    where
      swapped : (mask : ℕ)
          → twice_f (whole_of u F) (with_mask (mask_of F t ms) x) ⊕ counted u F t ms (with_mask mask x)
          ≈ twice_f (whole_of u F) (with_mask mask x) ⊕ counted u F t ms (with_mask (mask_of F t ms) x)
      swapped mask = exchange shaped A (completed (mask_of F t ms) C) (completed mask C) (λ i e. off_part mask x i e ∙ sym (off_part (mask_of F t ms) x i e))

  pub part_safe : Safe (whole_of u F) t (solved F t ms)
  unfolding solved with_mask
  part_safe = rw same at (part_stands (whole_of u F) valid.small (has ms) A.separate (least_on best.1.completion))
    where
      best : (x : List ℕ) × Best (whole_of u F) t x
      best = best_completion_exists (whole_of u F) t valid.small

      C : Completion t best.0
      C = best.1.completion

      long : length (with_mask (mask_of F t ms) best.0) ≡ length t
      long = put_long best.0 ms (mask_of F t ms) (length ms) ∙ C.extends.as_long

      at : (i : ℕ) (b : Bool) → has ms i ≡ b → cond b (get_or (with_mask (mask_of F t ms) best.0) i 0) (get_or t i 0) ≡ get_or (with_mask (mask_of F t ms) t) i 0
      at i true e =
          let s = at_has ms i e in
          rw (← s.1.1) (bit_at (mask_of F t ms) C.extends s.0 s.1.0 ∙ sym (bit_at (mask_of F t ms) (record { as_long = refl; kept = λ j. inr refl }) s.0 s.1.0))
      at i false e = sym (off_part (mask_of F t ms) t i e)

      same : mix (has ms) (with_mask (mask_of F t ms) best.0) t ≡ put_to t ms (mask_of F t ms) (length ms)
      same =
          ext_get_or 0 (mix (has ms) (with_mask (mask_of F t ms) best.0) t) (put_to t ms (mask_of F t ms) (length ms))
          (mix_length (has ms) (with_mask (mask_of F t ms) best.0) t long ∙ sym (put_long t ms (mask_of F t ms) (length ms)))
          (λ i h. mix_at (has ms) (with_mask (mask_of F t ms) best.0) t long i ∙ at i (has ms i) refl)
