-- Masks as parts of one another, digit by digit. Assumes nothing.
use Prim.Native.Nat.{ℕ, ◌+◌, ◌*◌, ◌/◌, ◌%◌, ◌≤◌, ◌<◌}
use mathlib.Core.Path.{◌≡◌, ap, ◌∙◌}
use mathlib.Core.Bool.{true}
use native.Mathlib.Omega.{arith}
use lib.Bits.{bit_and, and_step, and_le_l, and_le_r, and_comm, and_mask, and_block}
use borrow.Author.Tests.{eqb-true, eq-eqb}
use Rattle.masks.specs.Masks.{has}

-- every bit of a is one of b
abbrev pub Part : ℕ → ℕ → Type 0
Part a b = bit_and a b ≡ a

pub part_half : (a b : ℕ) → Part a b → Part (a / 2) (b / 2)
part_half a b h = omega (arith, and_step a b, and_le_l (a / 2) (b / 2))

pub part_digit : (a b : ℕ) → Part a b → a % 2 ≤ b % 2
part_digit a b h = omega (arith, and_step a b, and_le_l (a / 2) (b / 2))

pub part_join : (a b : ℕ) → Part (a / 2) (b / 2) → a % 2 ≤ b % 2 → Part a b
part_join a b h d = omega (arith, and_step a b)

-- ---- what a mask must have

pub has_part : (mask r : ℕ) → has mask r ≡ true → Part r mask
unfolding has
has_part mask r h = and_comm r mask ∙ eqb-true _ _ h

pub part_has : (mask r : ℕ) → Part r mask → has mask r ≡ true
unfolding has
part_has mask r h = eq-eqb _ _ (and_comm mask r ∙ h)

-- ---- a block of thirty-two masks, from a multiple of 32 on

-- a mask of the block has the required bits if the block has those above the last five, and the mask's last five have the others
module _ (base bits : ℕ) (e : base % 32 ≡ 0) where
  apart : (l : ℕ) → l < 32 → bit_and (base + l) bits ≡ bit_and (base / 32) (bits / 32) * 32 + bit_and l (bits % 32)
  apart l h =
      let x : base + l ≡ base / 32 * 32 + l = omega arith in
      let y : bits ≡ bits / 32 * 32 + bits % 32 = omega arith in
      ap (λ (m : ℕ). bit_and m bits) x ∙ ap (λ (b : ℕ). bit_and (base / 32 * 32 + l) b) y ∙ and_block 5 (base / 32) (bits / 32) l (bits % 32) h (omega arith)

  -- what one of them has, the last has too
  pub last_has : (l : ℕ) → l < 32 → bit_and (base + l) bits ≡ bits → bit_and (base + 31) bits ≡ bits
  last_has l h p = omega (arith, apart l h, apart 31 (omega arith), and_le_r l (bits % 32), and_comm 31 (bits % 32), and_mask (bits % 32) 5)

  -- what one of them has, its last five bits have of the last five
  pub low_has : (l : ℕ) → l < 32 → bit_and (base + l) bits ≡ bits → bit_and l (bits % 32) ≡ bits % 32
  low_has l h p = omega (arith, apart l h, and_le_r l (bits % 32))

  -- and where the last has the others, back again
  pub has_low : (l : ℕ) → l < 32 → bit_and (base + 31) bits ≡ bits → bit_and l (bits % 32) ≡ bits % 32 → bit_and (base + l) bits ≡ bits
  has_low l h w p = omega (arith, apart l h, apart 31 (omega arith), and_le_r 31 (bits % 32))
