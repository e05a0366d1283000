-- The bits that a mask must have: one bit, and the bits of two masks together. Assumes nothing.
use Prim.Native.Nat.{ℕ, zero, suc, ◌/◌, ◌%◌, ◌^◌}
use mathlib.Core.Path.{◌≡◌, refl, sym, ap, ◌∙◌}
use mathlib.Core.Bool.{Bool, true, false, ◌&&◌}
use native.Mathlib.Omega.{arith}
use native.Mathlib.Nat.{pow-suc}
use lib.Arith.{bin_ind}
use lib.Bits.{bit_or, or_step}
use lib.Dec.{eqb}
use lib.Pow.{shr-shr}
use borrow.Author.Tests.{eqb-true, eq-eqb}
use Rattle.masks.specs.Masks.{has}
use Rattle.masks.proofs.Parts.{Part, part_half, part_digit, part_join, has_part, part_has}

same_test : (a b : Bool) → (a ≡ true → b ≡ true) → (b ≡ true → a ≡ true) → a ≡ b
same_test true b f g = sym (f refl)
same_test false true f g = g refl
same_test false false f g = refl

-- ---- one bit

bit_part : (b m : ℕ) → m / 2 ^ b % 2 ≡ 1 → Part (2 ^ b) m
bit_part zero m e = part_join 1 m refl (omega arith)
bit_part (suc b) m e =
    let p = pow-suc 2 b in
    let h : 2 ^ suc b / 2 ≡ 2 ^ b = omega arith in
    part_join (2 ^ suc b) m (rw h (bit_part b (m / 2) (ap (λ (x : ℕ). x % 2) (shr-shr m 1 b ∙ ap (λ (k : ℕ). m / 2 ^ k) (omega arith)) ∙ e))) (omega arith)

part_bit : (b m : ℕ) → Part (2 ^ b) m → m / 2 ^ b % 2 ≡ 1
part_bit zero m e = let d = part_digit 1 m e in omega arith
part_bit (suc b) m e =
    let p = pow-suc 2 b in
    let h : 2 ^ suc b / 2 ≡ 2 ^ b = omega arith in
    sym (ap (λ (x : ℕ). x % 2) (shr-shr m 1 b ∙ ap (λ (k : ℕ). m / 2 ^ k) (omega arith))) ∙ part_bit b (m / 2) (rw h at (part_half (2 ^ suc b) m e))

-- a mask has bit b exactly if that digit is 1
pub has_bit : (m b : ℕ) → has m (2 ^ b) ≡ eqb (m / 2 ^ b % 2) 1
has_bit m b =
    same_test (has m (2 ^ b)) (eqb (m / 2 ^ b % 2) 1)
    (λ h. eq-eqb _ 1 (part_bit b m (has_part m (2 ^ b) h)))
    (λ h. part_has m (2 ^ b) (bit_part b m (eqb-true _ 1 h)))

-- ---- two masks together

or_part : (x y m : ℕ) → Part x m → Part y m → Part (bit_or x y) m
or_part = bin_ind (λ (x : ℕ). (y m : ℕ) → Part x m → Part y m → Part (bit_or x y) m) (λ y m p q. q) (λ x ih y m p q.
    let e = or_step x y in
    let a = part_digit x m p in
    let b = part_digit y m q in
    let h : bit_or x y / 2 ≡ bit_or (x / 2) (y / 2) = omega arith in
    part_join (bit_or x y) m (rw h (ih (y / 2) (m / 2) (part_half x m p) (part_half y m q))) (omega arith))

part_or : (x y m : ℕ) → Part (bit_or x y) m → Part x m × Part y m
part_or = bin_ind (λ (x : ℕ). (y m : ℕ) → Part (bit_or x y) m → Part x m × Part y m) (λ y m p. (refl, p)) (λ x ih y m p.
    let e = or_step x y in
    let a = part_digit (bit_or x y) m p in
    let h : bit_or x y / 2 ≡ bit_or (x / 2) (y / 2) = omega arith in
    let z = ih (y / 2) (m / 2) (rw h at (part_half (bit_or x y) m p)) in
    (part_join x m z.0 (omega arith), part_join y m z.1 (omega arith)))

pub has_both : (m x y : ℕ) → has m (bit_or x y) ≡ (has m x && has m y)
has_both m x y =
    same_test (has m (bit_or x y)) (has m x && has m y)
    (λ h. let p = part_or x y m (has_part m (bit_or x y) h) in rw (part_has m x p.0, part_has m y p.1) refl)
    (λ h. let p = split (has m x) (has m y) h in part_has m (bit_or x y) (or_part x y m (has_part m x p.0) (has_part m y p.1)))
  where
    split : (a b : Bool) → (a && b) ≡ true → (a ≡ true) × (b ≡ true)
    split true b e = (refl, e)
    split false b e = let z : ◌≡◌ {A = ℕ} 0 1 = cc in absurd (omega arith)
