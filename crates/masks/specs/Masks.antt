-- Masks of at most 10 bits; terms, each of which counts in the masks that have its required bits; the sum of each mask, and the lowest mask of least sum. Assumes nothing.
use Rattle.std.specs.Prelude.{ℕ, zero, suc, ◌+◌, ◌/◌, ◌%◌, ◌^◌, ◌<◌, ◌≡◌, ◌⊎◌, Bool, true, false, cond, List, [], ◌∷◌, eqb, length, get_or, Float}
use Rattle.std.specs.Int.Bits.{bit_and}
use Rattle.std.specs.Float.{nan, binary64}
use Rattle.std.specs.Float.Ieee.{add, lt, of_bits}
use Rattle.whole.specs.Whole.{Whole, ◌⊑◌}
use Rattle.weights.specs.Worth.{zero64}

-- a value, and the bits that a mask must have for it to count
pub record Term : Type 0 where
  pub required : ℕ
  pub value : Float

-- A term made of the bits that it requires and its value, in this order.
abbrev pub term : ℕ → Float → Term
term r v = record { required = r; value = v }

-- the mask has every required bit
unfoldable pub has : ℕ → ℕ → Bool
has mask required = eqb (bit_and mask required) required

-- the sum of a mask after one more term
unfoldable pub plus : ℕ → Float → Term → Float
plus mask sum t = cond (has mask t.required) (add binary64 sum t.value) sum

-- and after more of them, in their order
unfoldable pub sum_at : ℕ → Float → List Term → Float
sum_at mask sum [] = sum
sum_at mask sum (t ∷ ts) = sum_at mask (plus mask sum t) ts

-- The objective of a mask: the sum of all terms whose required bits it has, from 0.0 on.
abbrev pub objective : List Term → ℕ → Float
objective ts mask = sum_at mask zero64 ts

-- a mask and its sum
pub record Best : Type 0 where
  pub sum : Float
  pub mask : ℕ

-- Plus infinity, which every sum that is a number is at most.
abbrev pub top : Float
top = of_bits binary64 0x7ff0_0000_0000_0000

-- the lowest mask of least sum among those below n; where all are NaN or plus infinity it is 0, and minus infinity is least (rule 5.7)
unfoldable pub best_of : (ℕ → Float) → ℕ → Best
best_of g zero = record { sum = top; mask = 0 }
best_of g (suc n) = cond (lt (g n) (best_of g n).sum) (record { sum = g n; mask = n }) (best_of g n)

-- The mask of least sum among those below n, the lowest of them where several are equal.
abbrev pub lowest : (ℕ → Float) → ℕ → ℕ
lowest g n = (best_of g n).mask

-- ---- what the mask is that wins

-- where mask m counts g m: of the masks below n none counts less than this one, and each lower one counts more
pub record Won (g : ℕ → Whole) (n mask : ℕ) : Type 0 where
  pub below : mask < n
  pub least : (m : ℕ) → m < n → g mask ⊑ g m
  pub lowest : (m : ℕ) → m < mask → (g mask).plus + (g m).less < (g m).plus + (g mask).less

-- whatever the sums f are: of the masks below n none has a sum below this one's, each lower one has a NaN or a sum above it,
-- and this one's is below plus infinity if any is
pub record First (f : ℕ → Float) (n mask : ℕ) : Type 0 where
  pub least : (m : ℕ) → m < n → lt (f m) (f mask) ≡ false
  pub lowest : (m : ℕ) → m < mask → (f m ≡ nan) ⊎ (lt (f mask) (f m) ≡ true)
  pub below_top : (m : ℕ) → m < n → lt (f m) top ≡ true → lt (f mask) top ≡ true

-- in the values, member b has bit b of the mask
abbrev pub HasBits : List ℕ → List ℕ → ℕ → Type 0
HasBits values members mask = (b : ℕ) → b < length members → get_or values (get_or members b 0) 0 ≡ mask / 2 ^ b % 2
