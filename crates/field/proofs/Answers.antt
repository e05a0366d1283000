-- A number and a position name one refusal; which numbers there are. Assumes nothing.
use Prim.Native.Nat.{ℕ, ◌-◌, ◌≤◌}
use mathlib.Core.Path.{◌≡◌, refl, sym, ap, ◌∙◌}
use mathlib.Core.Logic.{◌≢◌}
use mathlib.Core.List.{[], ◌∷◌}
use native.Mathlib.Omega.{arith}
use lib.ListN.{get_or}
use Rattle.field.specs.declared.Refusal.{Refusal}
use Rattle.field.specs.declared.Refusal.TheVariants.{Variables, Lists, Row, Column, Repeat, Order, Diagonal, Weights, Start, Argument, Scratch, Room, Clash, Inexact, Unforced, Sum}
use Rattle.field.specs.Answers.{number_of, position_of}

-- 3 and 11 are no refusal's
named : ℕ → ℕ → Refusal
named number k = get_or (Variables ∷ Lists ∷ Clash ∷ Diagonal ∷ Weights ∷ Start ∷ Argument ∷ Scratch ∷ Room ∷ Clash ∷ Clash ∷ Inexact ∷ Unforced ∷ Row k ∷ Column k ∷ Repeat k ∷ Order k ∷ Sum ∷ []) (number - 1) Clash

named_number : (r : Refusal) → named (number_of r) (position_of r) ≡ r
unfolding named
named_number Variables = refl
named_number Lists = refl
named_number (Row k) = refl
named_number (Column k) = refl
named_number (Repeat k) = refl
named_number (Order k) = refl
named_number Diagonal = refl
named_number Weights = refl
named_number Start = refl
named_number Argument = refl
named_number Scratch = refl
named_number Room = refl
named_number Clash = refl
named_number Inexact = refl
named_number Unforced = refl
named_number Sum = refl

-- Theorem. Equal numbers and equal positions name one refusal.
pub number_names : (r s : Refusal) → number_of r ≡ number_of s → position_of r ≡ position_of s → r ≡ s
number_names r s e p = sym (named_number r) ∙ ap (λ k. named k (position_of r)) e ∙ ap (named (number_of s)) p ∙ named_number s

-- the largest number is 18, and 11 is none
pub number_most : (r : Refusal) → number_of r ≤ 18
number_most Variables = omega arith
number_most Lists = omega arith
number_most (Row k) = omega arith
number_most (Column k) = omega arith
number_most (Repeat k) = omega arith
number_most (Order k) = omega arith
number_most Diagonal = omega arith
number_most Weights = omega arith
number_most Start = omega arith
number_most Argument = omega arith
number_most Scratch = omega arith
number_most Room = omega arith
number_most Clash = omega arith
number_most Inexact = omega arith
number_most Unforced = omega arith
number_most Sum = omega arith

-- Theorem. No refusal has the number 3, which is not given any more, or 11, which is the record program's own.
pub number_other : (r : Refusal) → (number_of r ≢ 3) × (number_of r ≢ 11)
number_other Variables = ((λ e. omega arith), λ e. omega arith)
number_other Lists = ((λ e. omega arith), λ e. omega arith)
number_other (Row k) = ((λ e. omega arith), λ e. omega arith)
number_other (Column k) = ((λ e. omega arith), λ e. omega arith)
number_other (Repeat k) = ((λ e. omega arith), λ e. omega arith)
number_other (Order k) = ((λ e. omega arith), λ e. omega arith)
number_other Diagonal = ((λ e. omega arith), λ e. omega arith)
number_other Weights = ((λ e. omega arith), λ e. omega arith)
number_other Start = ((λ e. omega arith), λ e. omega arith)
number_other Argument = ((λ e. omega arith), λ e. omega arith)
number_other Scratch = ((λ e. omega arith), λ e. omega arith)
number_other Room = ((λ e. omega arith), λ e. omega arith)
number_other Clash = ((λ e. omega arith), λ e. omega arith)
number_other Inexact = ((λ e. omega arith), λ e. omega arith)
number_other Unforced = ((λ e. omega arith), λ e. omega arith)
number_other Sum = ((λ e. omega arith), λ e. omega arith)
