-- Codes and kinds name each other. Assumes nothing.
use Prim.Native.Nat.{ℕ, zero, suc, ◌<◌, ◌≤◌}
use mathlib.Core.Path.{◌≡◌, refl, sym, ap, ◌∙◌}
use native.Mathlib.Omega.{arith}
use Rattle.std.specs.Prelude.{Some, None}
use Rattle.constraints.specs.declared.Kind.{Kind}
use Rattle.constraints.specs.declared.Kind.TheVariants.{AtLeastOne, ExactlyOne, NoMoreThanOne, GreaterThan, LessThan, Equal}
use Rattle.constraints.specs.Codes.{code_of, kind_of}

-- Theorem. The code of a kind names it.
pub kind_of_code : (k : Kind) → kind_of (code_of k) ≡ Some k
kind_of_code AtLeastOne = refl
kind_of_code ExactlyOne = refl
kind_of_code NoMoreThanOne = refl
kind_of_code GreaterThan = refl
kind_of_code LessThan = refl
kind_of_code Equal = refl

-- Theorem. The kind that a code names has that code.
pub code_of_kind : (code : ℕ) (k : Kind) → kind_of code ≡ Some k → code_of k ≡ code
code_of_kind zero k e = let z : k ≡ AtLeastOne = cc in ap code_of z
code_of_kind (suc zero) k e = let z : k ≡ ExactlyOne = cc in ap code_of z
code_of_kind (suc (suc zero)) k e = let z : k ≡ NoMoreThanOne = cc in ap code_of z
code_of_kind (suc (suc (suc zero))) k e = let z : k ≡ GreaterThan = cc in ap code_of z
code_of_kind (suc (suc (suc (suc zero)))) k e = let z : k ≡ LessThan = cc in ap code_of z
code_of_kind (suc (suc (suc (suc (suc zero))))) k e = let z : k ≡ Equal = cc in ap code_of z
code_of_kind (suc (suc (suc (suc (suc (suc n)))))) k e = let z : ◌≡◌ {A = ℕ} 0 1 = cc in absurd (omega arith)

pub code_small : (k : Kind) → code_of k ≤ 5
code_small AtLeastOne = omega arith
code_small ExactlyOne = omega arith
code_small NoMoreThanOne = omega arith
code_small GreaterThan = omega arith
code_small LessThan = omega arith
code_small Equal = omega arith

-- a code that is none of the six names no kind
pub none_of : (code : ℕ) → (code ≡ 0 → ⊥) → (code ≡ 1 → ⊥) → (code ≡ 2 → ⊥) → (code ≡ 3 → ⊥) → (code ≡ 4 → ⊥) → (code ≡ 5 → ⊥) → None ≡ kind_of code
none_of zero a b c d e f = absurd (a refl)
none_of (suc zero) a b c d e f = absurd (b refl)
none_of (suc (suc zero)) a b c d e f = absurd (c refl)
none_of (suc (suc (suc zero))) a b c d e f = absurd (d refl)
none_of (suc (suc (suc (suc zero)))) a b c d e f = absurd (e refl)
none_of (suc (suc (suc (suc (suc zero))))) a b c d e f = absurd (f refl)
none_of (suc (suc (suc (suc (suc (suc n)))))) a b c d e f = refl

-- a code names no kind exactly if it is above 5
pub none_above : (code : ℕ) → 5 < code → None ≡ kind_of code
none_above code h = none_of code (λ e. omega arith) (λ e. omega arith) (λ e. omega arith) (λ e. omega arith) (λ e. omega arith) (λ e. omega arith)

pub unknown_above : (code : ℕ) → kind_of code ≡ None → 5 < code
unknown_above zero e = let z : ◌≡◌ {A = ℕ} 0 1 = cc in absurd (omega arith)
unknown_above (suc zero) e = let z : ◌≡◌ {A = ℕ} 0 1 = cc in absurd (omega arith)
unknown_above (suc (suc zero)) e = let z : ◌≡◌ {A = ℕ} 0 1 = cc in absurd (omega arith)
unknown_above (suc (suc (suc zero))) e = let z : ◌≡◌ {A = ℕ} 0 1 = cc in absurd (omega arith)
unknown_above (suc (suc (suc (suc zero)))) e = let z : ◌≡◌ {A = ℕ} 0 1 = cc in absurd (omega arith)
unknown_above (suc (suc (suc (suc (suc zero))))) e = let z : ◌≡◌ {A = ℕ} 0 1 = cc in absurd (omega arith)
unknown_above (suc (suc (suc (suc (suc (suc n)))))) e = omega arith

-- Theorem. Two kinds of one code are one.
pub code_names : (k l : Kind) → code_of k ≡ code_of l → k ≡ l
code_names k l e = let z : Some k ≡ Some l = sym (kind_of_code k) ∙ ap kind_of e ∙ kind_of_code l in let y : k ≡ l = cc in y
