-- Refusals differ, and none is what a call answers where it is done. Assumes nothing.
use Prim.Native.Nat.{ℕ}
use mathlib.Core.Path.{◌≡◌, ap}
use native.Mathlib.Omega.{arith}
use Rattle.std.specs.Prelude.{Ok, Err}
use Rattle.field.specs.declared.Refusal.{Refusal}
use Rattle.field.specs.declared.Grade.{Grade}
use Rattle.field.specs.declared.Counted.{Counted}
use Rattle.field.specs.Answers.{Answer, counted_answer}

pub same_refused : {A : Type 0} (r t : Refusal) → ◌≡◌ {A = Answer A} (Err r) (Err t) → r ≡ t
same_refused r t e = cc

pub done_apart : {A B : Type 0} {x : B} (r : Refusal) → ◌≡◌ {A = Answer B} (Ok x) (Err r) → A
done_apart r e = let z : ◌≡◌ {A = ℕ} 0 1 = cc in absurd (omega arith)

pub same_done : {B : Type 0} {x y : B} → ◌≡◌ {A = Answer B} (Ok x) (Ok y) → x ≡ y
same_done e = cc

pub same_counted : {g h : Grade} {k j : ℕ} → counted_answer g k ≡ counted_answer h j → (g ≡ h) × (k ≡ j)
same_counted e = let z = same_done e in (ap (λ (c : Counted). c.grade) z, ap (λ (c : Counted). c.count) z)
