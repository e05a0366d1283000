-- A loop that stores one element a turn stores the list of a function's values. Assumes nothing.
use Prim.Native.Nat.{ℕ, ◌+◌, ◌<◌, ◌≤◌}
use mathlib.Core.Path.{◌≡◌, refl, sym, ◌∙◌}
use mathlib.Core.List.{List}
use native.Mathlib.Omega.{arith}
use borrow.Author.Count.{below_more}
use lib.ListN.{length, get_or, set, length-set}
use lib.Seq.{get_or-set_same, get_or-set_other, ext_get_or}
use Rattle.rows.specs.Stored.{up_to}
use Rattle.rows.proofs.Upto.{length_up_to, get_d_up_to}

-- s is s₀ with its first i elements set to the values of g; z stands past the end
pub record TakenTo {A : Type 0} (g : ℕ → A) (z : A) (s₀ s : List A) (i : ℕ) : Type 0 where
  pub within : i ≤ length s₀
  pub long : length s ≡ length s₀
  pub so_far : (j : ℕ) → j < i → get_or s j z ≡ g j

module _ {A : Type 0} (g : ℕ → A) (z : A) (s₀ : List A) where
  pub take_start : TakenTo g z s₀ s₀ 0
  take_start = record { within = omega arith; long = refl; so_far = λ j h. absurd (omega arith) }

  pub take_turn : {s : List A} {i : ℕ} → TakenTo g z s₀ s i → i < length s₀ → (x : A) → x ≡ g i → TakenTo g z s₀ (set s i x) (i + 1)
  take_turn {s} {i} now h x e = record {
    within = omega arith;
    long = length-set s i x ∙ now.long;
    so_far = below_more (λ j. get_or (set s i x) j z ≡ g j) i
        (λ j l. get_or-set_other s i j x z (λ n. omega arith) ∙ now.so_far j l)
        (get_or-set_same s i x z (omega (arith, now.long)) ∙ e);
  }

  pub take_done : {s : List A} {i : ℕ} → TakenTo g z s₀ s i → length s₀ ≤ i → s ≡ up_to g (length s₀)
  take_done {s} {i} now h =
      ext_get_or z s (up_to g (length s₀)) (now.long ∙ sym (length_up_to g (length s₀))) (λ j l.
      now.so_far j (omega (arith, now.long)) ∙ sym (get_d_up_to g (length s₀) j z (omega (arith, now.long))))
