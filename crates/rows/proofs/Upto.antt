-- The list of a function's values below n. Assumes nothing.
use Prim.Native.Nat.{ℕ, zero, suc, ◌<◌}
use mathlib.Core.Path.{◌≡◌, refl, sym, ap, ◌∙◌}
use mathlib.Core.Logic.{⊎_elim}
use mathlib.Core.List.{[], ◌∷◌}
use native.Mathlib.Nat.{le_of_suc-le-suc, not-suc-le-zero, eq-or-lt_of_le}
use native.Mathlib.Omega.{arith}
use lib.ListN.{length, get_or, length-append, get_or-append}
use lib.Seq.{get_or_at}
use Rattle.rows.specs.Stored.{up_to}

module _ {A : Type 0} where
  pub length_up_to : (g : ℕ → A) (n : ℕ) → length (up_to g n) ≡ n
  unfolding up_to
  length_up_to g zero = refl
  length_up_to g (suc n) = omega (arith, length-append (up_to g n) (g n ∷ []), length_up_to g n)

  pub get_d_up_to : (g : ℕ → A) (n i : ℕ) (d : A) → i < n → get_or (up_to g n) i d ≡ g i
  unfolding up_to
  get_d_up_to g zero i d h = absurd (not-suc-le-zero h)
  get_d_up_to g (suc n) i d h =
      ⊎_elim
      (λ e. get_or_at (up_to g n) (g n) [] d i (length_up_to g n ∙ sym e) ∙ ap g (sym e))
      (λ l. get_or-append (up_to g n) (g n ∷ []) d i (omega (arith, length_up_to g n)) ∙ get_d_up_to g n i d l)
      (eq-or-lt_of_le (le_of_suc-le-suc h))

  -- functions that agree below n have one list
  pub up_to_same : (g h : ℕ → A) (n : ℕ) → ((i : ℕ) → i < n → g i ≡ h i) → up_to g n ≡ up_to h n
  unfolding up_to
  up_to_same g h zero e = refl
  up_to_same g h (suc n) e = rw (up_to_same g h n (λ i l. e i (omega arith)), e n (omega arith))
