-- The variables of no effect take 0: how a loop that counts up fixes them. Assumes nothing.
use Prim.Native.Nat.{ℕ, zero, suc, ◌+◌, ◌<◌, ◌≤◌}
use mathlib.Core.Path.{◌≡◌, refl, sym, ap, ◌∙◌}
use mathlib.Core.Logic.{◌≢◌}
use mathlib.Core.Bool.{Bool, true, false, cond, ◌&&◌}
use mathlib.Core.List.{List}
use native.Mathlib.Nat.{le_antisymm}
use native.Mathlib.Numerals.{add-one}
use native.Mathlib.Omega.{arith}
use borrow.Author.Tests.{eq-eqb, ne_eqb}
use lib.ListN.{length, get_or, set, length-set}
use lib.Ieee.{Float, nan, eq}
use Rattle.weights.specs.Worth.{zero64}
use Rattle.scratch.proofs.All.{and_yes, and_no}
use Rattle.meaning.specs.Free.{is_free}
use Rattle.field.specs.Field.{field_of}
use Rattle.places.specs.Places.{Adjacent}
use Rattle.no_effect.specs.Effect.{has_no_effect}
use Rattle.preprocess.specs.Working.{idle, fix_at, fix_to, with_no_effect}
use Rattle.preprocess.proofs.Offsets.{idle_is}

-- ---- one variable

-- as the code tests it
module _ (c : List Float) (u : List ℕ) (i : ℕ) where
  pub placed_not : get_or u i 0 ≢ get_or u (i + 1) 0 → idle c u i ≡ false
  placed_not n = sym (and_no _ (ne_eqb (get_or u i 0) (get_or u (i + 1) 0) n))

  pub weighs_not : get_or u i 0 ≡ get_or u (i + 1) 0 → eq (get_or c i nan) zero64 ≡ false → idle c u i ≡ false
  weighs_not z e = sym (and_yes (eq-eqb (get_or u i 0) (get_or u (i + 1) 0) z) (sym e))

  pub is_idle : get_or u i 0 ≡ get_or u (i + 1) 0 → eq (get_or c i nan) zero64 ≡ true → idle c u i ≡ true
  is_idle z e = sym (and_yes (eq-eqb (get_or u i 0) (get_or u (i + 1) 0) z) (sym e))

module _ {b : Bool} (i : ℕ) (s : List ℕ) where
  pub not_meant : b ≡ false → s ≡ fix_at b i s
  unfolding fix_at
  not_meant e = rw e

  pub not_free : b ≡ true → get_or s i 0 ≢ 2 → s ≡ fix_at b i s
  unfolding fix_at
  not_free e n = rw (e, ne_eqb (get_or s i 0) 2 n)

  pub takes_zero : b ≡ true → get_or s i 0 ≡ 2 → set s i 0 ≡ fix_at b i s
  unfolding fix_at
  takes_zero e f = rw (e, eq-eqb (get_or s i 0) 2 f)

pub fix_long : (b : Bool) (i : ℕ) (s : List ℕ) → length (fix_at b i s) ≡ length s
unfolding fix_at
fix_long b i s = by (b && is_free s i)
  where
    by : (t : Bool) → length (cond t (set s i 0) s) ≡ length s
    by true = length-set s i 0
    by false = refl

-- ---- all of them

pub fixes_long : (p : ℕ → Bool) (i : ℕ) (s : List ℕ) → length (fix_to p i s) ≡ length s
unfolding fix_to
fixes_long p zero s = refl
fixes_long p (suc i) s = fix_long (p i) i (fix_to p i s) ∙ fixes_long p i s

-- tests that agree fix the same
fix_same : (p q : ℕ → Bool) (i : ℕ) (s : List ℕ) → ((j : ℕ) → j < i → p j ≡ q j) → fix_to p i s ≡ fix_to q i s
unfolding fix_to
fix_same p q zero s h = refl
fix_same p q (suc i) s h = rw (h i (omega arith), fix_same p q i s (λ j l. h j (omega arith)))

pub idle_fixed : (c : List Float) (rows cols : List ℕ) (q : List Float) (u s : List ℕ) → Adjacent (length c) rows cols u → length cols ≡ length rows
    → fix_to (idle c u) (length c) s ≡ with_no_effect (field_of c rows cols q) s
unfolding with_no_effect
idle_fixed c rows cols q u s A same = fix_same (idle c u) (has_no_effect (field_of c rows cols q)) (length c) s (idle_is c rows cols q u A same)

-- ---- the loop

pub record Fixes (p : ℕ → Bool) (n : ℕ) (s₀ : List ℕ) (i : ℕ) (s : List ℕ) : Type 0 where
  pub within : i ≤ n
  pub long : length s ≡ length s₀
  pub is : s ≡ fix_to p i s₀

module _ {p : ℕ → Bool} {n : ℕ} {s₀ : List ℕ} where
  pub fixes_start : Fixes p n s₀ 0 s₀
  unfolding fix_to
  fixes_start = record { within = omega arith; long = refl; is = refl }

  pub fixes_turn : {i : ℕ} {s s' : List ℕ} → Fixes p n s₀ i s → i < n → s' ≡ fix_at (p i) i s → Fixes p n s₀ (i + 1) s'
  unfolding fix_to
  fixes_turn {i} {s} {s'} now h e =
      record { within = omega arith; long = ap length e ∙ fix_long (p i) i s ∙ now.long; is = rw add-one (e ∙ ap (fix_at (p i) i) now.is) }

  pub fixes_done : {i : ℕ} {s : List ℕ} → Fixes p n s₀ i s → n ≤ i → s ≡ fix_to p n s₀
  fixes_done now h = now.is ∙ ap (λ (k : ℕ). fix_to p k s₀) (le_antisymm now.within h)
