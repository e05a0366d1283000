-- Variables of no effect at 0: what they keep, that some best completion has them, and that the closure does not see them. Assumes nothing.
use Prim.Native.Nat.{ℕ, zero, suc, ◌<◌, ◌≤◌}
use mathlib.Core.Path.{◌≡◌, refl, sym, ap, ◌∙◌}
use mathlib.Core.Logic.{◌≢◌, ◌⊎◌, inl, inr, ⊎_elim}
use mathlib.Core.Bool.{Bool, true, false, cond, ◌&&◌, true≢false}
use mathlib.Core.List.{List}
use native.Mathlib.Decide.{ℕ_discrete}
use native.Mathlib.Omega.{arith}
use borrow.Author.Tests.{eqb-true}
use lib.ListN.{get_or, set}
use lib.Seq.{get_or-set_same, get_or-set_other}
use Rattle.meaning.specs.Free.{is_free}
use Rattle.meaning.specs.Steps.{Valid, Extends}
use Rattle.meaning.specs.Part.{Safe}
use Rattle.meaning.proofs.Values.{inside, extends_refl}
use Rattle.meaning.proofs.Safe.{every_safe, no_effect_safe, safe_trans}
use Rattle.scratch.proofs.All.{both}
use Rattle.field.specs.Field.{Field, variables, Shaped, StartFor}
use Rattle.field.specs.Grade.{ExactIn}
use Rattle.field.specs.Reading.{whole_of}
use Rattle.run.specs.Run.{closure}
use Rattle.run.proofs.Theorems.{closure_extends}
use Rattle.no_effect.specs.Effect.{has_no_effect}
use Rattle.no_effect.proofs.Listed.{effect_exact}
use Rattle.preprocess.specs.Working.{fix_at, fix_to, with_no_effect}
use Rattle.preprocess.proofs.Zeros.{fixes_long}
use Rattle.preprocess.proofs.Blind.{closure_blind, closure_leaves}

-- ---- one variable after another

-- what holds of the values, and still does with a free variable of those meant at 0, holds at the end
fix_ind : (p : ℕ → Bool) (P : List ℕ → Type 0) (k : ℕ) (s : List ℕ) → P s
    → ((i : ℕ) (t : List ℕ) → i < k → p i ≡ true → get_or t i 0 ≡ 2 → P t → P (set t i 0)) → P (fix_to p k s)
unfolding fix_to fix_at
fix_ind p P zero s h turn = h
fix_ind p P (suc k) s h turn = by (p k && is_free (fix_to p k s) k) refl (fix_ind p P k s h (λ i t l. turn i t (omega arith)))
  where
    by : (b : Bool) → (p k && is_free (fix_to p k s) k) ≡ b → P (fix_to p k s) → P (cond b (set (fix_to p k s) k 0) (fix_to p k s))
    by true e now = let t = both (p k) (is_free (fix_to p k s) k) e in turn k (fix_to p k s) (omega arith) t.0 (eqb-true _ _ t.1) now
    by false e now = now

-- a value of the start stays
pub fix_keeps : (p : ℕ → Bool) (k : ℕ) (s : List ℕ) (i : ℕ) → get_or s i 0 ≢ 2 → get_or (fix_to p k s) i 0 ≡ get_or s i 0
fix_keeps p k s i n = fix_ind p (λ t. get_or t i 0 ≡ get_or s i 0) k s refl (λ j t l e f h. get_or-set_other t j i 0 0 (λ q. n (sym h ∙ ap (λ (x : ℕ). get_or t x 0) q ∙ f)) ∙ h)

-- so does a variable that is not meant
pub fix_passes : (p : ℕ → Bool) (k : ℕ) (s : List ℕ) (i : ℕ) → p i ≡ false → get_or (fix_to p k s) i 0 ≡ get_or s i 0
fix_passes p k s i n = fix_ind p (λ t. get_or t i 0 ≡ get_or s i 0) k s refl (λ j t l e f h. get_or-set_other t j i 0 0 (λ q. true≢false (sym e ∙ ap p (sym q) ∙ n)) ∙ h)

-- so does one that is not reached yet
pub fix_later : (p : ℕ → Bool) (k : ℕ) (s : List ℕ) (i : ℕ) → k ≤ i → get_or (fix_to p k s) i 0 ≡ get_or s i 0
fix_later p k s i n = fix_ind p (λ t. get_or t i 0 ≡ get_or s i 0) k s refl (λ j t l e f h. get_or-set_other t j i 0 0 (λ q. omega arith) ∙ h)

zero_small : (t : List ℕ) (j : ℕ) → get_or t j 0 ≡ 2 → Valid t → Valid (set t j 0)
zero_small t j f h i = elim (ℕ_discrete i j) [
  | yes e ↦ rw (e, get_or-set_same t j 0 0 (inside t j f)) (omega arith)
  | no n ↦ rw (get_or-set_other t j i 0 0 n) (h i)
]

pub fix_start : {n : ℕ} (p : ℕ → Bool) (k : ℕ) {s : List ℕ} → StartFor n s → StartFor n (fix_to p k s)
fix_start p k {s} start = record { long = fixes_long p k s ∙ start.long; small = fix_ind p Valid k s start.small (λ i t l e f. zero_small t i f) }

module _ (F : Field) {s : List ℕ} (start : StartFor (variables F) s) where
  pub idle_start : StartFor (variables F) (with_no_effect F s)
  unfolding with_no_effect
  idle_start = fix_start (has_no_effect F) (variables F) start

  pub idle_extends : Extends s (with_no_effect F s)
  unfolding with_no_effect
  idle_extends = record {
    as_long = fixes_long (has_no_effect F) (variables F) s;
    kept = λ i. elim (ℕ_discrete (get_or s i 0) 2) [
      | yes e ↦ inl e
      | no n ↦ inr (fix_keeps (has_no_effect F) (variables F) s i n)
    ];
  }

pub idle_passes : (F : Field) (s : List ℕ) (i : ℕ) → has_no_effect F i ≡ false → get_or (with_no_effect F s) i 0 ≡ get_or s i 0
unfolding with_no_effect
idle_passes F s i e = fix_passes (has_no_effect F) (variables F) s i e

-- ---- the closure does not see them, on any field

module _ {F : Field} (shaped : Shaped F) {s : List ℕ} (start : StartFor (variables F) s) where
  -- so its values stay
  pub closure_stays : Extends (closure F s) (closure F (with_no_effect F s))
  closure_stays = record {
    as_long = (closure_extends F (idle_start F start)).as_long ∙ (idle_extends F start).as_long ∙ sym (closure_extends F start).as_long;
    kept = λ i. by i (has_no_effect F i) refl;
  }
    where
      by : (i : ℕ) (b : Bool) → has_no_effect F i ≡ b → (get_or (closure F s) i 0 ≡ 2) ⊎ (get_or (closure F (with_no_effect F s)) i 0 ≡ get_or (closure F s) i 0)
      by i false e = inr (closure_blind shaped s (with_no_effect F s) (idle_extends F start).as_long (idle_passes F s) i e)
      by i true e = ⊎_elim (λ f. inl (closure_leaves shaped s i e ∙ f)) (λ k. inr (closure_leaves shaped (with_no_effect F s) i e ∙ k ∙ sym (closure_leaves shaped s i e))) ((idle_extends F start).kept i)

-- ---- on an exact field

module _ {u : ℕ} {F : Field} (shaped : Shaped F) (exact : ExactIn u F) {s : List ℕ} (start : StartFor (variables F) s) where
  -- some best completion has them at 0
  pub idle_stands : Safe (whole_of u F) s (with_no_effect F s)
  unfolding with_no_effect
  idle_stands =
      (fix_ind (has_no_effect F) (λ t. Valid t × Safe (whole_of u F) s t) (variables F) s
      (start.small, every_safe (whole_of u F) start.small (extends_refl s) (λ x b. b.completion.extends))
      (λ i t l e f h. (zero_small t i f h.0, safe_trans h.1 (no_effect_safe h.0 i 0 f (omega arith) ((effect_exact i shaped exact l).0 e))))).1
