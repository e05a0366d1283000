-- What stands in the list: the numbers that pass, each of them, rising; and what it is to have no effect. Assumes nothing.
use Prim.Native.Nat.{ℕ, zero, suc, ◌+◌, ◌<◌, ◌≤◌}
use mathlib.Core.Path.{◌≡◌, refl, sym, ◌∙◌}
use mathlib.Core.Logic.{◌≢◌, ◌↔◌}
use mathlib.Core.Bool.{Bool, true, false, cond}
use mathlib.Core.List.{List, ◌∷◌}
use native.Mathlib.Decide.{ℕ_discrete}
use native.Mathlib.Omega.{arith}
use lib.ListN.{length, get_or}
use lib.Ieee.{eq}
use Rattle.meaning.specs.Part.{NoEffect}
use Rattle.weights.specs.Worth.{zero64, read}
use Rattle.weights.proofs.Worth.{eq_worth, zero_worth}
use Rattle.scratch.proofs.Means.{eq_is, ne_is, both_is, every_is}
use Rattle.field.specs.Field.{Field, variables, entries, linear_of, row_end, column_end, Shaped}
use Rattle.field.specs.Grade.{ExactIn}
use Rattle.field.specs.Reading.{whole_of}
use Rattle.field.proofs.Reading.{linear_worth}
use Rattle.no_effect.specs.Putting.{chosen_from}
use Rattle.no_effect.specs.Effect.{apart_at, untouched, has_no_effect, NoEntry}

-- ---- the numbers that pass

-- x is one of the k numbers from i on, and passes
abbrev Passes : (ℕ → Bool) → ℕ → ℕ → ℕ → Type 0
Passes p i k x = (p x ≡ true) × ((i ≤ x) × (x < i + k))

pub chosen_passes : (p : ℕ → Bool) (i k t : ℕ) → t < length (chosen_from p i k) → Passes p i k (get_or (chosen_from p i k) t 0)
unfolding chosen_from
chosen_passes p i zero t h = absurd (omega arith)
chosen_passes p i (suc k) t h = by (p i) refl (λ s l. let c = chosen_passes p (suc i) k s l in (c.0, (omega (arith, c.1.0), omega (arith, c.1.1)))) t h
  where
    by : (b : Bool) → p i ≡ b → ((s : ℕ) → s < length (chosen_from p (suc i) k) → Passes p i (suc k) (get_or (chosen_from p (suc i) k) s 0))
        → (s : ℕ) → s < length (cond b (i ∷ chosen_from p (suc i) k) (chosen_from p (suc i) k)) → Passes p i (suc k) (get_or (cond b (i ∷ chosen_from p (suc i) k) (chosen_from p (suc i) k)) s 0)
    by true e rest zero l = (e, omega arith)
    by true e rest (suc s) l = rest s (omega arith)
    by false e rest s l = rest s l

pub chosen_rises : (p : ℕ → Bool) (i k t : ℕ) → suc t < length (chosen_from p i k) → get_or (chosen_from p i k) t 0 < get_or (chosen_from p i k) (suc t) 0
unfolding chosen_from
chosen_rises p i zero t h = absurd (omega arith)
chosen_rises p i (suc k) t h = by (p i) (chosen_rises p (suc i) k) t h
  where
    by : (b : Bool) → ((s : ℕ) → suc s < length (chosen_from p (suc i) k) → get_or (chosen_from p (suc i) k) s 0 < get_or (chosen_from p (suc i) k) (suc s) 0)
        → (s : ℕ) → suc s < length (cond b (i ∷ chosen_from p (suc i) k) (chosen_from p (suc i) k))
        → get_or (cond b (i ∷ chosen_from p (suc i) k) (chosen_from p (suc i) k)) s 0 < get_or (cond b (i ∷ chosen_from p (suc i) k) (chosen_from p (suc i) k)) (suc s) 0
    by true rest zero l = omega (arith, (chosen_passes p (suc i) k 0 (omega arith)).1.0)
    by true rest (suc s) l = rest s (omega arith)
    by false rest s l = rest s l

-- x stands at some place of s
abbrev pub Stands : List ℕ → ℕ → Type 0
Stands s x = (t : ℕ) × ((t < length s) × (get_or s t 0 ≡ x))

pub chosen_all : (p : ℕ → Bool) (i k x : ℕ) → Passes p i k x → Stands (chosen_from p i k) x
unfolding chosen_from
chosen_all p i zero x h = absurd (omega arith)
chosen_all p i (suc k) x h = elim (ℕ_discrete x i) [
  | yes e ↦ here (p i) (rw e at h.0) e
  | no n ↦ there (p i) (chosen_all p (suc i) k x (h.0, (omega arith, omega arith)))
]
  where
    here : (b : Bool) → b ≡ true → x ≡ i → Stands (cond b (i ∷ chosen_from p (suc i) k) (chosen_from p (suc i) k)) x
    here b e f = rw e (0, (omega arith, sym f))

    there : (b : Bool) → Stands (chosen_from p (suc i) k) x → Stands (cond b (i ∷ chosen_from p (suc i) k) (chosen_from p (suc i) k)) x
    there true w = (suc w.0, (omega (arith, w.1.0), w.1.1))
    there false w = w

-- ---- no effect

-- no entry is at i, and c is 0
pub effect_means : (F : Field) (i : ℕ) → length F.rows ≡ entries F → (has_no_effect F i ≡ true) ↔ (NoEntry F i × (eq (linear_of F i) zero64 ≡ true))
unfolding has_no_effect untouched
effect_means F i long =
    let t = both_is (untouched F.rows F.cols i) (eq (linear_of F i) zero64)
    (every_is (apart_at F.rows F.cols i) (λ k. (row_end F k ≢ i) × (column_end F k ≢ i)) (length F.rows) (λ k. both_is _ _ (ne_is _ _) (ne_is _ _)))
    ((λ e. e), λ e. e) in
    ((λ e. let h = t.0 e in ((λ k l. h.0 k (omega arith)), h.1)), λ h. t.1 ((λ k l. h.0 k (omega arith)), h.1))

-- on an exact field, over whole numbers
pub effect_exact : {u : ℕ} {F : Field} (i : ℕ) → Shaped F → ExactIn u F → i < variables F → (has_no_effect F i ≡ true) ↔ NoEffect (whole_of u F) i
effect_exact {u} {F} i S x h =
    let t = effect_means F i S.rows_long in
    let worth = linear_worth x i h in
    let same = eq_worth worth (zero_worth worth.unit) in
    let z = eq_is ((read u (linear_of F i)).plus + 0) (0 + (read u (linear_of F i)).less) in (
      (λ e. let p = t.0 e in record { weightless = omega (arith, z.0 (sym same ∙ p.1)); apart = p.0 }),
      λ n. t.1 (n.apart, same ∙ z.1 (omega (arith, n.weightless))),
    )
