-- A field's grade is exact exactly if some unit of 2^-20 to 2^20 serves, and the unit named is the smallest that does. Assumes nothing.
use Prim.Native.Nat.{ℕ, zero, suc, ◌+◌, ◌<◌, ◌≤◌, ◌^◌}
use mathlib.Core.Path.{◌≡◌, refl, sym, ◌∙◌, ap}
use mathlib.Core.Logic.{◌⊎◌, inl, inr, ⊎_elim, ◌↔◌}
use mathlib.Core.Bool.{Bool, true, false, cond, false≢true}
use mathlib.Core.List.{List, []}
use native.Mathlib.Nat.{le_refl, le_antisymm, lt_of_not-le, le_of_suc-le-suc, eq-or-lt_of_le}
use native.Mathlib.Omega.{arith}
use borrow.Author.Tests.{le-leb, lt-leb}
use lib.Dec.{T, leb}
use lib.ListN.{length, get_or}
use lib.Ieee.{Float, nan, binary64}
use Rattle.whole.specs.Whole.{Under}
use Rattle.weights.specs.Counts.{whole_in, plus, minus}
use Rattle.weights.specs.Worth.{Worth, read}
use Rattle.weights.proofs.Worth.{read_worth, worth_whole, worth_read, read_side}
use Rattle.scratch.proofs.Means.{true_is, both_is, every_is, le_is}
use Rattle.field.specs.declared.Grade.TheVariants.{Exact, Inexact}
use Rattle.field.specs.Field.{Field, field_of, entries, Standard}
use Rattle.field.specs.Grade.{finest, coarsest, weighs, all_weigh, serves, first_of, unit_of, is_exact_of, grade_of, Weighs, ExactIn, Serves}
use Rattle.field.specs.Tests.{off_diagonal}
use Rattle.field.proofs.Means.{diagonal_means}

-- ---- a weight

-- what is read of a weight is worth the weight, and both its sides are at most b
module _ {u b : ℕ} {x : Float} (w : Weighs u b x) where
  pub weighs_read : Worth u x (read u x)
  weighs_read = read_worth x w.worth.unit (worth_whole w.worth)

  pub weighs_under : Under b (read u x)
  weighs_under =
      let same = worth_read w.worth in
      ⊎_elim (λ z. omega (arith, w.at_most, w.at_least)) (λ z. omega (arith, w.at_most, w.at_least)) (read_side u x)

-- that is what is read of it, and the test means it
pub weighs_is : (u : ℕ) (x : Float) → u ≤ 2044 → (T (whole_in binary64 u x) × (plus binary64 u x + minus binary64 u x ≤ 2 ^ 31)) ↔ Weighs u (2 ^ 31) x
weighs_is u x unit = (to, from)
  where
    to : T (whole_in binary64 u x) × (plus binary64 u x + minus binary64 u x ≤ 2 ^ 31) → Weighs u (2 ^ 31) x
    to h = record { ledger = read u x; worth = read_worth x unit h.0; at_most = omega arith; at_least = omega arith }

    from : Weighs u (2 ^ 31) x → T (whole_in binary64 u x) × (plus binary64 u x + minus binary64 u x ≤ 2 ^ 31)
    from w = let under = weighs_under w in (worth_whole w.worth, ⊎_elim (λ z. omega arith) (λ z. omega arith) (read_side u x))

pub weighs_means : (u : ℕ) (x : Float) → u ≤ 2044 → (weighs u x ≡ true) ↔ Weighs u (2 ^ 31) x
unfolding weighs
weighs_means u x unit =
    let is = weighs_is u x unit in
    let t = both_is (whole_in binary64 u x) (leb (plus binary64 u x + minus binary64 u x) (2 ^ 31)) (true_is (whole_in binary64 u x)) (le_is (plus binary64 u x + minus binary64 u x) (2 ^ 31)) in
    ((λ e. is.0 (t.0 e)), λ w. t.1 (is.1 w))

pub all_weigh_means : (u : ℕ) (w : List Float) → u ≤ 2044 → (all_weigh u w ≡ true) ↔ ((k : ℕ) → k < length w → Weighs u (2 ^ 31) (get_or w k nan))
unfolding all_weigh
all_weigh_means u w unit = every_is _ (λ k. Weighs u (2 ^ 31) (get_or w k nan)) _ (λ k. weighs_means u (get_or w k nan) unit)

-- ---- the first that passes

module _ (p : ℕ → Bool) where
  first_yes : (u k : ℕ) → p u ≡ true → first_of p u (suc k) ≡ u
  unfolding first_of
  first_yes u k e = rw e

  first_no : (u k : ℕ) → p u ≡ false → first_of p u (suc k) ≡ first_of p (suc u) k
  unfolding first_of
  first_no u k e = rw e

  pub first_from : (u k : ℕ) → u ≤ first_of p u k
  first_from u zero = unfold first_of in le_refl u
  first_from u (suc k) = go (p u) refl (first_from (suc u) k)
    where
      go : (b : Bool) → p u ≡ b → suc u ≤ first_of p (suc u) k → u ≤ first_of p u (suc k)
      go true e h = omega (arith, first_yes u k e)
      go false e h = omega (arith, first_no u k e)

  first_to : (u k : ℕ) → first_of p u k ≤ u + k
  first_to u zero = unfold first_of in omega arith
  first_to u (suc k) = go (p u) refl (first_to (suc u) k)
    where
      go : (b : Bool) → p u ≡ b → first_of p (suc u) k ≤ suc u + k → first_of p u (suc k) ≤ u + suc k
      go true e h = omega (arith, first_yes u k e)
      go false e h = omega (arith, first_no u k e)

  -- where it is one of the k, it passes
  pub first_passes : (u k : ℕ) → first_of p u k < u + k → p (first_of p u k) ≡ true
  first_passes u zero h = absurd (omega (arith, first_from u 0))
  first_passes u (suc k) h = go (p u) refl (first_passes (suc u) k)
    where
      go : (b : Bool) → p u ≡ b → (first_of p (suc u) k < suc u + k → p (first_of p (suc u) k) ≡ true) → p (first_of p u (suc k)) ≡ true
      go true e ih = ap p (first_yes u k e) ∙ e
      go false e ih = ap p (first_no u k e) ∙ ih (omega (arith, first_no u k e))

  -- and it is at most any that passes
  pub first_least : (u k v : ℕ) → u ≤ v → v < u + k → p v ≡ true → first_of p u k ≤ v
  first_least u zero v l h e = absurd (omega arith)
  first_least u (suc k) v l h e = go (p u) refl (first_least (suc u) k v)
    where
      go : (b : Bool) → p u ≡ b → (suc u ≤ v → v < suc u + k → p v ≡ true → first_of p (suc u) k ≤ v) → first_of p u (suc k) ≤ v
      go true c ih = omega (arith, first_yes u k c)
      go false c ih = omega (arith, first_no u k c, ih (later (eq-or-lt_of_le l)) (omega arith) e)
        where
          later : (u ≡ v) ⊎ (u < v) → suc u ≤ v
          later (inl same) = absurd (false≢true (sym c ∙ ap p same ∙ e))
          later (inr less) = less

  -- which says which number it is
  pub first_is : (u k r : ℕ) → u ≤ r → r ≤ u + k → (r < u + k → p r ≡ true) → ((v : ℕ) → u ≤ v → v < r → p v ≡ true → ⊥) → r ≡ first_of p u k
  first_is u k r l h passes least = le_antisymm (le_of_suc-le-suc (lt_of_not-le (λ b. least (first_of p u k) (first_from u k) b (first_passes u k (omega arith))))) (reach (eq-or-lt_of_le h))
    where
      reach : (r ≡ u + k) ⊎ (r < u + k) → first_of p u k ≤ r
      reach (inl e) = omega (arith, first_to u k)
      reach (inr b) = first_least u k r l b (passes b)

-- ---- the field

-- THE TEST AT ONE UNIT: it says that the field is exact in it
pub serves_means : (u : ℕ) (F : Field) → u ≤ 2043 → Standard F → (serves u F ≡ true) ↔ ExactIn u F
unfolding serves
serves_means u F unit standard =
    let t = both_is (all_weigh u F.linear) (all_weigh (suc u) F.quad) (all_weigh_means u F.linear (omega arith)) (all_weigh_means (suc u) F.quad (omega arith)) in
    ((λ e. record { standard = standard; linear = (t.0 e).0; quad = (t.0 e).1 }), λ x. t.1 (x.linear, x.quad))

graded_exact : (b : Bool) → (cond b Exact Inexact ≡ Exact) ↔ (b ≡ true)
graded_exact true = ((λ e. refl), λ e. refl)
graded_exact false = ((λ e. let z : false ≡ true = cc in z), λ e. absurd (false≢true e))

-- Theorem. THE UNIT: it is at most any that serves.
pub unit_least : {u : ℕ} {F : Field} → Serves u F → unit_of F ≤ u
unfolding unit_of
unit_least {u} {F} h =
    first_least (λ v. serves v F) finest 41 u h.from (omega (arith, h.to)) ((serves_means u F (omega (arith, h.to)) h.exact.standard).1 h.exact)

unit_from : (F : Field) → finest ≤ unit_of F
unfolding unit_of
unit_from F = first_from (λ u. serves u F) finest 41

unit_to : (F : Field) → unit_of F ≤ suc coarsest
unfolding unit_of
unit_to F = first_to (λ u. serves u F) finest 41

module _ (F : Field) (long : length F.rows ≡ entries F) where
  grade_parts : (grade_of F ≡ Exact) ↔ (Standard F × (unit_of F ≤ coarsest))
  unfolding grade_of is_exact_of
  grade_parts =
      let t = both_is (off_diagonal F.rows F.cols) (leb (unit_of F) coarsest) (diagonal_means F.rows F.cols) (le_is (unit_of F) coarsest) in
      ((λ e. let p = t.0 ((graded_exact _).0 e) in ((λ k l. p.0 k (omega arith)), p.1)), λ h. (graded_exact _).1 (t.1 ((λ k l. h.0 k (omega arith)), h.1)))

  -- Theorem. THE GRADE: exact exactly if the unit that is named serves, which is so exactly if some unit does.
  pub exact_means : (grade_of F ≡ Exact) ↔ Serves (unit_of F) F
  exact_means = ((λ e. to (grade_parts.0 e)), λ h. grade_parts.1 (h.exact.standard, h.to))
    where
      passes : unit_of F ≤ coarsest → serves (unit_of F) F ≡ true
      passes h = unfold unit_of in first_passes (λ u. serves u F) finest 41 (omega arith)

      to : Standard F × (unit_of F ≤ coarsest) → Serves (unit_of F) F
      to h = record { from = unit_from F; to = h.1; exact = (serves_means (unit_of F) F (omega (arith, h.1)) h.0).0 (passes h.1) }

  -- Theorem. The grade is exact exactly if some unit of 2^-20 to 2^20 serves the field.
  pub some_serves : (grade_of F ≡ Exact) ↔ ((u : ℕ) × Serves u F)
  some_serves = ((λ e. (unit_of F, exact_means.0 e)), λ h. grade_parts.1 (h.1.exact.standard, omega (arith, unit_least h.1, h.1.to)))

-- ---- how the code says it

pub unit_within : (F : Field) {r : ℕ} → r ≡ unit_of F → (finest ≤ r) × (r ≤ suc coarsest)
unit_within F e = (omega (arith, unit_from F), omega (arith, unit_to F))

-- the unit does not ask where the entries stand
unit_alone : (F : Field) → unit_of (field_of F.linear [] [] F.quad) ≡ unit_of F
unfolding unit_of serves
unit_alone F = refl

module _ (F : Field) {off : Bool} (standard : off ≡ off_diagonal F.rows F.cols) where
  pub grade_no : off ≡ false → Inexact ≡ grade_of F
  unfolding grade_of is_exact_of
  grade_no e = rw (sym standard ∙ e)

  pub grade_none : {u : ℕ} → off ≡ true → u ≡ unit_of (field_of F.linear [] [] F.quad) → u ≡ 1094 → Inexact ≡ grade_of F
  unfolding grade_of is_exact_of
  grade_none e h n = rw (sym standard ∙ e, lt-leb (unit_of F) coarsest (omega (arith, unit_alone F)))

  pub grade_yes : {u : ℕ} → off ≡ true → u ≡ unit_of (field_of F.linear [] [] F.quad) → (u ≡ 1094 → ⊥) → Exact ≡ grade_of F
  unfolding grade_of is_exact_of
  grade_yes e h n = rw (sym standard ∙ e, le-leb (unit_of F) coarsest (omega (arith, unit_to F, unit_alone F)))
