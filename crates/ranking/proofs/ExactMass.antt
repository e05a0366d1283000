-- THE MASS LAW: on an exact field a mass is worth the edge mass in whole numbers, and the ranks are the candidates in its order. Assumes nothing.
use Prim.Native.Nat.{ℕ, zero, suc, ◌+◌, ◌^◌, ◌<◌, ◌≤◌}
use mathlib.Core.Path.{◌≡◌, refl, sym, ◌∙◌, subst}
use mathlib.Core.Logic.{inl, inr, ⊎_elim, ◌↔◌}
use mathlib.Core.Bool.{Bool, true, false, cond, ◌&&◌, ◌||◌, false≢true}
use mathlib.Core.List.{List, [], ◌∷◌}
use native.Mathlib.Omega.{arith}
use borrow.Author.Tests.{eqb-true, ltb-true, ltb-false, lt-ltb}
use lib.Dec.{eqb, ltb}
use lib.ListN.{length, get_or}
use lib.Ieee.{Float, binary64, add, lt}
use Rattle.whole.specs.Whole.{Whole, ◌⊕◌, only, sum, size, Under}
use Rattle.whole.proofs.Sums.{only_under, sum_under}
use Rattle.weights.specs.Worth.{Worth, Small}
use Rattle.weights.proofs.Worth.{add_worth, as_worth, zero_worth, magnitude_worth, lt_worth}
use Rattle.meaning.specs.Field as meaning
use Rattle.field.specs.Field.{Field, entries, row_end, column_end, Shaped}
use Rattle.field.specs.Tests.{Finite}
use Rattle.field.specs.Grade.{Serves}
use Rattle.field.specs.Reading.{whole_of}
use Rattle.field.proofs.Reading.{quad_worth, quad_under}
use Rattle.ranking.specs.Ranking.{both_free, mass_at_end, mass_at_entry, mass_to, mass_of, ahead, ranks}
use Rattle.ranking.specs.Rightly.{AheadOf, Falling, RightlyRanked}
use Rattle.ranking.specs.EdgeMass.{edge, edge_mass, Ahead, RankedByMass}
use Rattle.ranking.proofs.Theorems.{ranks_right, ranks_only}

-- |q| is added at each end that is i: once, as the two ends differ
add_once : {u : ℕ} {x y : Float} {a b : Whole} (free row column : Bool) → (row ≡ true → column ≡ true → ⊥) → Worth u x a → Worth u y b → Small (a ⊕ b)
    → Worth u (cond free (cond column (add binary64 (cond row (add binary64 x y) x) y) (cond row (add binary64 x y) x)) x) (a ⊕ only (free && (row || column)) b)
add_once true true true one h k w = absurd (one refl refl)
add_once true true false one h k w = add_worth h k w
add_once true false true one h k w = add_worth h k w
add_once true false false one h k w = as_worth h (omega arith)
add_once false row column one h k w = as_worth h (omega arith)

module _ {u : ℕ} {F : Field} (S : Shaped F) (x : Serves u F) (s : List ℕ) where
  abbrev W : meaning.Field
  W = whole_of u F

  size_under : (k : ℕ) → k < entries F → Under (2 ^ 31) (size (W.weight k))
  size_under k h = omega (arith, quad_under x.exact k h)

  module _ (i : ℕ) where
    edge_under : (k : ℕ) → k < entries F → Under (2 ^ 31) (edge W s i k)
    edge_under k h = only_under (2 ^ 31) (both_free F s k && (eqb (row_end F k) i || eqb (column_end F k) i)) (size (W.weight k)) (size_under k h)

    -- 32,768 entries of at most 2^31 each
    edges_under : (k : ℕ) → k ≤ entries F → Under (2 ^ 46) (sum k (edge W s i))
    edges_under k h = omega (arith, sum_under (2 ^ 31) k (edge W s i) (λ t l. edge_under t (omega arith)), S.few_entries)

    mass_to_worth : (k : ℕ) → k ≤ entries F → Worth (suc u) (mass_to F s i k) (sum k (edge W s i))
    unfolding mass_to mass_at_entry mass_at_end sum
    mass_to_worth zero h = zero_worth (omega (arith, x.to))
    mass_to_worth (suc k) h =
        add_once (both_free F s k) (eqb (row_end F k) i) (eqb (column_end F k) i)
        (λ r c. x.exact.standard k (omega arith) (eqb-true (row_end F k) i r ∙ sym (eqb-true (column_end F k) i c)))
        (mass_to_worth k (omega arith)) (magnitude_worth (quad_worth x.exact k (omega arith))) (omega (arith, edges_under k (omega arith), size_under k (omega arith)))

    -- Theorem. On an exact field the edge mass that is added in f64 is the edge mass in whole numbers.
    pub mass_worth : Worth (suc u) (mass_of F s i) (edge_mass (whole_of u F) s i)
    unfolding mass_of
    mass_worth = mass_to_worth (entries F) (omega arith)

  -- ---- the order

  abbrev mass : ℕ → Whole
  mass = edge_mass W s

  -- a variable goes ahead of another exactly if it does in whole numbers
  pub ahead_exact : (i j : ℕ) → (ahead (mass_of F s) i j ≡ true) ↔ Ahead (whole_of u F) s i j
  unfolding ahead
  ahead_exact i j =
      go (lt (mass_of F s j) (mass_of F s i)) (lt (mass_of F s i) (mass_of F s j)) (lt_worth (mass_worth j) (mass_worth i)) (lt_worth (mass_worth i) (mass_worth j))
    where
      go : (a b : Bool) → a ≡ ltb ((mass j).plus + (mass i).less) ((mass i).plus + (mass j).less) → b ≡ ltb ((mass i).plus + (mass j).less) ((mass j).plus + (mass i).less)
          → (cond a true (cond b false (ltb i j)) ≡ true) ↔ Ahead W s i j
      go true b p q =
          let l = ltb-true ((mass j).plus + (mass i).less) ((mass i).plus + (mass j).less) (sym p) in
          ((λ e. inl (omega arith)), λ h. refl)
      go false true p q =
          let l = ltb-true ((mass i).plus + (mass j).less) ((mass j).plus + (mass i).less) (sym q) in
          ((λ e. absurd (false≢true e)), λ h. ⊎_elim (λ z. absurd (omega arith)) (λ z. absurd (omega arith)) h)
      go false false p q =
          let l = ltb-false ((mass j).plus + (mass i).less) ((mass i).plus + (mass j).less) (sym p) in
          let r = ltb-false ((mass i).plus + (mass j).less) ((mass j).plus + (mass i).less) (sym q) in
          ((λ e. inr (omega arith, ltb-true i j e)), λ h. ⊎_elim (λ z. absurd (omega arith)) (λ z. lt-ltb i j z.1) h)

-- ---- a list falls exactly if each goes ahead of what stands at a later position

module _ {first : ℕ → ℕ → Bool} {P : ℕ → ℕ → Type 0} (same : (i j : ℕ) → (first i j ≡ true) ↔ P i j) where
  ahead_at : (x : ℕ) (l : List ℕ) → AheadOf first x l → (q : ℕ) → q < length l → P x (get_or l q 0)
  ahead_at x [] h q b = absurd (omega arith)
  ahead_at x (y ∷ l) h zero b = (same x y).0 h.0
  ahead_at x (y ∷ l) h (suc q) b = ahead_at x l h.1 q (omega arith)

  ahead_from : (x : ℕ) (l : List ℕ) → ((q : ℕ) → q < length l → P x (get_or l q 0)) → AheadOf first x l
  ahead_from x [] h = tt
  ahead_from x (y ∷ l) h = ((same x y).1 (h 0 (omega arith)), ahead_from x l (λ q b. h (suc q) (omega arith)))

  falling_at : (l : List ℕ) → Falling first l → (p q : ℕ) → p < q → q < length l → P (get_or l p 0) (get_or l q 0)
  falling_at [] h p q a b = absurd (omega arith)
  falling_at (x ∷ l) h p zero a b = absurd (omega arith)
  falling_at (x ∷ l) h zero (suc q) a b = ahead_at x l h.0 q (omega arith)
  falling_at (x ∷ l) h (suc p) (suc q) a b = falling_at l h.1 p q (omega arith) (omega arith)

  falling_from : (l : List ℕ) → ((p q : ℕ) → p < q → q < length l → P (get_or l p 0) (get_or l q 0)) → Falling first l
  falling_from [] h = tt
  falling_from (x ∷ l) h =
      (ahead_from x l (λ q b. h 0 (suc q) (omega arith) (omega arith)), falling_from l (λ p q a b. h (suc p) (suc q) (omega arith) (omega arith)))

-- ---- the ranks

-- Theorem. The ranks are a ranking by the edge mass in whole numbers, and the only one.
pub ranks_exact : {u : ℕ} {F : Field} → Shaped F → Finite F → Serves u F → (s l : List ℕ) → (l ≡ ranks F s) ↔ RankedByMass (whole_of u F) s l
ranks_exact {u} {F} S N x s l = (
  (λ e.
      let R : RightlyRanked F s l = subst (RightlyRanked F s) (sym e) (ranks_right F s N) in
      record { each_once = R.each_once; falling = falling_at (ahead_exact S x s) l R.falling }),
  λ R. ranks_only F s N l record { each_once = R.each_once; falling = falling_from (ahead_exact S x s) l R.falling },
)
