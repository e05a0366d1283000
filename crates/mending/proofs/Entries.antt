-- The entries at a place, and the number of a place. Assumes nothing.
use Prim.Native.Nat.{ℕ, zero, suc, ◌+◌, ◌*◌, ◌<◌, ◌≤◌}
use mathlib.Core.Path.{◌≡◌, refl, sym}
use mathlib.Core.Logic.{◌≢◌}
use mathlib.Core.Bool.{Bool, true, false, cond, ◌&&◌}
use mathlib.Core.List.{List, [], ◌∷◌, ◌++◌}
use native.Mathlib.Nat.{mul-le-mul_right, mul-le-mul, add-mul, one-mul}
use native.Mathlib.Omega.{arith}
use borrow.Author.Tests.{eqb-true, eq-eqb, ne_eqb, ltb-true, lt-ltb, le-ltb}
use lib.Dec.{eqb, ltb}
use Rattle.scratch.proofs.All.{both}
use Rattle.ranking.proofs.Ordered.{Every, every_append}
use Rattle.field.specs.Field.{Field, variables, row_end, column_end}
use Rattle.mending.specs.Places.{is_inside, all_places, place_of, entries_to}

-- ---- numbers of places

pub square_few : (n : ℕ) → n ≤ 4096 → n * n ≤ 16777216
square_few n h = mul-le-mul h h

pub place_inside : (n row col : ℕ) → row < n → col < n → col * n + row < n * n
place_inside n row col h g =
    let a : suc col * n ≤ n * n = mul-le-mul_right n g in
    omega (arith, add-mul col 1 n, one-mul n, a)

module _ (F : Field) (k : ℕ) where
  pub inside_place : is_inside F k ≡ true → place_of F k ≡ column_end F k * variables F + row_end F k
  unfolding place_of
  inside_place e = rw e

  pub outside_place : is_inside F k ≡ false → place_of F k ≡ all_places F
  unfolding place_of
  outside_place e = rw e

  pub inside_below : is_inside F k ≡ true → place_of F k < all_places F
  inside_below e =
      let t = both (ltb (row_end F k) (variables F)) (ltb (column_end F k) (variables F)) e in
      rw (inside_place e) (place_inside (variables F) (row_end F k) (column_end F k) (ltb-true _ _ t.0) (ltb-true _ _ t.1))

  pub below_inside : place_of F k < all_places F → is_inside F k ≡ true
  below_inside h = go (is_inside F k) refl
    where
      go : (b : Bool) → is_inside F k ≡ b → b ≡ true
      go true e = refl
      go false e = absurd (omega (arith, outside_place e))

  pub place_most : place_of F k ≤ all_places F
  place_most = go (is_inside F k) refl
    where
      go : (b : Bool) → is_inside F k ≡ b → place_of F k ≤ all_places F
      go true e = omega (arith, inside_below e)
      go false e = omega (arith, outside_place e)

-- as the code works it out
module _ (F : Field) (k : ℕ) where
  pub row_outside : {row : ℕ} → row ≡ row_end F k → variables F ≤ row → all_places F ≡ place_of F k
  unfolding place_of
  row_outside e h = rw (le-ltb (row_end F k) (variables F) (rw (← e) h))

  pub column_outside : {col : ℕ} → col ≡ column_end F k → variables F ≤ col → all_places F ≡ place_of F k
  column_outside e h = sym (outside_place F k (go (ltb (row_end F k) (variables F))))
    where
      go : (b : Bool) → (b && ltb (column_end F k) (variables F)) ≡ false
      go true = le-ltb (column_end F k) (variables F) (rw (← e) h)
      go false = refl

  pub inside_at : {row col : ℕ} → row ≡ row_end F k → col ≡ column_end F k → row < variables F → col < variables F → col * variables F + row ≡ place_of F k
  unfolding place_of
  inside_at e g h i = rw (lt-ltb (row_end F k) (variables F) (rw (← e) h), lt-ltb (column_end F k) (variables F) (rw (← g) i), ← e, ← g)

-- ---- the entries at a place

module _ (F : Field) (p : ℕ) where
  pub entry_here : (k : ℕ) → place_of F k ≡ p → entries_to F p (suc k) ≡ entries_to F p k ++ k ∷ []
  unfolding entries_to
  entry_here k e = rw (eq-eqb (place_of F k) p e)

  pub entry_elsewhere : (k : ℕ) → place_of F k ≢ p → entries_to F p (suc k) ≡ entries_to F p k
  unfolding entries_to
  entry_elsewhere k n = rw (ne_eqb (place_of F k) p n)

  -- each is one of the first k, and at p
  pub entries_there : (k : ℕ) → Every (λ e. (e < k) × (place_of F e ≡ p)) (entries_to F p k)
  unfolding entries_to
  entries_there zero = tt
  entries_there (suc k) = go (eqb (place_of F k) p) refl (wider (entries_to F p k) (entries_there k))
    where
      wider : (l : List ℕ) → Every (λ e. (e < k) × (place_of F e ≡ p)) l → Every (λ e. (e < suc k) × (place_of F e ≡ p)) l
      wider [] h = tt
      wider (x ∷ l) h = ((omega (arith, h.0.0), h.0.1), wider l h.1)

      go : (b : Bool) → eqb (place_of F k) p ≡ b → Every (λ e. (e < suc k) × (place_of F e ≡ p)) (entries_to F p k)
          → Every (λ e. (e < suc k) × (place_of F e ≡ p)) (cond b (entries_to F p k ++ k ∷ []) (entries_to F p k))
      go true e h = every_append (λ e. (e < suc k) × (place_of F e ≡ p)) (entries_to F p k) (k ∷ []) h ((omega arith, eqb-true (place_of F k) p e), tt)
      go false e h = h
