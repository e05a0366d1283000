-- The row of a variable is the fold over its places. Assumes nothing.
use Prim.Native.Nat.{ℕ, zero, suc, ◌+◌, ◌<◌, ◌≤◌}
use mathlib.Core.Path.{◌≡◌, refl, sym, ap, ◌∙◌}
use mathlib.Core.Bool.{Bool, true, false, cond, ◌||◌}
use mathlib.Core.List.{List}
use native.Mathlib.Omega.{arith}
use borrow.Author.Tests.{eqb-true}
use lib.Dec.{eqb}
use lib.ListN.{length, get_or}
use Rattle.field.specs.Field.{Field, variables, entries, linear_of, row_end, column_end, Shaped, Standard}
use Rattle.rows.specs.declared.Row.{Row}
use Rattle.rows.specs.Row.{start_row, add_term}
use Rattle.rows.specs.Model.{coeff_of, at_end, at_entry, row_to, row_of}
use Rattle.places.specs.Places.{keep, places, other_end, entry_in, end_in}
use Rattle.places.proofs.Places.{tail, tail_end, tail_step}
use Rattle.places.proofs.Shape.{other_end_below}
use Rattle.places.proofs.Walk.{Along, walk_turn, turn_entry, turn_other, along_start, along_turn, along_end}
use Rattle.probing.specs.Remembered.{add_place, add_places, Readable}

module _ {F : Field} (S : Shaped F) (off : Standard F) (s : List ℕ) (t : ℕ) where
  -- entry k is a place of t, or leaves its row
  one : (k : ℕ) → k < entries F → (r : Row) (ks : List ℕ)
      → add_places F s t r (keep (eqb (row_end F k) t || eqb (column_end F k) t) k ks) ≡ add_places F s t (at_entry F s t k r) ks
  unfolding at_entry at_end other_end keep add_places
  one k h r ks = go (eqb (row_end F k) t) (eqb (column_end F k) t) refl refl
    where
      go : (a b : Bool) → eqb (row_end F k) t ≡ a → eqb (column_end F k) t ≡ b → add_places F s t r (keep (a || b) k ks)
          ≡ add_places F s t (cond b (add_term (cond a (add_term r (coeff_of F k) (get_or s (column_end F k) 0)) r) (coeff_of F k) (get_or s (row_end F k) 0)) (cond a (add_term r (coeff_of F k) (get_or s (column_end F k) 0)) r)) ks
      go true true p q = absurd (off k h (eqb-true _ _ p ∙ sym (eqb-true _ _ q)))
      go true false p q = rw p
      go false true p q = rw p
      go false false p q = refl

  along : (d k : ℕ) → k + d ≡ entries F → add_places F s t (row_to F s t k) (tail F.rows F.cols k t) ≡ row_to F s t (entries F)
  unfolding add_places row_to
  along zero k e = let z : k ≡ length F.rows = omega (arith, S.rows_long) in rw (z, tail_end F.rows F.cols t, S.rows_long)
  along (suc d) k e =
      ap (λ (g : ℕ → List ℕ). add_places F s t (row_to F s t k) (g t)) (tail_step F.rows F.cols k (omega (arith, S.rows_long)) (omega (arith, S.cols_long)))
      ∙ one k (omega arith) (row_to F s t k) (tail F.rows F.cols (suc k) t) ∙ along d (suc k) (omega arith)

  pub row_from_places : add_places F s t (start_row (linear_of F t)) (places F.rows F.cols t) ≡ row_of F s t
  unfolding places row_of row_to
  row_from_places = along (entries F) 0 (omega arith)

-- ---- the loop over the places of t

module _ {F : Field} {s u : List ℕ} (R : Readable F s u) {t : ℕ} where
  pub row_start : {a b : ℕ} {row : Row} → t < variables F → a ≡ get_or u t 0 → b ≡ get_or u (t + 1) 0 → row ≡ start_row (linear_of F t)
      → Along (add_places F s t) (variables F) F.rows F.cols u u t b a (start_row (linear_of F t)) row
  row_start h ea eb e = rw e (along_start (add_places F s t) (start_row (linear_of F t)) R.adjacent h ea eb)

  module _ {end p : ℕ} {row : Row} (L : Along (add_places F s t) (variables F) F.rows F.cols u u t end p (start_row (linear_of F t)) row) where
    pub row_reads : p < end → {k j : ℕ} → k ≡ entry_in (get_or u (variables F + 1 + p) 0) → j ≡ end_in (get_or u (variables F + 1 + p) 0)
        → (k < entries F) × ((j < length s) × (j ≡ other_end F.rows F.cols t k))
    row_reads l {k} {j} ek ej =
        let turn = walk_turn L.walk l in
        let h : k < entries F = omega (arith, turn_entry turn ek, R.shaped.rows_long) in
        let o : j ≡ other_end F.rows F.cols t k = turn_other turn ek ej in
        (h, (omega (arith, other_end_below R.shaped t h o, R.values_long), o))

    pub row_turn : {k : ℕ} {next : Row} → p < end → k ≡ entry_in (get_or u (variables F + 1 + p) 0) → next ≡ add_place F.rows F.cols F.quad s t row k
        → Along (add_places F s t) (variables F) F.rows F.cols u u t end (p + 1) (start_row (linear_of F t)) next
    unfolding add_places
    row_turn {k} l e en = along_turn (L) l e (λ ks. ap (λ (r : Row). add_places F s t r ks) (sym en))

    pub row_done : end ≤ p → row ≡ row_of F s t
    unfolding add_places
    row_done l = along_end L l ∙ row_from_places R.shaped R.standard s t
