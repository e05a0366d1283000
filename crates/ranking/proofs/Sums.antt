-- The masses are the model's, and numbers with their sign clear. Assumes nothing.
use Prim.Native.Nat.{ℕ, zero, suc, ◌+◌, ◌<◌, ◌≤◌}
use mathlib.Core.Path.{◌≡◌, refl, sym, ap, ◌∙◌}
use mathlib.Core.Bool.{Bool, true, false, cond}
use mathlib.Core.List.{List}
use native.Mathlib.Omega.{arith}
use native.Mathlib.Decide.{ℕ_discrete}
use borrow.Author.Tests.{eq-eqb, ne_eqb}
use lib.Dec.{T, eqb}
use lib.ListN.{length, get_or, replicate, length-set, length-replicate, get_or-replicate}
use lib.Seq.{get_or-set_same, get_or-set_other}
use lib.Ieee.{Float, nan, add, binary64, of_bits}
use Rattle.weights.specs.Worth.{zero64, clear, magnitude}
use Rattle.weights.proofs.Sign.{add_clear, magnitude_clear}
use Rattle.scratch.specs.Cleared.{cleared}
use Rattle.field.specs.Field.{Field, variables, entries, row_end, column_end, quad_of}
use Rattle.field.specs.Tests.{Finite}
use Rattle.ranking.specs.Ranking.{both_free, mass_at_end, mass_at_entry, mass_to}
use Rattle.ranking.specs.Masses.{added, add_entry, Massable, Massed}

-- ---- the masses have their sign clear

end_clear : (i e : ℕ) (a x : Float) → T (clear a) → T (clear x) → T (clear (mass_at_end i e a x))
unfolding mass_at_end
end_clear i e a x h g = go (eqb e i)
  where
    go : (b : Bool) → T (clear (cond b (add binary64 x a) x))
    go true = add_clear binary64 x a g h
    go false = g

-- no mass is a NaN or has a sign
pub mass_clear : (F : Field) (s : List ℕ) → Finite F → (i k : ℕ) → k ≤ entries F → T (clear (mass_to F s i k))
unfolding mass_to mass_at_entry of_bits
mass_clear F s N i zero h = tt
mass_clear F s N i (suc k) h = go (both_free F s k) (mass_clear F s N i k (omega arith))
  where
    a : T (clear (magnitude (quad_of F k)))
    a = magnitude_clear (quad_of F k) (N.quad k (omega arith))

    go : (b : Bool) → T (clear (mass_to F s i k))
        → T (clear (cond b (mass_at_end i (column_end F k) (magnitude (quad_of F k)) (mass_at_end i (row_end F k) (magnitude (quad_of F k)) (mass_to F s i k))) (mass_to F s i k)))
    go true g = end_clear i (column_end F k) _ _ a (end_clear i (row_end F k) _ _ a g)
    go false g = g

-- ---- the masses in a list

added_at : (w : List Float) (e i : ℕ) (a : Float) → e < length w → get_or (added w e a) i nan ≡ mass_at_end i e a (get_or w i nan)
unfolding added mass_at_end
added_at w e i a h = elim (ℕ_discrete i e) [
  | yes p ↦ rw (p, eq-eqb e e refl) (get_or-set_same w e (add binary64 (get_or w e nan) a) nan h)
  | no p ↦ rw (ne_eqb e i (λ q. p (sym q))) (get_or-set_other w e i (add binary64 (get_or w e nan) a) nan p)
]

pub added_long : (w : List Float) (e : ℕ) (a : Float) → length (added w e a) ≡ length w
unfolding added
added_long w e a = length-set w e (add binary64 (get_or w e nan) a)

pub entry_long : (F : Field) (s : List ℕ) (w : List Float) (k : ℕ) → length (add_entry F s w k) ≡ length w
unfolding add_entry
entry_long F s w k = go (both_free F s k)
  where
    go : (b : Bool) → length (cond b (added (added w (row_end F k) (magnitude (quad_of F k))) (column_end F k) (magnitude (quad_of F k))) w) ≡ length w
    go true = added_long (added w (row_end F k) (magnitude (quad_of F k))) (column_end F k) (magnitude (quad_of F k)) ∙ added_long w (row_end F k) (magnitude (quad_of F k))
    go false = refl

pub ends_in : {F : Field} {s : List ℕ} {w : List Float} → Massable F s w → (k : ℕ) → k < entries F
    → ((row_end F k < length s) × (column_end F k < length s)) × ((row_end F k < length w) × (column_end F k < length w))
ends_in {F} R k h =
    let a = R.shaped.row_below k h in
    let b = R.shaped.column_below k h in
    let c = R.values_long in
    let d = R.masses_long in
    ((omega arith, omega arith), (omega arith, omega arith))

-- the three answers of an entry, whose ends are i and j
module _ (F : Field) (s : List ℕ) (w : List Float) (k : ℕ) {i j : ℕ} (e : i ≡ row_end F k) (f : j ≡ column_end F k) where
  pub row_fixed : (get_or s i 0 ≡ 2 → ⊥) → w ≡ add_entry F s w k
  unfolding add_entry
  row_fixed h = let g = ne_eqb (get_or s i 0) 2 h in rw (rw e at g)

  pub column_fixed : get_or s i 0 ≡ 2 → (get_or s j 0 ≡ 2 → ⊥) → w ≡ add_entry F s w k
  unfolding add_entry
  column_fixed h l =
      let g = eq-eqb (get_or s i 0) 2 h in
      let m = ne_eqb (get_or s j 0) 2 l in
      rw (rw e at g, rw f at m)

  pub both_free_lem : {a : Float} {w₁ w₂ : List Float} → get_or s i 0 ≡ 2 → get_or s j 0 ≡ 2 → a ≡ magnitude (quad_of F k)
      → w₁ ≡ added w i a → w₂ ≡ added w₁ j a → w₂ ≡ add_entry F s w k
  unfolding add_entry
  both_free_lem h l p q r =
      let g = eq-eqb (get_or s i 0) 2 h in
      let m = eq-eqb (get_or s j 0) 2 l in
      r ∙ rw (rw e at g, rw f at m, q, p, e, f)

-- masses set to zero are ready for the entries
pub fill_ready : {F : Field} {s : List ℕ} {w w' : List Float} → Massable F s w → w' ≡ cleared zero64 w → Massable F s w' × (w' ≡ cleared zero64 w')
fill_ready {F} {s} {w} {w'} R e =
    let n : length w' ≡ length w = ap length e ∙ length-replicate (length w) zero64 in
    (record { shaped = R.shaped; values_long = R.values_long; masses_long = n ∙ R.masses_long }, e ∙ ap (λ (k : ℕ). replicate k zero64) (sym n))

pub massed_start : {F : Field} {s : List ℕ} {w : List Float} → Massable F s w → w ≡ cleared zero64 w → Massed F s w 0
unfolding mass_to
massed_start {F} {s} {w} R e = record {
  ready = R;
  within = omega arith;
  masses = λ i h. ap (λ (l : List Float). get_or l i nan) e ∙ get_or-replicate (length w) i zero64 nan (omega (arith, R.masses_long));
}

module _ {F : Field} {s : List ℕ} {w : List Float} {k : ℕ} (M : Massed F s w k) (h : k < entries F) where
  entry_at : (i : ℕ) → i < variables F → get_or (add_entry F s w k) i nan ≡ mass_to F s i (suc k)
  unfolding add_entry mass_to mass_at_entry
  entry_at i g = go (both_free F s k)
    where
      go : (b : Bool) → get_or (cond b (added (added w (row_end F k) (magnitude (quad_of F k))) (column_end F k) (magnitude (quad_of F k))) w) i nan
          ≡ cond b (mass_at_end i (column_end F k) (magnitude (quad_of F k)) (mass_at_end i (row_end F k) (magnitude (quad_of F k)) (mass_to F s i k))) (mass_to F s i k)
      go true =
          added_at (added w (row_end F k) (magnitude (quad_of F k))) (column_end F k) i (magnitude (quad_of F k))
          (omega (arith, added_long w (row_end F k) (magnitude (quad_of F k)), M.ready.masses_long, M.ready.shaped.column_below k h))
          ∙ ap (mass_at_end i (column_end F k) (magnitude (quad_of F k)))
          (added_at w (row_end F k) i (magnitude (quad_of F k)) (omega (arith, M.ready.masses_long, M.ready.shaped.row_below k h))
          ∙ ap (mass_at_end i (row_end F k) (magnitude (quad_of F k))) (M.masses i g))
      go false = M.masses i g

  pub massed_turn : {w' : List Float} → w' ≡ add_entry F s w k → Massed F s w' (k + 1)
  massed_turn e = rw e record {
    ready = record { shaped = M.ready.shaped; values_long = M.ready.values_long; masses_long = entry_long F s w k ∙ M.ready.masses_long };
    within = omega arith;
    masses = λ i g. let z : suc k ≡ k + 1 = omega arith in entry_at i g ∙ ap (mass_to F s i) z;
  }

pub massed_done : {F : Field} {s : List ℕ} {w : List Float} {k : ℕ} → Massed F s w k → entries F ≤ k → Massed F s w (entries F)
massed_done {F} {k = k} M h = let e : k ≡ entries F = omega (arith, M.within) in rw e at M
