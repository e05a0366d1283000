-- The pass for linear parts and masses: after k entries they are the model's after k. Assumes nothing.
use Prim.Native.Nat.{ℕ, ◌+◌, ◌<◌, ◌≤◌}
use mathlib.Core.Path.{◌≡◌, refl, sym, ◌∙◌}
use mathlib.Core.Logic.{◌≢◌}
use mathlib.Core.List.{List}
use native.Mathlib.Decide.{ℕ_discrete}
use native.Mathlib.Numerals.{add-one}
use native.Mathlib.Omega.{arith}
use borrow.Author.Count.{below_more}
use borrow.Author.Tests.{eq-eqb, ne_eqb}
use lib.ListN.{length, get_or, set, length-set}
use lib.Seq.{get_or-set_same, get_or-set_other}
use lib.Ieee.{Float, nan, binary64, add}
use Rattle.field.specs.Field.{Field, variables, entries, row_end, column_end, linear_of}
use Rattle.weights.specs.Worth.{magnitude}
use Rattle.rows.specs.Model.{coeff_of}
use Rattle.rows.specs.Stored.{Fillable}
use Rattle.margins.specs.Model.{add_fixed_end, add_magnitude, at_end, over_ends}
use Rattle.neighbours.specs.Parts.{fixed_term, add_end, add_both, PartsAre, Parted}

-- two floats stored for variable t
module _ (f : List Float) (n t : ℕ) (x y : Float) (room : n + n ≤ length f) (h : t < n) where
  abbrev stored : List Float
  stored = set (set f t x) (n + t) y

  stored_long : length stored ≡ length f
  stored_long = simp length-set

  linear_same : get_or stored t nan ≡ x
  linear_same = get_or-set_other (set f t x) (n + t) t y nan (λ e. omega arith) ∙ get_or-set_same f t x nan (omega arith)

  mass_same : get_or stored (n + t) nan ≡ y
  mass_same = get_or-set_same (set f t x) (n + t) y nan (omega (arith, length-set f t x))

  linear_other : (i : ℕ) → i < n → i ≢ t → get_or stored i nan ≡ get_or f i nan
  linear_other i l ne = get_or-set_other (set f t x) (n + t) i y nan (λ e. omega arith) ∙ get_or-set_other f t i x nan ne

  mass_other : (i : ℕ) → i ≢ t → get_or stored (n + i) nan ≡ get_or f (n + i) nan
  mass_other i ne = get_or-set_other (set f t x) (n + t) (n + i) y nan (λ e. ne (omega arith)) ∙ get_or-set_other f t (n + i) x nan (λ e. omega arith)

-- ---- one variable after another

pub parts_none : {n : ℕ} {g h : ℕ → Float} (f : List Float) → n + n ≤ length f → PartsAre n g h f 0
parts_none f room = record { room = room; linear = λ i l. absurd (omega arith); mass = λ i l. absurd (omega arith) }

pub parts_put : {n : ℕ} {g h : ℕ → Float} {f f₁ : List Float} {j : ℕ} {x y : Float} → PartsAre n g h f j → j < n → x ≡ g j → y ≡ h j → f₁ ≡ set (set f j x) (n + j) y
    → PartsAre n g h f₁ (j + 1)
parts_put {n} {g} {h} {f} {f₁} {j} {x} {y} P l ex ey e = rw e record {
  room = omega (arith, stored_long f n j x y P.room l, P.room);
  linear = below_more (λ i. get_or (set (set f j x) (n + j) y) i nan ≡ g i) j
      (λ i b. linear_other f n j x y P.room l i (omega arith) (λ z. omega arith) ∙ P.linear i b) (linear_same f n j x y P.room l ∙ ex);
  mass = below_more (λ i. get_or (set (set f j x) (n + j) y) (n + i) nan ≡ h i) j
      (λ i b. mass_other f n j x y P.room l i (λ z. omega arith) ∙ P.mass i b) (mass_same f n j x y P.room l ∙ ey);
}

-- ---- one entry after another

end_turn : {n : ℕ} {g h : ℕ → Float} {f : List Float} (s : List ℕ) (e other : ℕ) (a : Float) → PartsAre n g h f n → e < n
    → PartsAre n (λ i. at_end (add_fixed_end s) i e other a (g i)) (λ i. at_end add_magnitude i e other a (h i)) (add_end f n e a (get_or s other 0)) n
unfolding add_end at_end
end_turn {n} {g} {h} {f} s e other a P l =
    let x = fixed_term (get_or f e nan) a (get_or s other 0) in
    let y = add binary64 (get_or f (n + e) nan) (magnitude a) in
    record {
      room = omega (arith, stored_long f n e x y P.room l, P.room);
      linear = λ i b. elim (ℕ_discrete i e) [
        | yes p ↦ rw (p, eq-eqb e e refl) (linear_same f n e x y P.room l ∙ rw (P.linear e l))
        | no ne ↦ rw (ne_eqb e i (λ p. ne (sym p))) (linear_other f n e x y P.room l i b ne ∙ P.linear i b)
      ];
      mass = λ i b. elim (ℕ_discrete i e) [
        | yes p ↦ rw (p, eq-eqb e e refl) (mass_same f n e x y P.room l ∙ rw (P.mass e l))
        | no ne ↦ rw (ne_eqb e i (λ p. ne (sym p))) (mass_other f n e x y P.room l i ne ∙ P.mass i b)
      ];
    }

module _ (F : Field) (s : List ℕ) where
  pub parted_turn : {f₀ f f₁ : List Float} {k : ℕ} → Fillable F s f₀ → Parted F s f k → k < entries F → f₁ ≡ add_both F s f k → Parted F s f₁ (k + 1)
  unfolding over_ends add_both
  parted_turn {k = k} ready P h e =
      rw (e, add-one k)
      (end_turn s (column_end F k) (row_end F k) (coeff_of F k) (end_turn s (row_end F k) (column_end F k) (coeff_of F k) P (ready.shaped.row_below k h)) (ready.shaped.column_below k h))

  -- what keeps the length keeps the room
  pub fillable_after : {f₀ f : List Float} → Fillable F s f₀ → length f ≡ length f₀ → Fillable F s f
  fillable_after ready e = record { shaped = ready.shaped; values_long = ready.values_long; room = omega (arith, ready.room) }

-- ---- the loops' invariants

-- the first j variables have their c and |c|
pub record Starting (c : List Float) (f₀ f : List Float) (j : ℕ) : Type 0 where
  pub within : j ≤ length c
  pub long : length f ≡ length f₀
  pub parts : PartsAre (length c) (λ i. get_or c i nan) (λ i. magnitude (get_or c i nan)) f j

-- k entries are behind the pass
pub record Passing (F : Field) (s : List ℕ) (f₀ f : List Float) (k : ℕ) : Type 0 where
  pub ready : Fillable F s f₀
  pub within : k ≤ entries F
  pub long : length f ≡ length f₀
  pub parts : Parted F s f k

module _ {F : Field} {s : List ℕ} where
  pub passing : {f : List Float} → Fillable F s f → Parted F s f 0 → Passing F s f f 0
  passing ready P = record { ready = ready; within = omega arith; long = refl; parts = P }

  module _ {f₀ f : List Float} {k : ℕ} (S : Passing F s f₀ f k) where
    pub passing_turn : {f₁ : List Float} → k < entries F → f₁ ≡ add_both F s f k → length f₁ ≡ length f → Passing F s f₀ f₁ (k + 1)
    passing_turn l e q = record { ready = S.ready; within = omega arith; long = q ∙ S.long; parts = parted_turn F s S.ready S.parts l e }

-- the parts at c and |c| are the model's after no entry
pub parted_start : {F : Field} {s : List ℕ} {f₀ f : List Float} → Fillable F s f₀ → length f ≡ length f₀
    → PartsAre (variables F) (linear_of F) (λ i. magnitude (linear_of F i)) f (variables F) → Fillable F s f × Parted F s f 0
unfolding over_ends
parted_start {F} {s} ready e P = (fillable_after F s ready e, P)
