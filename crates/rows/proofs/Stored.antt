-- A row stored in lent floats is a row stored in the list of rows, and what is written row by row is determined. Assumes nothing.
use Prim.Native.Nat.{ℕ, ◌+◌, ◌-◌, ◌<◌, ◌≤◌}
use mathlib.Core.Path.{◌≡◌, refl, sym, ap, ◌∙◌, subst}
use mathlib.Core.Logic.{◌≢◌}
use mathlib.Core.Bool.{Bool, true, false}
use mathlib.Core.List.{List}
use native.Mathlib.Decide.{ℕ_discrete}
use native.Mathlib.Omega.{arith}
use borrow.Author.Count.{below_more}
use borrow.Author.Tests.{ltb-true, ltb-false, eq-eqb, ne_eqb}
use lib.Dec.{ltb}
use lib.ListN.{length, get_or, set, drop, length-set}
use lib.Seq.{get_or-set_same, get_or-set_other, drop-set-lt, get_or-drop, ext_get_or}
use lib.Ieee.{Float, nan}
use Rattle.rows.specs.declared.Row.{Row}
use Rattle.rows.specs.Row.{add_term}
use Rattle.rows.specs.Model.{at_end}
use Rattle.rows.specs.Stored.{row_on, put_row, add_at, up_to, rows_on, Written}
use Rattle.rows.proofs.Upto.{length_up_to, get_d_up_to, up_to_same}

-- ---- one row

pub length_put : (f : List Float) (n t : ℕ) (r : Row) → length (put_row f n t r) ≡ length f
length_put f n t r = simp length-set

pub rest_put : (f : List Float) (n t : ℕ) (r : Row) → t < n → drop (n + n) (put_row f n t r) ≡ drop (n + n) f
rest_put f n t r h =
    drop-set-lt (n + n) (set f t r.lower) (n + t) r.upper (omega arith) ∙ drop-set-lt (n + n) f t r.lower (omega arith)

module _ (f : List Float) (n t : ℕ) (r : Row) (h : t < n) (room : n + n ≤ length f) where
  pub row_same : row_on (put_row f n t r) n t ≡ r
  row_same =
      rw (
        get_or-set_other (set f t r.lower) (n + t) t r.upper nan (λ e. omega arith),
        get_or-set_same f t r.lower nan (omega arith),
        get_or-set_same (set f t r.lower) (n + t) r.upper nan (omega (arith, length-set f t r.lower)),
      )

  pub row_other : (i : ℕ) → i < n → i ≢ t → row_on (put_row f n t r) n i ≡ row_on f n i
  row_other i l ne =
      rw (
        get_or-set_other (set f t r.lower) (n + t) i r.upper nan (λ e. omega arith),
        get_or-set_other f t i r.lower nan ne,
        get_or-set_other (set f t r.lower) (n + t) (n + i) r.upper nan (λ e. ne (omega arith)),
        get_or-set_other f t (n + i) r.lower nan (λ e. omega arith),
      )

  pub put_rows : rows_on (put_row f n t r) n ≡ set (rows_on f n) t r
  put_rows =
      let la : length (rows_on (put_row f n t r) n) ≡ n = length_up_to _ n in
      let lb : length (rows_on f n) ≡ n = length_up_to _ n in
      ext_get_or r _ _ (la ∙ sym lb ∙ sym (length-set (rows_on f n) t r)) (λ i l.
      get_d_up_to (row_on (put_row f n t r) n) n i r (omega arith)
      ∙ elim (ℕ_discrete i t) [
        | yes e ↦ rw e (row_same ∙ sym (get_or-set_same (rows_on f n) t r r (omega arith)))
        | no ne ↦ row_other i (omega arith) ne ∙ sym (get_or-set_other (rows_on f n) t i r r ne ∙ get_d_up_to (row_on f n) n i r (omega arith))
      ])

-- a term that goes into row e is the model's term at the end e, for every row
pub row_added : (f : List Float) (n e i : ℕ) (a : Float) (v : ℕ) → e < n → i < n → n + n ≤ length f
    → row_on (add_at f n e a v) n i ≡ at_end i e a v (row_on f n i)
unfolding add_at at_end
row_added f n e i a v h l room = elim (ℕ_discrete i e) [
  | yes p ↦ rw (p, eq-eqb e e refl) (row_same f n e (add_term (row_on f n e) a v) h room)
  | no ne ↦ rw (ne_eqb e i (λ p. ne (sym p))) (row_other f n e (add_term (row_on f n e) a v) h room i l ne)
]

-- ---- rows written one after another

module _ {n : ℕ} {g : ℕ → Row} where
  pub written_none : (f : List Float) → Written n g f f 0
  written_none f = record { long = refl; rows = λ i h. absurd (omega arith); rest = refl }

  pub written_put : {f₀ f f₁ : List Float} {j : ℕ} {r : Row} → Written n g f₀ f j → j < n → n + n ≤ length f₀ → r ≡ g j → f₁ ≡ put_row f n j r → Written n g f₀ f₁ (j + 1)
  written_put {f₀} {f} {f₁} {j} {r} now h room e p = rw p record {
    long = length_put f n j r ∙ now.long;
    rows = below_more (λ i. row_on (put_row f n j r) n i ≡ g i) j
        (λ i l. row_other f n j r h (omega (arith, now.long)) i (omega arith) (λ z. omega arith) ∙ now.rows i l)
        (row_same f n j r h (omega (arith, now.long)) ∙ e);
    rest = rest_put f n j r h ∙ now.rest;
  }

  -- the first rows written over are forgotten
  pub written_over : {f₀ f f₁ : List Float} {g₀ : ℕ → Row} {i j : ℕ} → Written n g₀ f₀ f i → Written n g f f₁ j → Written n g f₀ f₁ j
  written_over a b = record { long = b.long ∙ a.long; rows = b.rows; rest = b.rest ∙ a.rest }

  pub written_fewer : {f₀ f : List Float} {i j : ℕ} → Written n g f₀ f j → i ≤ j → Written n g f₀ f i
  written_fewer now h = record { long = now.long; rows = λ k l. now.rows k (omega arith); rest = now.rest }

  pub written_as : {f₀ f : List Float} {h : ℕ → Row} {j : ℕ} → Written n g f₀ f j → ((i : ℕ) → i < j → g i ≡ h i) → Written n h f₀ f j
  written_as now e = record { long = now.long; rows = λ i l. now.rows i l ∙ e i l; rest = now.rest }

  pub written_rows : {f₀ f : List Float} → Written n g f₀ f n → rows_on f n ≡ up_to g n
  written_rows {f = f} now = up_to_same (row_on f n) g n now.rows

  -- where all n are written, any two results are equal
  pub written_unique : {f₀ f f₁ : List Float} → Written n g f₀ f n → Written n g f₀ f₁ n → f ≡ f₁
  written_unique {f₀} {f} {f₁} a b = ext_get_or nan f f₁ (a.long ∙ sym b.long) (λ i l. by i (ltb i n) (ltb i (n + n)) refl refl)
    where
      front : (i : ℕ) → i < n → row_on f n i ≡ row_on f₁ n i
      front i h = a.rows i h ∙ sym (b.rows i h)

      past : (i : ℕ) → get_or f (n + n + i) nan ≡ get_or f₁ (n + n + i) nan
      past i = sym (get_or-drop (n + n) f i nan) ∙ ap (λ (z : List Float). get_or z i nan) (a.rest ∙ sym b.rest) ∙ get_or-drop (n + n) f₁ i nan

      by : (i : ℕ) (u v : Bool) → ltb i n ≡ u → ltb i (n + n) ≡ v → get_or f i nan ≡ get_or f₁ i nan
      by i true v p q = ap (λ (r : Row). r.lower) (front i (ltb-true i n p))
      by i false true p q =
          let k : n + (i - n) ≡ i = omega (arith, ltb-false i n p) in
          subst (λ (j : ℕ). get_or f j nan ≡ get_or f₁ j nan) k (ap (λ (r : Row). r.upper) (front (i - n) (omega (arith, ltb-false i n p, ltb-true i (n + n) q))))
      by i false false p q =
          let k : n + n + (i - (n + n)) ≡ i = omega (arith, ltb-false i (n + n) q) in
          subst (λ (j : ℕ). get_or f j nan ≡ get_or f₁ j nan) k (past (i - (n + n)))
