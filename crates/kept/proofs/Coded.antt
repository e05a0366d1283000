-- How the code meets its promises, step by step. Assumes nothing.
use Prim.Native.Nat.{ℕ, ◌+◌, ◌<◌, ◌≤◌}
use mathlib.Core.Path.{◌≡◌, refl, sym, ap, ◌∙◌}
use mathlib.Core.Logic.{◌≢◌}
use mathlib.Core.Bool.{Bool, true, false, cond}
use mathlib.Core.List.{List}
use native.Mathlib.Omega.{arith}
use borrow.Author.Tests.{eq-eqb, ne_eqb}
use denote.Enum.Bare.{sameb}
use Rattle.field.specs.contracts.Grade.{the_type}
use lib.ListN.{length, get_or, set, take, length-set}
use lib.Seq.{take-suc, take_all, length-take-le}
use native.Mathlib.Numerals.{add-one}
use lib.Ieee.{Float, nan}
use Rattle.scratch.specs.Over.{over}
use Rattle.scratch.proofs.Over.{over_push}
use Rattle.field.specs.declared.Grade.{Grade}
use Rattle.field.specs.declared.Grade.TheVariants.{Exact, Inexact}
use Rattle.field.specs.Field.{Field, variables, entries}
use Rattle.field.specs.Tests.{Sound}
use Rattle.field.specs.Grade.{is_exact_of, grade_of}
use Rattle.rows.specs.declared.Row.{Row}
use Rattle.rows.specs.Row.{add_term, remove_term}
use Rattle.rows.specs.Model.{coeff_of}
use Rattle.rows.specs.Stored.{row_on, put_row, Written, Filled}
use Rattle.rows.proofs.Stored.{written_as}
use Rattle.places.specs.Places.{other_end}
use Rattle.kept.specs.Kept.{kept, plain, stored_row, afresh, bounds_of, strict_to, made, meets, turn_at, turn_to, changed}
use Rattle.kept.proofs.Bounds.{bounds_are}
use Rattle.kept.proofs.Elsewhere.{start_set}

-- ---- the grade tells whether a field is exact

pub told_exact : (F : Field) {g : Grade} {b : Bool} → g ≡ grade_of F → b ≡ sameb the_type g Exact → b ≡ is_exact_of F
unfolding grade_of
told_exact F e d = d ∙ ap (λ (x : Grade). sameb the_type x Exact) e ∙ by (is_exact_of F)
  where
    by : (b : Bool) → sameb the_type (cond b Exact Inexact) Exact ≡ b
    by true = refl
    by false = refl

-- ---- an entry of i: its other end is t

module _ (F : Field) (s : List ℕ) (i old new : ℕ) (b : List Float) (k : ℕ) {t : ℕ} (e : t ≡ other_end F.rows F.cols i k) (m : meets F.rows F.cols i k ≡ true) where
  pub turn_none : get_or s t 0 ≢ 2 → b ≡ turn_at F s i old new b k
  unfolding turn_at
  turn_none n = rw (m, ne_eqb (get_or s (other_end F.rows F.cols i k) 0) 2 (λ z. n (ap (λ (j : ℕ). get_or s j 0) e ∙ z))) refl

  pub turn_one : get_or s t 0 ≡ 2 → {a : Float} → a ≡ coeff_of F k → {r r₁ r₂ r₃ : Row} → r ≡ row_on b (variables F) t → r₁ ≡ remove_term r a old → r₂ ≡ add_term r₁ a new → r₃ ≡ plain r₂
      → {b' : List Float} → b' ≡ put_row b (variables F) t r₃ → b' ≡ turn_at F s i old new b k
  unfolding turn_at
  turn_one f c a x y z p =
      p ∙ rw (z, y, x, a, c, e, m, eq-eqb (get_or s (other_end F.rows F.cols i k) 0) 2 (ap (λ (j : ℕ). get_or s j 0) (sym e) ∙ f)) refl

-- ---- the value of i changes

pub sound_set : {F : Field} {s : List ℕ} → Sound F s → (i v : ℕ) → i < variables F → v ≤ 2 → Sound F (set s i v)
sound_set S i v l small = record { shaped = S.shaped; standard = S.standard; finite_weights = S.finite_weights; start = start_set S.start i v l small }

pub change_is : (F : Field) (s : List ℕ) (b : List Float) (i v n : ℕ) {b₁ b₂ : List Float} {row : Row} {r : ℕ}
    → b₁ ≡ turn_to F (set s i v) i (get_or s i 0) v b (entries F) → row ≡ afresh F (set s i v) i → b₂ ≡ put_row b₁ (variables F) i row → r ≡ strict_to (set s i v) b₂ (length (set s i v))
    → kept (set s i v) b₂ r ≡ changed F i v (kept s b n)
unfolding changed
change_is F s b i v n e p q h = rw (h, q, p, e) refl

-- ---- the record is begun

pub begin_is : (F : Field) {s : List ℕ} {f₀ f b₀ b : List Float} {r : ℕ} → length s ≡ variables F → length b₀ ≡ variables F + variables F → Filled F s f₀ f
    → Written (length s) (λ t. stored_row (get_or s t 0) (row_on f (length s) t)) b₀ b (length s) → r ≡ strict_to s b (length s) → kept s b r ≡ made F s
unfolding made
begin_is F {s} {f₀} {f} {b₀} {b} {r} long room filled written e =
    let w : Written (variables F) (λ t. stored_row (get_or s t 0) (row_on f (variables F) t)) b₀ b (variables F) = rw long at written in
    let is : b ≡ bounds_of (afresh F s) (variables F) = bounds_are (afresh F s) (variables F) room (written_as w (λ t l. ap (stored_row (get_or s t 0)) (filled.rows t l))) in
    rw (e, is) refl

-- ---- bounds copied to the front of the scratch: i of them are there

pub record Copied (bounds f₀ f : List Float) (i : ℕ) : Type 0 where
  pub within : i ≤ length bounds
  pub long : length f ≡ length f₀
  pub front : f ≡ over (take i bounds) f₀

pub copy_start : (bounds f : List Float) → Copied bounds f f 0
unfolding over
copy_start bounds f = record { within = omega arith; long = refl; front = refl }

module _ {bounds f₀ f : List Float} {i : ℕ} (C : Copied bounds f₀ f i) where
  pub copy_turn : {x : Float} → length bounds ≤ length f₀ → i < length bounds → x ≡ get_or bounds i nan → Copied bounds f₀ (set f i x) (i + 1)
  copy_turn {x} room l e = record {
    within = omega arith;
    long = length-set f i x ∙ C.long;
    front = ap (λ (z : List Float). set z i x) C.front
        ∙ over_push (take i bounds) f₀ i x (length-take-le i bounds (omega (arith, C.within))) (omega arith)
        ∙ ap (λ (z : List Float). over z f₀) (rw (e, add-one) (sym (take-suc bounds i nan l)));
  }

  pub copy_done : length bounds ≤ i → f ≡ over bounds f₀
  copy_done l = C.front ∙ ap (λ (z : List Float). over z f₀) (take_all i bounds l)
