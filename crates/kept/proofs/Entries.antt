-- How the search for an entry of i goes, and what the passes that go from one to the next leave out: entries that change nothing. Assumes nothing.
use Prim.Native.Nat.{ℕ, zero, suc, ◌+◌, ◌-◌, ◌<◌, ◌≤◌}
use mathlib.Core.Path.{◌≡◌, refl, sym, ap, ap₂, ◌∙◌}
use mathlib.Core.Logic.{◌≢◌, ◌⊎◌, ⊎_elim}
use mathlib.Core.Bool.{Bool, true, false, cond, not, ◌&&◌, ◌||◌}
use mathlib.Core.List.{List}
use native.Mathlib.Decide.{ℕ_discrete}
use native.Mathlib.Numerals.{add-one}
use native.Mathlib.Omega.{arith}
use borrow.Author.Tests.{eq-eqb, ne_eqb, ltb-true, ltb-false, not-true, not-false}
use lib.Dec.{eqb, ltb}
use lib.ListN.{length, get_or}
use lib.Ieee.{Float}
use Rattle.scratch.specs.All.{all_below}
use Rattle.scratch.proofs.All.{all_means}
use Rattle.field.specs.Field.{Field, entries, linear_of, row_end, column_end, Shaped}
use Rattle.rows.specs.declared.Row.{Row}
use Rattle.rows.specs.Row.{start_row, add_term}
use Rattle.rows.specs.Model.{coeff_of, at_end, at_entry, row_to, row_of}
use Rattle.places.specs.Places.{other_end}
use Rattle.run.proofs.Sight.{joins_other, neither}
use Rattle.kept.specs.Kept.{meets, turn_at, turn_to}
use Rattle.kept.specs.Next.{Skipped, Next}
use Rattle.kept.proofs.Elsewhere.{turn_to_long}

-- ---- the search

pub not_either : (a b : Bool) → (not a && not b) ≡ not (a || b)
not_either true b = refl
not_either false b = refl

module _ {rows cols : List ℕ} {i from : ℕ} where
  pub skip_start : from ≤ length rows → Skipped rows cols i from from
  skip_start l = record { reach = omega arith; within = l; apart = λ k a b. absurd (omega arith) }

  module _ {k : ℕ} (S : Skipped rows cols i from k) where
    pub skip_block : k + 64 ≤ length rows → all_below (λ j. not (meets rows cols i (k + j))) 64 ≡ true → Skipped rows cols i from (k + 64)
    skip_block l e = record {
      reach = omega (arith, S.reach);
      within = l;
      apart = λ j a b. by j a b (ltb j k) refl;
    }
      where
        by : (j : ℕ) → from ≤ j → j < k + 64 → (x : Bool) → ltb j k ≡ x → meets rows cols i j ≡ false
        by j a b true p = S.apart j a (ltb-true _ _ p)
        by j a b false p =
            let here : k + (j - k) ≡ j = omega (arith, ltb-false j k p) in
            not-true _ (rw here at ((all_means (λ j. not (meets rows cols i (k + j))) 64).0 e (j - k) (omega (arith, ltb-false j k p))))

    pub skip_one : k < length rows → not (meets rows cols i k) ≡ true → Skipped rows cols i from (k + 1)
    skip_one l e = record {
      reach = omega (arith, S.reach);
      within = omega arith;
      apart = λ j a b. elim (ℕ_discrete j k) [
        | yes p ↦ rw p (not-true _ e)
        | no n ↦ S.apart j a (omega arith)
      ];
    }

    pub next_found : not (meets rows cols i k) ≡ false → Next rows cols i from k
    next_found e = record { skipped = S; found = λ l. not-false _ e }

    pub next_none : length rows ≤ k → Next rows cols i from (length rows)
    next_none l = let end : k ≡ length rows = omega (arith, S.within) in record { skipped = rw end at S; found = λ b. absurd (omega arith) }

-- ---- what is done entry by entry, and changes nothing at one that is not of i

module _ {A : Type 0} (g : ℕ → A) (rows cols : List ℕ) (i : ℕ) (still : (k : ℕ) → meets rows cols i k ≡ false → g (suc k) ≡ g k) where
  along : (from d : ℕ) → ((k : ℕ) → from ≤ k → k < from + d → meets rows cols i k ≡ false) → g (from + d) ≡ g from
  along from zero h = let e : from + 0 ≡ from = omega arith in ap g e
  along from (suc d) h =
      let e : from + suc d ≡ suc (from + d) = omega arith in
      ap g e ∙ still (from + d) (h (from + d) (omega arith) (omega arith)) ∙ along from d (λ k a b. h k a (omega arith))

  pub skipped_same : {from r : ℕ} → Skipped rows cols i from r → g r ≡ g from
  skipped_same {from} {r} S =
      let e : from + (r - from) ≡ r = omega (arith, S.reach) in
      ap g (sym e) ∙ along from (r - from) (λ k a b. S.apart k a (omega arith))

-- where a pass stands that has come to entry k of i, or to the end, by g
pub record At {A : Type 0} (g : ℕ → A) (rows cols : List ℕ) (i : ℕ) (x : A) (k : ℕ) : Type 0 where
  pub within : k ≤ length rows
  pub so_far : x ≡ g k
  pub found : k < length rows → meets rows cols i k ≡ true

module _ {A : Type 0} (g : ℕ → A) (rows cols : List ℕ) (i : ℕ) (still : (k : ℕ) → meets rows cols i k ≡ false → g (suc k) ≡ g k) where
  pub at_start : {x : A} {k : ℕ} → x ≡ g 0 → Next rows cols i 0 k → At g rows cols i x k
  at_start e N = record { within = N.skipped.within; so_far = e ∙ sym (skipped_same g rows cols i still N.skipped); found = N.found }

  pub at_turn : {x : A} {k r : ℕ} → x ≡ g (suc k) → Next rows cols i (k + 1) r → At g rows cols i x r
  at_turn {k = k} e N = record { within = N.skipped.within; so_far = e ∙ ap g (sym (add-one k)) ∙ sym (skipped_same g rows cols i still N.skipped); found = N.found }

  pub at_end_lem : {x : A} {k : ℕ} → At g rows cols i x k → length rows ≤ k → x ≡ g (length rows)
  at_end_lem {k = k} a l = let e : k ≡ length rows = omega (arith, a.within) in a.so_far ∙ ap g e

-- ---- the two passes

module _ (F : Field) (s : List ℕ) (i : ℕ) where
  -- the rows of neighbours
  module _ (old new : ℕ) (b : List Float) where
    pub turn_still : (k : ℕ) → meets F.rows F.cols i k ≡ false → turn_to F s i old new b (suc k) ≡ turn_to F s i old new b k
    unfolding turn_to turn_at
    turn_still k e = rw e refl

    pub turn_next : (k : ℕ) {b₁ b₂ : List Float} → b₁ ≡ turn_to F s i old new b k → b₂ ≡ turn_at F s i old new b₁ k → b₂ ≡ turn_to F s i old new b (suc k)
    unfolding turn_to
    turn_next k e p = rw e at p

    pub turn_none : b ≡ turn_to F s i old new b 0
    unfolding turn_to
    turn_none = refl

  -- the own row
  pub row_still : (k : ℕ) → meets F.rows F.cols i k ≡ false → row_to F s i (suc k) ≡ row_to F s i k
  unfolding row_to at_entry at_end
  row_still k e = let n = neither (row_end F k) (column_end F k) i e in rw (ne_eqb _ _ n.0, ne_eqb _ _ n.1) refl

  pub row_next : (k : ℕ) → row_end F k ≢ column_end F k → meets F.rows F.cols i k ≡ true → {r r₁ : Row} → r ≡ row_to F s i k
      → r₁ ≡ add_term r (coeff_of F k) (get_or s (other_end F.rows F.cols i k) 0) → r₁ ≡ row_to F s i (suc k)
  unfolding row_to at_entry at_end other_end
  row_next k d m e p = p ∙ ap (λ (z : Row). add_term z (coeff_of F k) (get_or s (cond (eqb (row_end F k) i) (column_end F k) (row_end F k)) 0)) e ∙ by (joins_other (row_end F k) (column_end F k) i m)
    where
      by : ((row_end F k ≡ i) × (column_end F k ≡ cond (eqb (row_end F k) i) (column_end F k) (row_end F k))) ⊎ ((column_end F k ≡ i) × (row_end F k ≡ cond (eqb (row_end F k) i) (column_end F k) (row_end F k)))
          → add_term (row_to F s i k) (coeff_of F k) (get_or s (cond (eqb (row_end F k) i) (column_end F k) (row_end F k)) 0)
          ≡ at_end i (column_end F k) (coeff_of F k) (get_or s (row_end F k) 0) (at_end i (row_end F k) (coeff_of F k) (get_or s (column_end F k) 0) (row_to F s i k))
      by z = ⊎_elim
          (λ y. rw (eq-eqb (row_end F k) i y.0, ne_eqb (column_end F k) i (λ q. d (y.0 ∙ sym q))) refl)
          (λ y. rw (ne_eqb (row_end F k) i (λ q. d (q ∙ sym y.0)), eq-eqb (column_end F k) i y.0) refl)
          z

  pub row_none : {r : Row} → r ≡ start_row (linear_of F i) → r ≡ row_to F s i 0
  unfolding row_to
  row_none e = e

  pub row_all : {r : Row} → length F.rows ≡ entries F → r ≡ row_to F s i (length F.rows) → r ≡ row_of F s i
  unfolding row_of
  row_all l e = e ∙ ap (row_to F s i) l

-- ---- the pass over the rows of neighbours, as its loop goes

abbrev pub Turns : Field → List ℕ → ℕ → ℕ → ℕ → List Float → List Float → ℕ → Type 0
Turns F s i old new b₀ b k = At (turn_to F s i old new b₀) F.rows F.cols i b k

module _ (F : Field) (s : List ℕ) (i old new : ℕ) (b₀ : List Float) where
  pub turns_start : {k : ℕ} → Next F.rows F.cols i 0 k → Turns F s i old new b₀ b₀ k
  turns_start N = at_start (turn_to F s i old new b₀) F.rows F.cols i (turn_still F s i old new b₀) (turn_none F s i old new b₀) N

  module _ {b : List Float} {k : ℕ} (T : Turns F s i old new b₀ b k) where
    pub turns_turn : {b' : List Float} {r : ℕ} → b' ≡ turn_at F s i old new b k → Next F.rows F.cols i (k + 1) r → Turns F s i old new b₀ b' r
    turns_turn p N = at_turn (turn_to F s i old new b₀) F.rows F.cols i (turn_still F s i old new b₀) (turn_next F s i old new b₀ k T.so_far p) N

    pub turns_long : Shaped F → length b ≡ length b₀
    turns_long shaped = ap length T.so_far ∙ turn_to_long shaped s i old new b₀ k

    pub turns_end : Shaped F → length F.rows ≤ k → b ≡ turn_to F s i old new b₀ (entries F)
    turns_end shaped l = at_end_lem (turn_to F s i old new b₀) F.rows F.cols i (turn_still F s i old new b₀) T l ∙ ap (turn_to F s i old new b₀) shaped.rows_long

-- ---- the pass over the own row, as its loop goes

abbrev pub Adds : Field → List ℕ → ℕ → Row → ℕ → Type 0
Adds F s i row k = At (row_to F s i) F.rows F.cols i row k

module _ (F : Field) (s : List ℕ) (i : ℕ) where
  pub adds_start : {row : Row} {k : ℕ} → row ≡ start_row (linear_of F i) → Next F.rows F.cols i 0 k → Adds F s i row k
  adds_start e N = at_start (row_to F s i) F.rows F.cols i (row_still F s i) (row_none F s i e) N

  module _ {row : Row} (k : ℕ) (A : Adds F s i row k) where
    pub adds_turn : {a : Float} {t : ℕ} {row' : Row} {r : ℕ} → k < length F.rows → row_end F k ≢ column_end F k → a ≡ coeff_of F k → t ≡ other_end F.rows F.cols i k
        → row' ≡ add_term row a (get_or s t 0) → Next F.rows F.cols i (k + 1) r → Adds F s i row' r
    adds_turn l d ea et p N =
        at_turn (row_to F s i) F.rows F.cols i (row_still F s i) (row_next F s i k d (A.found l) A.so_far (p ∙ ap₂ (λ (x : Float) (j : ℕ). add_term row x (get_or s j 0)) ea et)) N

    pub adds_end : Shaped F → length F.rows ≤ k → row ≡ row_of F s i
    adds_end shaped l = row_all F s i shaped.rows_long (at_end_lem (row_to F s i) F.rows F.cols i (row_still F s i) A l)
