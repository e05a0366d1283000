-- The entry (i, j) of a field: the search finds it where it stands, and it stands once at most. Assumes nothing.
use Prim.Native.Nat.{ℕ, zero, suc, ◌+◌, ◌*◌, ◌-◌, ◌^◌, ◌<◌, ◌≤◌}
use mathlib.Core.Path.{◌≡◌, refl, sym, ap, ◌∙◌}
use mathlib.Core.Logic.{⊎_elim}
use mathlib.Core.Bool.{Bool, true, false, cond, ◌&&◌, ◌||◌}
use mathlib.Core.List.{List}
use native.Mathlib.Decide.{dec_lt, ℕ_discrete}
use native.Mathlib.Nat.{le_refl}
use native.Mathlib.Omega.{arith}
use lib.Dec.{eqb}
use lib.ListN.{length}
use borrow.Author.Tests.{eqb-true, eq-eqb, ne_eqb, lt-ltb, le-ltb}
use Rattle.whole.specs.Whole.{only, sum, ◌≈◌, Under}
use Rattle.whole.proofs.Sums.{sum_same, sum_zero, sum_at}
use Rattle.field.specs.Field.{Field, entries, row_end, column_end, Shaped}
use Rattle.field.specs.Grade.{ExactIn}
use Rattle.field.specs.Reading.{whole_of}
use Rattle.field.proofs.Reading.{quad_under}
use Rattle.places.specs.Places.{keep, places}
use Rattle.places.proofs.Places.{tail, tail_end, tail_step}
use Rattle.parts.proofs.Listed.{neither}
use Rattle.enumeration.specs.Terms.{stands, entry_from, entry_of}
use Rattle.enumeration.specs.Weighed.{pair_weight}

-- ---- it stands once

module _ {F : Field} (shaped : Shaped F) where
  abbrev key : ℕ → ℕ
  key k = column_end F k * 4096 + row_end F k

  key_rises : (k : ℕ) → k + 1 < entries F → key k < key (k + 1)
  key_rises k h =
      let a = shaped.row_below k (omega arith) in
      let b = shaped.row_below (k + 1) h in
      ⊎_elim (λ c. omega (arith, shaped.few_variables)) (λ c. omega (arith, c.0, c.1)) (shaped.rising k h)

  key_far : (d k : ℕ) → k + d < entries F → key k + d ≤ key (k + d)
  key_far zero k h = let e : k + 0 ≡ k = omega arith in rw e (omega arith)
  key_far (suc d) k h =
      let e : k + suc d ≡ k + d + 1 = omega arith in
      rw e (omega (arith, key_far d k (omega arith), key_rises (k + d) (omega arith)))

  one_key : (k l : ℕ) → k < entries F → l < entries F → key k ≡ key l → k ≤ l → k ≡ l
  one_key k l hk hl e h =
      let q : k + (l - k) ≡ l = omega arith in
      let f : key k + (l - k) ≤ key l = rw q at (key_far (l - k) k (omega arith)) in
      omega arith

ends_are : (F : Field) (i j k : ℕ) → stands F.rows F.cols i j k ≡ true → (row_end F k ≡ i) × (column_end F k ≡ j)
unfolding stands
ends_are F i j k e = by (eqb (row_end F k) i) (eqb (column_end F k) j) refl refl e
  where
    by : (a b : Bool) → eqb (row_end F k) i ≡ a → eqb (column_end F k) j ≡ b → (a && b) ≡ true → (row_end F k ≡ i) × (column_end F k ≡ j)
    by true true p q h = (eqb-true _ _ p, eqb-true _ _ q)
    by true false p q h = let z : ◌≡◌ {A = ℕ} 0 1 = cc in absurd (omega arith)
    by false b p q h = let z : ◌≡◌ {A = ℕ} 0 1 = cc in absurd (omega arith)

not_row : (F : Field) (i j k : ℕ) → eqb (row_end F k) i ≡ false → stands F.rows F.cols i j k ≡ false
unfolding stands
not_row F i j k e = rw e

-- ---- the search finds it

-- r is the first of the entries from k on that is (i, j), or their number
record Found (F : Field) (i j k r : ℕ) : Type 0 where
  within : r ≤ entries F
  here : r < entries F → stands F.rows F.cols i j r ≡ true
  before : (l : ℕ) → k ≤ l → l < r → stands F.rows F.cols i j l ≡ false

module _ {F : Field} (shaped : Shaped F) (i j : ℕ) where
  later : {k r : ℕ} → stands F.rows F.cols i j k ≡ false → Found F i j (suc k) r → Found F i j k r
  later {k} e S = record {
    within = S.within;
    here = S.here;
    before = λ l a b. elim (ℕ_discrete k l) [
      | yes q ↦ ap (stands F.rows F.cols i j) (sym q) ∙ e
      | no q ↦ S.before l (omega arith) b
    ];
  }

  sought : (d k : ℕ) → k + d ≡ entries F → Found F i j k (entry_from F i j (tail F.rows F.cols k i))
  unfolding entry_from keep
  sought zero k e =
      let l : length F.rows ≡ k = omega (arith, shaped.rows_long) in
      rw (← l, tail_end F.rows F.cols i) (record { within = le_refl _; here = λ h. absurd (omega arith); before = λ m a b. absurd (omega (arith, shaped.rows_long)) })
  sought (suc d) k e =
      rw (ap (λ (f : ℕ → List ℕ). f i) (tail_step F.rows F.cols k (omega (arith, shaped.rows_long)) (omega (arith, shaped.cols_long))))
      (by (eqb (row_end F k) i || eqb (column_end F k) i) refl (sought d (suc k) (omega arith)))
    where
      rest : ℕ
      rest = entry_from F i j (tail F.rows F.cols (suc k) i)

      at : (b : Bool) → stands F.rows F.cols i j k ≡ b → Found F i j (suc k) rest → Found F i j k (cond b k rest)
      at true h S = record { within = omega arith; here = λ l. h; before = λ l a b. absurd (omega arith) }
      at false h S = later h S

      by : (b : Bool) → (eqb (row_end F k) i || eqb (column_end F k) i) ≡ b → Found F i j (suc k) rest
          → Found F i j k (entry_from F i j (keep b k (tail F.rows F.cols (suc k) i)))
      by true m S = at (stands F.rows F.cols i j k) refl S
      by false m S = later (not_row F i j k (neither (eqb (row_end F k) i) (eqb (column_end F k) i) m).0) S

  found : Found F i j 0 (entry_of F i j)
  unfolding entry_of places
  found = sought (entries F) 0 (omega arith)

-- ---- its weight

module _ (u : ℕ) {F : Field} (shaped : Shaped F) (i j : ℕ) where
  pub pair_sum : pair_weight u F i j ≈ sum (entries F) (λ k. only (stands F.rows F.cols i j k) ((whole_of u F).weight k))
  unfolding pair_weight
  pair_sum =
      elim (dec_lt (entry_of F i j) (entries F)) [
        | yes h ↦ rw (lt-ltb _ _ h)
            (omega (
              arith,
              sum_at (entries F) (whole_of u F).weight (entry_of F i j) h,
              sum_same (entries F) (λ k. only (stands F.rows F.cols i j k) ((whole_of u F).weight k))
                  (λ k. only (eqb (entry_of F i j) k) ((whole_of u F).weight k)) (λ k l. rw (only_there h k l) refl),
            ))
        | no h ↦ rw (le-ltb (entry_of F i j) (entries F) (omega arith))
            (omega (
              arith,
              sum_zero (entries F) (λ k. only (stands F.rows F.cols i j k) ((whole_of u F).weight k)) (λ k l. rw ((found shaped i j).before k (omega arith) (omega arith)) refl),
            ))
      ]
    where
      only_there : entry_of F i j < entries F → (k : ℕ) → k < entries F → stands F.rows F.cols i j k ≡ eqb (entry_of F i j) k
      only_there h k l =
          elim (ℕ_discrete (entry_of F i j) k) [
            | yes q ↦ ap (stands F.rows F.cols i j) (sym q) ∙ (found shaped i j).here h ∙ sym (eq-eqb _ _ q)
            | no q ↦ by (stands F.rows F.cols i j k) refl q ∙ sym (ne_eqb _ _ q)
          ]
        where
          by : (b : Bool) → stands F.rows F.cols i j k ≡ b → (entry_of F i j ≡ k → ⊥) → b ≡ false
          by false e q = refl
          by true e q =
              let a = ends_are F i j k e in
              let c = ends_are F i j (entry_of F i j) ((found shaped i j).here h) in
              let same : column_end F (entry_of F i j) * 4096 + row_end F (entry_of F i j) ≡ column_end F k * 4096 + row_end F k = omega (arith, a, c) in
              elim (dec_lt (entry_of F i j) k) [
                | yes lt ↦ absurd (q (one_key shaped (entry_of F i j) k h l same (omega arith)))
                | no lt ↦ absurd (q (sym (one_key shaped k (entry_of F i j) l h (sym same) (omega arith))))
              ]

  pub pair_under : ExactIn u F → Under (2 ^ 31) (pair_weight u F i j)
  unfolding pair_weight
  pair_under exact =
      elim (dec_lt (entry_of F i j) (entries F)) [
        | yes h ↦ rw (lt-ltb _ _ h) (quad_under exact (entry_of F i j) h)
        | no h ↦ rw (le-ltb (entry_of F i j) (entries F) (omega arith)) (omega arith)
      ]
