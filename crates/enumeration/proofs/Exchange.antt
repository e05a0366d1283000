-- What the members of a separate part count is what the objective counts of them: two completions that differ on the part alone
-- differ in the objective as in that count. Assumes nothing.
use Prim.Native.Nat.{ℕ, zero, suc, ◌<◌}
use mathlib.Core.Path.{◌≡◌, refl, sym, ◌∙◌}
use mathlib.Core.Logic.{◌≢◌, ⊎_elim}
use mathlib.Core.Bool.{Bool, true, false, ◌&&◌, ◌||◌, true≢false}
use mathlib.Core.List.{List}
use native.Mathlib.Omega.{arith}
use lib.Dec.{eqb}
use lib.ListN.{length, get_or}
use Rattle.whole.specs.Whole.{Whole, nothing, ◌⊕◌, ◌⊙◌, only, sum, ◌≈◌, Zero}
use Rattle.whole.proofs.Sums.{sum_four, sum_add, sum_same, sum_zero}
use Rattle.meaning.specs.Field.{Completion, variable_term, entry_term, twice_f}
use Rattle.meaning.specs.Gradient.{share}
use Rattle.field.specs.Field.{Field, variables, entries, row_end, column_end, Shaped}
use Rattle.field.specs.Reading.{whole_of}
use Rattle.parts.specs.Part.{has, Apart}
use Rattle.enumeration.specs.Terms.{stands}
use Rattle.enumeration.specs.Alone.{Alone}
use Rattle.enumeration.specs.Weighed.{fixed_part, pair_weight}
use Rattle.enumeration.proofs.Sums.{sum_members, collect}
use Rattle.enumeration.proofs.Stands.{pair_sum}
use Rattle.enumeration.proofs.Objective.{on, counted}

-- ---- terms that tests pick

-- a sum that a test picks
only_sum : (b : Bool) (m : ℕ) (g : ℕ → Whole) → only b (sum m g) ≈ sum m (λ k. only b (g k))
only_sum true m g = refl
only_sum false m g = omega (arith, sum_zero m (λ k. nothing) (λ k h. refl))

only_swap : (b a c : Bool) (q : Whole) → only b (only (a && c) q) ≈ only a (only c (only b q))
only_swap true true true q = refl
only_swap true true false q = refl
only_swap true false c q = refl
only_swap false true true q = refl
only_swap false true false q = refl
only_swap false false c q = refl

only_alike : (b : Bool) (p q : Whole) → p ≈ q → only b p ≈ only b q
only_alike true p q e = e
only_alike false p q e = refl

only_two : (a b : Bool) (q : Whole) → only a (only b q) ≈ only b (only a q)
only_two true true q = refl
only_two true false q = refl
only_two false true q = refl
only_two false false q = refl

-- ---- what is counted of the members that are 1

module _ (u : ℕ) (F : Field) (t ms z : List ℕ) where
  -- entry k at its end i, by its row and by its column
  by_row : ℕ → ℕ → Whole
  by_row i k = only (has ms i) (only (on z i) (share nothing ((whole_of u F).weight k) (get_or t (column_end F k) 0)))

  by_column : ℕ → ℕ → Whole
  by_column i k = only (has ms i) (only (on z i) (share nothing ((whole_of u F).weight k) (get_or t (row_end F k) 0)))

  -- entry k, if its column is j, at the row i
  pair_of : ℕ → ℕ → ℕ → Whole
  pair_of j i k = only (eqb (column_end F k) j) (only (has ms i) (only (on z i && on z j) ((whole_of u F).weight k)))

  -- entry k between members, its column j
  both : ℕ → ℕ → Whole
  both j k = only (has ms j) (only (has ms (row_end F k)) (only (on z (row_end F k) && on z j) ((whole_of u F).weight k)))

  -- all that entry k counts
  of_entry : ℕ → Whole
  of_entry k = by_row (row_end F k) k ⊕ (by_column (column_end F k) k ⊕ both (column_end F k) k)

module _ (u : ℕ) {F : Field} (shaped : Shaped F) (t ms : List ℕ) (once : Apart ms) (below : (b : ℕ) → b < length ms → get_or ms b 0 < variables F) (z : List ℕ) where
  -- ---- the linear parts

  -- of variable i: 2c, and its entries by their rows and by their columns
  one_part : (i : ℕ) → only (has ms i) (only (on z i) (fixed_part u F t i))
      ≈ only (has ms i) (only (on z i) ((whole_of u F).linear i))
      ⊕ (sum (entries F) (λ k. only (eqb (row_end F k) i) (by_row u F t ms z i k)) ⊕ sum (entries F) (λ k. only (eqb (column_end F k) i) (by_column u F t ms z i k)))
  unfolding by_row by_column
  one_part i = by (has ms i) (on z i)
    where
      none : (b : Bool) → Zero (only b nothing)
      none true = refl
      none false = refl

      zeros : Zero (sum (entries F) (λ k. only (eqb (row_end F k) i) nothing)) × Zero (sum (entries F) (λ k. only (eqb (column_end F k) i) nothing))
      zeros = (
        sum_zero (entries F) (λ k. only (eqb (row_end F k) i) nothing) (λ k h. none (eqb (row_end F k) i)),
        sum_zero (entries F) (λ k. only (eqb (column_end F k) i) nothing) (λ k h. none (eqb (column_end F k) i)),
      )

      by : (a b : Bool) → only a (only b (fixed_part u F t i))
          ≈ only a (only b ((whole_of u F).linear i))
          ⊕ (sum (entries F) (λ k. only (eqb (row_end F k) i) (only a (only b (share nothing ((whole_of u F).weight k) (get_or t (column_end F k) 0)))))
          ⊕ sum (entries F) (λ k. only (eqb (column_end F k) i) (only a (only b (share nothing ((whole_of u F).weight k) (get_or t (row_end F k) 0))))))
      by true true =
          omega (
            arith,
            sum_add (entries F)
                (λ k. only (eqb (row_end F k) i) (share nothing ((whole_of u F).weight k) (get_or t (column_end F k) 0))
                ⊕ only (eqb (column_end F k) i) (share nothing ((whole_of u F).weight k) (get_or t (row_end F k) 0)))
                (λ k. only (eqb (row_end F k) i) (share nothing ((whole_of u F).weight k) (get_or t (column_end F k) 0)))
                (λ k. only (eqb (column_end F k) i) (share nothing ((whole_of u F).weight k) (get_or t (row_end F k) 0))) (λ k h. refl),
          )
      by true false = omega (arith, zeros)
      by false b = omega (arith, zeros)

  linear_count : sum (length ms) (λ b. only (on z (get_or ms b 0)) (fixed_part u F t (get_or ms b 0)))
      ≈ sum (variables F) (λ i. only (has ms i) (only (on z i) ((whole_of u F).linear i)))
      ⊕ (sum (entries F) (λ k. by_row u F t ms z (row_end F k) k) ⊕ sum (entries F) (λ k. by_column u F t ms z (column_end F k) k))
  linear_count =
      omega (
        arith,
        sum_members (variables F) ms once below (λ i. only (on z i) (fixed_part u F t i)),
        sum_add (variables F) (λ i. only (has ms i) (only (on z i) (fixed_part u F t i))) (λ i. only (has ms i) (only (on z i) ((whole_of u F).linear i)))
            (λ i. sum (entries F) (λ k. only (eqb (row_end F k) i) (by_row u F t ms z i k)) ⊕ sum (entries F) (λ k. only (eqb (column_end F k) i) (by_column u F t ms z i k))) (λ i h. one_part i),
        sum_add (variables F) (λ i. sum (entries F) (λ k. only (eqb (row_end F k) i) (by_row u F t ms z i k)) ⊕ sum (entries F) (λ k. only (eqb (column_end F k) i) (by_column u F t ms z i k)))
            (λ i. sum (entries F) (λ k. only (eqb (row_end F k) i) (by_row u F t ms z i k))) (λ i. sum (entries F) (λ k. only (eqb (column_end F k) i) (by_column u F t ms z i k))) (λ i h. refl),
        collect (variables F) (entries F) (row_end F) shaped.row_below (by_row u F t ms z),
        collect (variables F) (entries F) (column_end F) shaped.column_below (by_column u F t ms z),
      )

  -- ---- the entries between members

  one_pair : (j i : ℕ) → only (has ms i) (only (on z i && on z j) (pair_weight u F i j)) ≈ sum (entries F) (λ k. only (eqb (row_end F k) i) (pair_of u F t ms z j i k))
  unfolding pair_of stands
  one_pair j i =
      omega (
        arith,
        only_alike (has ms i) (only (on z i && on z j) (pair_weight u F i j)) (only (on z i && on z j) stood) (only_alike (on z i && on z j) (pair_weight u F i j) stood (pair_sum u shaped i j)),
        only_alike (has ms i) (only (on z i && on z j) stood) (sum (entries F) (λ k. only (on z i && on z j) (only (eqb (row_end F k) i && eqb (column_end F k) j) ((whole_of u F).weight k))))
            (only_sum (on z i && on z j) (entries F) (λ k. only (eqb (row_end F k) i && eqb (column_end F k) j) ((whole_of u F).weight k))),
        only_sum (has ms i) (entries F) (λ k. only (on z i && on z j) (only (eqb (row_end F k) i && eqb (column_end F k) j) ((whole_of u F).weight k))),
        sum_same (entries F) (λ k. only (has ms i) (only (on z i && on z j) (only (eqb (row_end F k) i && eqb (column_end F k) j) ((whole_of u F).weight k))))
            (λ k. only (eqb (row_end F k) i) (only (eqb (column_end F k) j) (only (has ms i) (only (on z i && on z j) ((whole_of u F).weight k)))))
            (λ k h. order (has ms i) (on z i && on z j) (eqb (row_end F k) i) (eqb (column_end F k) j) ((whole_of u F).weight k)),
      )
    where
      stood : Whole
      stood = sum (entries F) (λ k. only (eqb (row_end F k) i && eqb (column_end F k) j) ((whole_of u F).weight k))

      order : (a b c d : Bool) (q : Whole) → only a (only b (only (c && d) q)) ≈ only c (only d (only a (only b q)))
      order true b c d q = only_swap b c d q
      order false b true true q = refl
      order false b true false q = refl
      order false b false d q = refl

  one_column : (j : ℕ) → sum (length ms) (λ a. only (on z (get_or ms a 0) && on z j) (pair_weight u F (get_or ms a 0) j)) ≈ sum (entries F) (λ k. pair_of u F t ms z j (row_end F k) k)
  one_column j =
      omega (
        arith,
        sum_members (variables F) ms once below (λ i. only (on z i && on z j) (pair_weight u F i j)),
        sum_same (variables F) (λ i. only (has ms i) (only (on z i && on z j) (pair_weight u F i j)))
            (λ i. sum (entries F) (λ k. only (eqb (row_end F k) i) (pair_of u F t ms z j i k))) (λ i h. one_pair j i),
        collect (variables F) (entries F) (row_end F) shaped.row_below (pair_of u F t ms z j),
      )

  column_of : (j : ℕ) → only (has ms j) (sum (entries F) (λ k. pair_of u F t ms z j (row_end F k) k)) ≈ sum (entries F) (λ k. only (eqb (column_end F k) j) (both u F t ms z j k))
  unfolding pair_of both
  column_of j =
      omega (
        arith,
        only_sum (has ms j) (entries F) (λ k. only (eqb (column_end F k) j) (only (has ms (row_end F k)) (only (on z (row_end F k) && on z j) ((whole_of u F).weight k)))),
        sum_same (entries F) (λ k. only (has ms j) (only (eqb (column_end F k) j) (only (has ms (row_end F k)) (only (on z (row_end F k) && on z j) ((whole_of u F).weight k)))))
            (λ k. only (eqb (column_end F k) j) (only (has ms j) (only (has ms (row_end F k)) (only (on z (row_end F k) && on z j) ((whole_of u F).weight k)))))
            (λ k h. only_two (has ms j) (eqb (column_end F k) j) (only (has ms (row_end F k)) (only (on z (row_end F k) && on z j) ((whole_of u F).weight k)))),
      )

  pair_count : sum (length ms) (λ b. sum (length ms) (λ a. only (on z (get_or ms a 0) && on z (get_or ms b 0)) (pair_weight u F (get_or ms a 0) (get_or ms b 0))))
      ≈ sum (entries F) (λ k. both u F t ms z (column_end F k) k)
  pair_count =
      omega (
        arith,
        sum_same (length ms) (λ b. sum (length ms) (λ a. only (on z (get_or ms a 0) && on z (get_or ms b 0)) (pair_weight u F (get_or ms a 0) (get_or ms b 0))))
            (λ b. sum (entries F) (λ k. pair_of u F t ms z (get_or ms b 0) (row_end F k) k)) (λ b h. one_column (get_or ms b 0)),
        sum_members (variables F) ms once below (λ j. sum (entries F) (λ k. pair_of u F t ms z j (row_end F k) k)),
        sum_same (variables F) (λ j. only (has ms j) (sum (entries F) (λ k. pair_of u F t ms z j (row_end F k) k)))
            (λ j. sum (entries F) (λ k. only (eqb (column_end F k) j) (both u F t ms z j k))) (λ j h. column_of j),
        collect (variables F) (entries F) (column_end F) shaped.column_below (both u F t ms z),
      )

  -- ---- together

  count_is : counted u F t ms z ≈ sum (variables F) (λ i. only (has ms i) (only (on z i) ((whole_of u F).linear i))) ⊕ sum (entries F) (of_entry u F t ms z)
  unfolding of_entry
  count_is =
      omega (
        arith,
        linear_count,
        pair_count,
        sum_add (entries F) (λ k. by_row u F t ms z (row_end F k) k ⊕ (by_column u F t ms z (column_end F k) k ⊕ both u F t ms z (column_end F k) k))
            (λ k. by_row u F t ms z (row_end F k) k) (λ k. by_column u F t ms z (column_end F k) k ⊕ both u F t ms z (column_end F k) k) (λ k h. refl),
        sum_add (entries F) (λ k. by_column u F t ms z (column_end F k) k ⊕ both u F t ms z (column_end F k) k)
            (λ k. by_column u F t ms z (column_end F k) k) (λ k. both u F t ms z (column_end F k) k) (λ k h. refl),
      )

-- ---- what an entry counts is what the objective counts of it, if an end is a member

shared : (q : Whole) (a b : ℕ) → a < 2 → b < 2 → only (eqb a 1) (share nothing q b) ≈ q ⊙ a ⊙ b
unfolding share
shared q zero zero h l = omega arith
shared q zero (suc zero) h l = omega arith
shared q (suc zero) zero h l = omega arith
shared q (suc zero) (suc zero) h l = omega arith
shared q (suc (suc a)) b h l = absurd (omega arith)
shared q zero (suc (suc b)) h l = absurd (omega arith)
shared q (suc zero) (suc (suc b)) h l = absurd (omega arith)

joint : (q : Whole) (a b : ℕ) → a < 2 → b < 2 → only (eqb a 1 && eqb b 1) q ≈ q ⊙ a ⊙ b
joint q zero b h l = omega arith
joint q (suc zero) zero h l = omega arith
joint q (suc zero) (suc zero) h l = omega arith
joint q (suc (suc a)) b h l = absurd (omega arith)
joint q (suc zero) (suc (suc b)) h l = absurd (omega arith)

turned : (q : Whole) (a b : ℕ) → a < 2 → b < 2 → q ⊙ a ⊙ b ≈ q ⊙ b ⊙ a
turned q zero b h l = omega arith
turned q (suc zero) b h l = omega arith
turned q (suc (suc a)) b h l = absurd (omega arith)

freed : (q : Whole) (v : ℕ) → v ≡ 2 → share nothing q v ≡ nothing
unfolding share
freed q v e = rw e

-- a and b say whether the ends are members; x and y are the values there, v and w those that were given
entry_by : (a b : Bool) (q : Whole) (x y v w : ℕ) → x < 2 → y < 2 → (a ≡ true → v ≡ 2) → (b ≡ true → w ≡ 2) → (a ≡ true → b ≡ false → y ≡ w) → (a ≡ false → b ≡ true → x ≡ v)
    → only a (only (eqb x 1) (share nothing q w)) ⊕ (only b (only (eqb y 1) (share nothing q v)) ⊕ only b (only a (only (eqb x 1 && eqb y 1) q))) ≈ only (a || b) (q ⊙ x ⊙ y)
entry_by true true q x y v w hx hy fv fw ey ex = rw (freed q w (fw refl), freed q v (fv refl)) (omega (arith, blank (eqb x 1), blank (eqb y 1), joint q x y hx hy))
  where
    blank : (b : Bool) → Zero (only b nothing)
    blank true = refl
    blank false = refl
entry_by true false q x y v w hx hy fv fw ey ex = rw (← ey refl refl) (omega (arith, shared q x y hx hy))
entry_by false true q x y v w hx hy fv fw ey ex = rw (← ex refl refl) (omega (arith, shared q y x hy hx, turned q x y hx hy))
entry_by false false q x y v w hx hy fv fw ey ex = omega arith

linear_by : (a : Bool) (q : Whole) (x y : ℕ) → x < 2 → y < 2 → (a ≡ false → y ≡ x) → q ⊙ x ⊕ only a (only (eqb y 1) q) ≈ q ⊙ y ⊕ only a (only (eqb x 1) q)
linear_by false q x y hx hy e = rw (e refl) (omega arith)
linear_by true q x y hx hy e = omega (arith, whole x hx, whole y hy)
  where
    whole : (v : ℕ) → v < 2 → only (eqb v 1) q ≈ q ⊙ v
    whole zero h = omega arith
    whole (suc zero) h = omega arith
    whole (suc (suc v)) h = absurd (omega arith)

module _ {u : ℕ} {F : Field} (shaped : Shaped F) {t ms : List ℕ} (A : Alone u F t ms) where
  -- an end that is no member, of an entry whose other end is one, has the value that was given
  given_other : {z : List ℕ} → Completion t z → (k : ℕ) → k < entries F
      → (has ms (row_end F k) ≡ true → has ms (column_end F k) ≡ false → get_or z (column_end F k) 0 ≡ get_or t (column_end F k) 0)
      × (has ms (row_end F k) ≡ false → has ms (column_end F k) ≡ true → get_or z (row_end F k) 0 ≡ get_or t (row_end F k) 0)
  given_other {z} C k h = (
    (λ a b. ⊎_elim (λ e. absurd (true≢false (sym a ∙ e ∙ b))) (⊎_elim (λ n. absurd (n (A.free _ a))) (λ n. known (column_end F k) n)) (A.separate k h)),
    (λ a b. ⊎_elim (λ e. absurd (true≢false (sym b ∙ sym e ∙ a))) (⊎_elim (λ n. known (row_end F k) n) (λ n. absurd (n (A.free _ b)))) (A.separate k h)),
  )
    where
      known : (i : ℕ) → get_or t i 0 ≢ 2 → get_or z i 0 ≡ get_or t i 0
      known i n = ⊎_elim (λ e. absurd (n e)) (λ e. e) (C.extends.kept i)

  entry_is : {z : List ℕ} → Completion t z → (k : ℕ) → k < entries F → of_entry u F t ms z k ≈ only (has ms (row_end F k) || has ms (column_end F k)) (entry_term (whole_of u F) z k)
  unfolding of_entry by_row by_column both
  entry_is {z} C k h =
      entry_by (has ms (row_end F k)) (has ms (column_end F k)) ((whole_of u F).weight k) _ _ (get_or t (row_end F k) 0) (get_or t (column_end F k) 0)
      (C.full (row_end F k)) (C.full (column_end F k)) (A.free (row_end F k)) (A.free (column_end F k)) (given_other C k h).0 (given_other C k h).1

  pub exchange : {y z : List ℕ} → Completion t y → Completion t z → ((i : ℕ) → has ms i ≡ false → get_or z i 0 ≡ get_or y i 0)
      → twice_f (whole_of u F) y ⊕ counted u F t ms z ≈ twice_f (whole_of u F) z ⊕ counted u F t ms y
  exchange {y} {z} Y Z off =
      omega (
        arith,
        count_is u shaped t ms A.once A.below y,
        count_is u shaped t ms A.once A.below z,
        sum_four (variables F) (variable_term (whole_of u F) y) (λ i. only (has ms i) (only (on z i) ((whole_of u F).linear i)))
            (variable_term (whole_of u F) z) (λ i. only (has ms i) (only (on y i) ((whole_of u F).linear i)))
            (λ i h. linear_by (has ms i) ((whole_of u F).linear i) (get_or y i 0) (get_or z i 0) (Y.full i) (Z.full i) (off i)),
        sum_four (entries F) (entry_term (whole_of u F) y) (of_entry u F t ms z) (entry_term (whole_of u F) z) (of_entry u F t ms y)
            (λ k h. by k h (has ms (row_end F k)) (has ms (column_end F k)) refl refl),
      )
    where
      by : (k : ℕ) → k < entries F → (a b : Bool) → has ms (row_end F k) ≡ a → has ms (column_end F k) ≡ b
          → entry_term (whole_of u F) y k ⊕ of_entry u F t ms z k ≈ entry_term (whole_of u F) z k ⊕ of_entry u F t ms y k
      by k h true b p q = omega (arith, rw p at (entry_is Y k h), rw p at (entry_is Z k h))
      by k h false true p q = omega (arith, rw (p, q) at (entry_is Y k h), rw (p, q) at (entry_is Z k h))
      by k h false false p q = rw (off (row_end F k) p, off (column_end F k) q) (omega (arith, rw (p, q) at (entry_is Y k h), rw (p, q) at (entry_is Z k h)))
