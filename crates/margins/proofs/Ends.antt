-- On exact fields the folds over a variable's entries count whole numbers: the linear part, the merged weights, the mass. Assumes nothing.
use mathlib.Core.Path.{◌≡◌, refl, sym, ◌∙◌, subst}
use mathlib.Core.Bool.{Bool, true, false, not, cond}
use mathlib.Core.List.{List}
use Prim.Native.Nat.{ℕ, zero, suc, ◌+◌, ◌*◌, ◌^◌, ◌≤◌, ◌<◌}
use native.Mathlib.Omega.{arith}
use lib.IntN.{pos}
use lib.ListN.{get_or}
use lib.Dec.{T, eqb, ltb→lt, nltb→le}
use lib.Ieee.{Float, binary64, add, mul, lt, eq, of_int}
use borrow.Author.Tests.{eqb-true}
use Rattle.whole.specs.Whole.{Whole, nothing, ◌⊕◌, only, sum, size, min0, max0, Zero, Under}
use Rattle.whole.proofs.Sums.{only_under}
use Rattle.weights.specs.Worth.{Worth, zero64}
use Rattle.weights.proofs.Worth.{add_worth, times_worth, as_worth, zero_worth, eq_worth, magnitude_worth, above_zero, below_zero as below_zero_lem}
use Rattle.meaning.specs.Gradient.{share}
use Rattle.meaning.specs.Pair.{merged, settled}
use Rattle.meaning.proofs.Views.{share_under}
use Rattle.field.specs.Field.{Field, variables, entries, row_end, column_end, StartFor}
use Rattle.field.specs.Reading.{whole_of}
use Rattle.field.proofs.Reading.{linear_worth, linear_under}
use Rattle.rows.proofs.Counted.{coeff_worth, weight_under}
use Rattle.margins.specs.Exact.{Exact, counts, mass_of}
use Rattle.margins.specs.Model.{Op, at_end, over_ends, over_all, add_fixed_end, add_magnitude, add_between, kept, below_zero, above_zero_of, linear_part, merged_weight, mass}

choice : {u : ℕ} (b : Bool) {y z : Float} {a : Whole} → (T b → Worth u y a) → (T (not b) → Worth u z a) → Worth u (cond b y z) a
choice true p q = p tt
choice false p q = q tt

module _ {u : ℕ} {x : Float} {a : Whole} (h : Worth u x a) where
  is_below : T (lt x zero64) → a.plus < a.less
  is_below e = ltb→lt _ _ (subst T (below_zero_lem h) e)

  not_below : T (not (lt x zero64)) → a.less ≤ a.plus
  not_below e = nltb→le _ _ (subst (λ (i : Bool). T (not i)) (below_zero_lem h) e)

  is_above : T (lt zero64 x) → a.less < a.plus
  is_above e = ltb→lt _ _ (subst T (above_zero h) e)

  not_above : T (not (lt zero64 x)) → a.plus ≤ a.less
  not_above e = nltb→le _ _ (subst (λ (i : Bool). T (not i)) (above_zero h) e)

  pub below_worth : Worth u (below_zero x) (min0 a)
  below_worth = choice (lt x zero64) (λ e. let r = is_below e in as_worth h (omega arith)) (λ e. let r = not_below e in as_worth (zero_worth h.unit) (omega arith))

  pub above_worth : Worth u (above_zero_of x) (max0 a)
  above_worth = choice (lt zero64 x) (λ e. let r = is_above e in as_worth h (omega arith)) (λ e. let r = not_above e in as_worth (zero_worth h.unit) (omega arith))

pub is_zero : {u : ℕ} {x : Float} {a : Whole} → Worth u x a → eq x zero64 ≡ true → Zero a
is_zero {u} {x} {a} h e =
    let z = zero_worth h.unit in
    let r = eqb-true (a.plus + 0) (0 + a.less) (sym (eq_worth h z) ∙ e) in
    omega arith

pub kept_worth : {u : ℕ} {x : Float} {a : Whole} → Worth u x a → Worth u (kept x) a
kept_worth {u} {x} {a} h = go (eq x zero64) refl
  where
    go : (b : Bool) → eq x zero64 ≡ b → Worth u (cond b zero64 x) a
    go true e = let z = is_zero h e in as_worth (zero_worth h.unit) (omega arith)
    go false e = h

-- ---- one induction for the three folds: `op` counts g of the weight and the other end
pub record Adds (u : ℕ) (op : Op) (g : Whole → ℕ → Whole) : Type 0 where
  pub small : (q : Whole) (j : ℕ) → Under (2 ^ 31) q → Under (2 ^ 31) (g q j)
  pub adds : (x a : Float) (b q : Whole) (j : ℕ) → Worth u x b → Under (2 ^ 50) b → Worth u a q → Under (2 ^ 31) q → Worth u (op x a j) (b ⊕ g q j)

module _ {u : ℕ} {F : Field} (x : Exact u F) where
  module _ {op : Op} {g : Whole → ℕ → Whole} (law : Adds u op g) (i : ℕ) where
    first_under : (e : ℕ) → e < entries F → Under (2 ^ 31) (only (eqb (row_end F e) i) (g ((whole_of u F).weight e) (column_end F e)))
    first_under e h = only_under (2 ^ 31) (eqb (row_end F e) i) _ (law.small _ (column_end F e) (weight_under x.exact e h))

    second_under : (e : ℕ) → e < entries F → Under (2 ^ 31) (only (eqb (column_end F e) i) (g ((whole_of u F).weight e) (row_end F e)))
    second_under e h = only_under (2 ^ 31) (eqb (column_end F e) i) _ (law.small _ (row_end F e) (weight_under x.exact e h))

    counted_under : (k : ℕ) → k ≤ entries F → Under (2 ^ 32 * k) (sum k (counts u F g i))
    unfolding sum
    counted_under zero h = omega arith
    counted_under (suc k) h = omega (arith, counted_under k (omega arith), first_under k (omega arith), second_under k (omega arith))

    end_worth : (end other : ℕ) {y a : Float} {b q : Whole} → Worth u y b → Under (2 ^ 50) b → Worth u a q → Under (2 ^ 31) q → Worth u (at_end op i end other a y) (b ⊕ only (eqb end i) (g q other))
    unfolding at_end
    end_worth end other {y} {a} {b} {q} h n k s = go (eqb end i)
      where
        go : (d : Bool) → Worth u (cond d (op y a other) y) (b ⊕ only d (g q other))
        go true = law.adds y a b q other h n k s
        go false = as_worth h (omega arith)

    module _ {start : Float} {a : Whole} (w : Worth u start a) (near : Under (2 ^ 31) a) where
      ends_worth : (k : ℕ) → k ≤ entries F → Worth u (over_ends op F i start k) (a ⊕ sum k (counts u F g i))
      unfolding over_ends sum
      ends_worth zero h = as_worth w (omega arith)
      ends_worth (suc k) h =
          let r = row_end F k in
          let c = column_end F k in
          let q = coeff_worth x.exact k (omega arith) in
          let z = weight_under x.exact k (omega arith) in
          let few = x.shaped.few_entries in
          let reach = counted_under k (omega arith) in
          let p = first_under k (omega arith) in
          as_worth (end_worth c r (end_worth r c (ends_worth k (omega arith)) (omega arith) q z) (omega arith) q z) (omega arith)

      pub all_worth : Worth u (over_all op F i start) (a ⊕ sum (entries F) (counts u F g i))
      all_worth = ends_worth (entries F) (omega arith)

      pub all_under : Under (2 ^ 48) (a ⊕ sum (entries F) (counts u F g i))
      all_under = omega (arith, x.shaped.few_entries, counted_under (entries F) (omega arith))

  -- ---- the three
  fixed_adds : {s : List ℕ} → StartFor (variables F) s → Adds u (add_fixed_end s) (λ q j. share nothing q (get_or s j 0))
  unfolding share
  fixed_adds {s} st = record { small = λ q j h. share_under (2 ^ 31) nothing q (get_or s j 0) (omega arith) h; adds = λ y a b q j. go y a b q (get_or s j 0) (st.small j) }
    where
      go : (y a : Float) (b q : Whole) (v : ℕ) → v ≤ 2 → Worth u y b → Under (2 ^ 50) b → Worth u a q → Under (2 ^ 31) q → Worth u (cond (eqb v 2) y (add binary64 y (mul binary64 a (of_int binary64 (pos v))))) (b ⊕ share nothing q v)
      go y a b q zero l h n k z = as_worth (add_worth h (times_worth 0 (omega arith) k (omega arith)) (omega arith)) (omega arith)
      go y a b q (suc zero) l h n k z = as_worth (add_worth h (times_worth 1 (omega arith) k (omega arith)) (omega arith)) (omega arith)
      go y a b q (suc (suc zero)) l h n k z = as_worth h (omega arith)
      go y a b q (suc (suc (suc v))) l h n k z = absurd (omega arith)

  magnitude_adds : Adds u add_magnitude (λ q j. size q)
  magnitude_adds = record { small = λ q j h. omega arith; adds = λ y a b q j h n k z. add_worth h (magnitude_worth k) (omega arith) }

  between_adds : (k : ℕ) → Adds u (add_between k) (λ q j. only (eqb j k) q)
  between_adds k = record { small = λ q j. only_under (2 ^ 31) (eqb j k) q; adds = λ y a b q j. go y a b q (eqb j k) }
    where
      go : (y a : Float) (b q : Whole) (d : Bool) → Worth u y b → Under (2 ^ 50) b → Worth u a q → Under (2 ^ 31) q → Worth u (cond d (add binary64 y a) y) (b ⊕ only d q)
      go y a b q true h n k z = add_worth h k (omega arith)
      go y a b q false h n k z = as_worth h (omega arith)

  module _ (i : ℕ) where
    -- the merged weight of i and k
    pub merged_worth : (k : ℕ) → Worth u (merged_weight F i k) (merged (whole_of u F) i k)
    unfolding merged_weight
    merged_worth k = kept_worth (as_worth (all_worth (between_adds k) i (zero_worth (omega (arith, x.unit))) (omega arith)) (omega arith))

    pub merged_under : (k : ℕ) → Under (2 ^ 48) (merged (whole_of u F) i k)
    merged_under k = omega (arith, all_under (between_adds k) i (zero_worth (omega (arith, x.unit))) (omega arith))

    module _ (h : i < variables F) where
      pub linear_part_worth : {s : List ℕ} → StartFor (variables F) s → Worth u (linear_part F s i) (settled (whole_of u F) s i)
      linear_part_worth st = all_worth (fixed_adds st) i (linear_worth x.exact i h) (linear_under x.exact i h)

      pub linear_part_under : {s : List ℕ} → StartFor (variables F) s → Under (2 ^ 48) (settled (whole_of u F) s i)
      linear_part_under st = all_under (fixed_adds st) i (linear_worth x.exact i h) (linear_under x.exact i h)

      -- Theorem. On an exact field the mass of a variable is its mass in whole numbers: no sum rounds.
      pub mass_worth : Worth u (mass F i) (mass_of u F i)
      mass_worth = all_worth magnitude_adds i (magnitude_worth (linear_worth x.exact i h)) (omega (arith, linear_under x.exact i h))

      pub mass_under : Under (2 ^ 48) (mass_of u F i)
      mass_under = all_under magnitude_adds i (magnitude_worth (linear_worth x.exact i h)) (omega (arith, linear_under x.exact i h))
