-- On exact fields the model's four bounds count the meaning's, in units of u: each is the least or the greatest over all values of the other free variables. Assumes nothing.
use mathlib.Core.Path.{◌≡◌, refl}
use mathlib.Core.Logic.{◌≢◌}
use mathlib.Core.Bool.{Bool, true, false, not, ◌&&◌, cond, true≢false}
use mathlib.Core.List.{List}
use Prim.Native.Nat.{ℕ, zero, suc, ◌+◌, ◌^◌, ◌≤◌, ◌<◌}
use native.Mathlib.Omega.{arith}
use lib.ListN.{get_or}
use lib.Ieee.{Float, binary64, add, eq}
use Rattle.whole.specs.Whole.{Whole, nothing, ◌⊕◌, ◌⊖◌, only, sum, min0, max0, ◌⊑◌, ◌≈◌, Under}
use Rattle.weights.specs.Worth.{Worth, zero64}
use Rattle.weights.proofs.Worth.{add_worth, sub_worth, as_worth}
use Rattle.meaning.specs.Field as meaning
use Rattle.meaning.specs.Pair.{merged, signed, own, pull, settled, third, margin, greatest, lowest, difference}
use Rattle.meaning.proofs.Worked.{gap_worked}
use Rattle.meaning.proofs.Lowest.{lowest_completion}
use Rattle.meaning.proofs.Margin.{margin_below, margin_reached, greatest_is}
use Rattle.field.specs.Field.{Field, variables, StartFor}
use Rattle.field.specs.Reading.{whole_of}
use Rattle.field.proofs.Reading.{whole_within, whole_standard}
use Rattle.rows.proofs.Counted.{weight_under}
use Rattle.margins.specs.Exact.{Exact}
use Rattle.margins.specs.Dominance.{Least, Greatest, Four}
use Rattle.margins.specs.declared.bounds.Bounds.{Bounds}
use Rattle.margins.specs.Model.{widen, meets, neighbour, bounds_to, bounds_of, merged_weight, below_zero, above_zero_of}
use Rattle.margins.proofs.Ends.{is_zero, below_worth, above_worth, merged_worth, merged_under, linear_part_worth, linear_part_under}
use Rattle.margins.proofs.Spread.{pair_reach}

-- the four bounds are the whole numbers a, b, c, d
pub record Worths (u : ℕ) (f : Bounds) (a b c d : Whole) : Type 0 where
  pub sumLow : Worth u f.sumLow a
  pub sumHigh : Worth u f.sumHigh b
  pub diffLow : Worth u f.diffLow c
  pub diffHigh : Worth u f.diffHigh d

as_worths : {u : ℕ} {f : Bounds} {a b c d a' b' c' d' : Whole} → Worths u f a b c d → a ≈ a' → b ≈ b' → c ≈ c' → d ≈ d' → Worths u f a' b' c' d'
as_worths f p q r s = record { sumLow = as_worth f.sumLow p; sumHigh = as_worth f.sumHigh q; diffLow = as_worth f.diffLow r; diffHigh = as_worth f.diffHigh s }

module _ {u : ℕ} {x w : Float} {a c : Whole} (h : Worth u x a) (k : Worth u w c) (n : Under (2 ^ 51) a) (l : Under (2 ^ 50) c) where
  low_step : Worth u (add binary64 x (below_zero w)) (a ⊕ min0 c)
  low_step = add_worth h (below_worth k) (omega arith)

  high_step : Worth u (add binary64 x (above_zero_of w)) (a ⊕ max0 c)
  high_step = add_worth h (above_worth k) (omega arith)

both_zero : (p q : Bool) → not (p && q) ≡ false → (p ≡ true) × (q ≡ true)
both_zero true true e = (refl, refl)
both_zero true false e = absurd (true≢false e)
both_zero false q e = absurd (true≢false e)

module _ {u : ℕ} {F : Field} (x : Exact u F) {s : List ℕ} (st : StartFor (variables F) s) (i j : ℕ) (hi : i < variables F) (hj : j < variables F) where
  fits : meaning.Within (whole_of u F)
  fits = whole_within u x.shaped

  -- a free neighbour's part
  abbrev part : (Whole → Whole) → Bool → ℕ → Whole
  part free b k = only (third s i j k) (free (pull true b (whole_of u F) i j k))

  -- a bound after the neighbours below k
  abbrev worked : (Whole → Whole) → Bool → ℕ → Whole
  worked free b k = settled (whole_of u F) s i ⊕ signed b (settled (whole_of u F) s j) ⊕ own true b (merged (whole_of u F) i j) ⊕ sum k (part free b)

  start_worths : Worths u (bounds_to F s i j 0) (worked min0 true 0) (worked max0 true 0) (worked min0 false 0) (worked max0 false 0)
  unfolding bounds_to sum
  start_worths =
      let p = linear_part_worth x i hi st in
      let q = linear_part_worth x j hj st in
      let np = linear_part_under x i hi st in
      let nq = linear_part_under x j hj st in
      let e = merged_worth x i j in
      let ne = merged_under x i j in
      let s = add_worth (add_worth p q (omega arith)) e (omega arith) in
      let d = sub_worth p q (omega arith) in
      record { sumLow = as_worth s (omega arith); sumHigh = as_worth s (omega arith); diffLow = as_worth d (omega arith); diffHigh = as_worth d (omega arith) }

  -- every bound stays far from where floats round
  part_inside : (b t : Bool) (p q : Whole) → Under (p.plus + p.less + (q.plus + q.less)) (only t (min0 (p ⊕ signed b q))) × Under (p.plus + p.less + (q.plus + q.less)) (only t (max0 (p ⊕ signed b q)))
  part_inside b false p q = omega arith
  part_inside true true p q = omega arith
  part_inside false true p q = omega arith

  start_under : (b : Bool) → Under (2 ^ 50) (settled (whole_of u F) s i ⊕ signed b (settled (whole_of u F) s j) ⊕ own true b (merged (whole_of u F) i j))
  start_under true = omega (arith, linear_part_under x i hi st, linear_part_under x j hj st, merged_under x i j)
  start_under false = omega (arith, linear_part_under x i hi st, linear_part_under x j hj st)

  low_under : (b : Bool) (k : ℕ) → k ≤ variables F → Under (2 ^ 51) (worked min0 b k)
  low_under b k h = omega (arith, start_under b, pair_reach (whole_of u F) fits x.shaped.few_entries (weight_under x.exact) i j (part min0 b) (λ k. (part_inside b (third s i j k) (merged (whole_of u F) i k) (merged (whole_of u F) j k)).0) k h)

  high_under : (b : Bool) (k : ℕ) → k ≤ variables F → Under (2 ^ 51) (worked max0 b k)
  high_under b k h = omega (arith, start_under b, pair_reach (whole_of u F) fits x.shaped.few_entries (weight_under x.exact) i j (part max0 b) (λ k. (part_inside b (third s i j k) (merged (whole_of u F) i k) (merged (whole_of u F) j k)).1) k h)

  worths_to : (k : ℕ) → k ≤ variables F → Worths u (bounds_to F s i j k) (worked min0 true k) (worked max0 true k) (worked min0 false k) (worked max0 false k)
  unfolding bounds_to neighbour widen sum
  worths_to zero h = start_worths
  worths_to (suc k) h =
      as_worths
      (go (third s i j k) (meets (merged_weight F i k) (merged_weight F j k)) refl (worths_to k (omega arith))
      (low_under true k (omega arith)) (high_under true k (omega arith)) (low_under false k (omega arith)) (high_under false k (omega arith)))
      (omega arith) (omega arith) (omega arith) (omega arith)
    where
      go : (t m : Bool) → meets (merged_weight F i k) (merged_weight F j k) ≡ m → {f : Bounds} {p q r z : Whole} → Worths u f p q r z → Under (2 ^ 51) p → Under (2 ^ 51) q → Under (2 ^ 51) r → Under (2 ^ 51) z
          → Worths u (cond (t && m) (widen f (merged_weight F i k) (merged_weight F j k)) f)
          (p ⊕ only t (min0 (pull true true (whole_of u F) i j k))) (q ⊕ only t (max0 (pull true true (whole_of u F) i j k)))
          (r ⊕ only t (min0 (pull true false (whole_of u F) i j k))) (z ⊕ only t (max0 (pull true false (whole_of u F) i j k)))
      go false m e f np nq nr nz = as_worths f (omega arith) (omega arith) (omega arith) (omega arith)
      go true true e f np nq nr nz =
          let ha = merged_worth x i k in
          let hb = merged_worth x j k in
          let na = merged_under x i k in
          let nb = merged_under x j k in
          let s = add_worth ha hb (omega arith) in
          let d = sub_worth ha hb (omega arith) in
          record {
            sumLow = low_step f.sumLow s np (omega arith);
            sumHigh = high_step f.sumHigh s nq (omega arith);
            diffLow = as_worth (low_step f.diffLow d nr (omega arith)) (omega arith);
            diffHigh = as_worth (high_step f.diffHigh d nz (omega arith)) (omega arith);
          }
      go true false e f np nq nr nz =
          let both = both_zero (eq (merged_weight F i k) zero64) (eq (merged_weight F j k) zero64) e in
          let za = is_zero (merged_worth x i k) both.0 in
          let zb = is_zero (merged_worth x j k) both.1 in
          as_worths f (omega arith) (omega arith) (omega arith) (omega arith)

  -- what the model works out is what the meaning says
  pub bounds_worth : get_or s i 0 ≡ 2 → get_or s j 0 ≡ 2
      → Worths u (bounds_of F s i j) (margin true true (whole_of u F) s i j) (greatest true true (whole_of u F) s i j) (margin true false (whole_of u F) s i j) (greatest true false (whole_of u F) s i j)
  unfolding bounds_of
  bounds_worth fi fj =
      let f = worths_to (variables F) (omega arith) in
      let W = whole_of u F in
      record {
        sumLow = as_worth f.sumLow (omega (arith, gap_worked min0 true true W s st.small i j fi fj fits));
        sumHigh = as_worth f.sumHigh (omega (arith, gap_worked max0 true true W s st.small i j fi fj fits));
        diffLow = as_worth f.diffLow (omega (arith, gap_worked min0 true false W s st.small i j fi fj fits));
        diffHigh = as_worth f.diffHigh (omega (arith, gap_worked max0 true false W s st.small i j fi fj fits));
      }

-- ---- over all values of the other free variables

turned : (a b : Bool) (G : meaning.Field) (x : List ℕ) (i j : ℕ) → difference a b G x i j ≈ nothing ⊖ difference (not a) (not b) G x i j
turned true true G x i j = omega arith
turned true false G x i j = omega arith
turned false true G x i j = omega arith
turned false false G x i j = omega arith

module _ {u : ℕ} {F : Field} (x : Exact u F) {s : List ℕ} (st : StartFor (variables F) s) (i j : ℕ) (hi : i < variables F) (hj : j < variables F) (ne : i ≢ j) where
  abbrev W : meaning.Field
  W = whole_of u F

  -- the completion that reaches the margin of a pattern
  abbrev low : Bool → Bool → List ℕ
  low a b = lowest (pull a b W i j) s

  reached : (a b : Bool) → margin a b W s i j ≈ difference a b W (low a b) i j
  reached a b = margin_reached W (whole_standard u F x.exact.standard) (whole_within u x.shaped) s st.small st.long a b i j hi hj ne

  below : (a b : Bool) (z : List ℕ) → meaning.Completion s z → margin a b W s i j ⊑ difference a b W z i j
  below a b = margin_below W (whole_standard u F x.exact.standard) (whole_within u x.shaped) s st.small st.long a b i j hi hj ne

  is_least : (a b : Bool) {y : Float} → Worth u y (margin a b W s i j) → Least u F s i j a b y
  is_least a b w = record {
    at = low a b;
    completion = lowest_completion (pull a b W i j) s st.small;
    worth = as_worth w (reached a b);
    least = λ z c. omega (arith, reached a b, below a b z c);
  }

  is_greatest : (a b : Bool) {y : Float} → Worth u y (greatest a b W s i j) → Greatest u F s i j a b y
  is_greatest a b w =
      let most = low (not a) (not b) in
      record {
        at = most;
        completion = lowest_completion (pull (not a) (not b) W i j) s st.small;
        worth = as_worth w (omega (arith, greatest_is a b W s i j, reached (not a) (not b), turned a b W most i j));
        greatest = λ z c. omega (arith, reached (not a) (not b), below (not a) (not b) z c, turned a b W most i j, turned a b W z i j);
      }

  -- THE FOUR BOUNDS: each is the least or the greatest
  pub four : get_or s i 0 ≡ 2 → get_or s j 0 ≡ 2 → Four u F s i j (bounds_of F s i j)
  four fi fj =
      let w = bounds_worth x st i j hi hj fi fj in
      record { sumLow = is_least true true w.sumLow; sumHigh = is_greatest true true w.sumHigh; diffLow = is_least true false w.diffLow; diffHigh = is_greatest true false w.diffHigh }
