-- The laws of the walk over two rows that the code's proofs cite. Assumes nothing.
use mathlib.Core.Path.{◌≡◌, refl, sym, ap, ◌∙◌}
use mathlib.Core.Logic.{◌≢◌}
use mathlib.Core.Bool.{Bool, true, false, not, ◌&&◌, ◌||◌, cond, true≢false}
use Prim.Native.Nat.{ℕ, zero, suc, ◌+◌, ◌≤◌, ◌<◌}
use native.Mathlib.Omega.{arith}
use lib.ListN.{get_or}
use lib.Dec.{ltb}
use lib.Ieee.{Float, nan, binary64, add, sub, eq, ne}
use borrow.Author.Tests.{ltb-true, le-ltb, lt-ltb, eq-eqb, ne_eqb}
use Rattle.weights.specs.Worth.{zero64}
use Rattle.margins.specs.declared.bounds.Bounds.{Bounds}
use Rattle.margins.specs.declared.walking.Walk.{Walk}
use Rattle.margins.specs.Model.{meets, widen, below_zero, above_zero_of, hopeless}
use Rattle.margins.specs.Merge.{Rows, Fit, met_by, step_i, step_j, step_both_of, turn_of, live, going, left_over, walk_on, walk_all, Going}

pub widen_is : (b : Bounds) (wi wj p q r s : Float) → p ≡ below_zero (add binary64 wi wj) → q ≡ above_zero_of (add binary64 wi wj) → r ≡ below_zero (sub binary64 wi wj) → s ≡ above_zero_of (sub binary64 wi wj)
    → ◌≡◌ {A = Bounds} (record { sumLow = add binary64 b.sumLow p; sumHigh = add binary64 b.sumHigh q; diffLow = add binary64 b.diffLow r; diffHigh = add binary64 b.diffHigh s }) (widen b wi wj)
unfolding widen
widen_is b wi wj p q r s hp hq hr hs = rw (hp, hq, hr, hs) refl

pub met_i : (b : Bounds) (i j k : ℕ) (wi wj : Float) → k ≡ i → b ≡ met_by b i j k wi wj
unfolding met_by
met_i b i j k wi wj e = rw (eq-eqb k i e) refl

pub met_j : (b : Bounds) (i j k : ℕ) (wi wj : Float) → k ≢ i → k ≡ j → b ≡ met_by b i j k wi wj
unfolding met_by
met_j b i j k wi wj n e = rw (ne_eqb k i n, eq-eqb k j e) refl

pub met_other : (b : Bounds) (i j k : ℕ) (wi wj : Float) {d : Bool} (r : Bounds) → k ≢ i → k ≢ j → d ≡ meets wi wj → d ≡ true → r ≡ widen b wi wj → r ≡ met_by b i j k wi wj
unfolding met_by
met_other b i j k wi wj r n m d y e = rw (ne_eqb k i n, ne_eqb k j m, ← d, y) e

pub met_none : (b : Bounds) (i j k : ℕ) (wi wj : Float) {d : Bool} → k ≢ i → k ≢ j → d ≡ meets wi wj → d ≡ false → b ≡ met_by b i j k wi wj
unfolding met_by
met_none b i j k wi wj n m d y = rw (ne_eqb k i n, ne_eqb k j m, ← d, y)

pub meets_first : (wi wj : Float) → ne wi zero64 ≡ true → true ≡ meets wi wj
unfolding ne
meets_first wi wj e = go (eq wi zero64) (eq wj zero64) e
  where
    go : (a b : Bool) → not a ≡ true → true ≡ not (a && b)
    go true b e = absurd (true≢false (sym e))
    go false b e = refl

pub meets_second : (wi wj : Float) → ne wi zero64 ≡ false → ne wj zero64 ≡ meets wi wj
unfolding ne
meets_second wi wj e = go (eq wi zero64) (eq wj zero64) e
  where
    go : (a b : Bool) → not a ≡ false → not b ≡ not (a && b)
    go true b e = refl
    go false b e = absurd (true≢false e)

-- a walk that goes on has hope, and one of the rows is not at its end
pub and_true : (a b : Bool) → (a && b) ≡ true → (a ≡ true) × (b ≡ true)
and_true true b e = (refl, e)
and_true false b e = absurd (true≢false (sym e))

pub and_none : (a : Bool) → (a && false) ≡ false
and_none true = refl
and_none false = refl

pub right_live : (ea eb : ℕ) (t : Float) (w : Walk) → going ea eb t w ≡ true → ea ≤ w.left → w.right < eb
unfolding going
right_live ea eb t w l h = ltb-true w.right eb (rw (le-ltb w.left ea h) at (and_true (not (hopeless t w.bounds)) _ l).1)

module _ (R : Rows) (w : Walk) where
  abbrev ki : ℕ
  ki = get_or R.keys w.left 0

  abbrev kj : ℕ
  kj = get_or R.keys w.right 0

  pub turn_i : (k l : ℕ) (m : Bounds) → w.left < R.end_i → w.right < R.end_j → k ≡ ki → l ≡ kj → k < l → m ≡ met_by w.bounds R.i R.j k (get_or R.weights w.left nan) zero64
      → ◌≡◌ {A = Walk} (record { left = w.left + 1; right = w.right; bounds = m }) (turn_of R w)
  unfolding turn_of
  turn_i k l m a b e f c h = rw (lt-ltb w.left R.end_i a, lt-ltb w.right R.end_j b, lt-ltb ki kj (omega (arith, e, f, c)), h, e) refl

  pub turn_j : (k l : ℕ) (m : Bounds) → w.left < R.end_i → w.right < R.end_j → k ≡ ki → l ≡ kj → l < k → m ≡ met_by w.bounds R.i R.j l zero64 (get_or R.weights w.right nan)
      → ◌≡◌ {A = Walk} (record { left = w.left; right = w.right + 1; bounds = m }) (turn_of R w)
  unfolding turn_of
  turn_j k l m a b e f c h = rw (lt-ltb w.left R.end_i a, lt-ltb w.right R.end_j b, le-ltb ki kj (omega (arith, e, f, c)), lt-ltb kj ki (omega (arith, e, f, c)), h, f) refl

  pub turn_both : (k l : ℕ) (m : Bounds) → w.left < R.end_i → w.right < R.end_j → k ≡ ki → l ≡ kj → l ≤ k → k ≤ l → m ≡ met_by w.bounds R.i R.j k (get_or R.weights w.left nan) (get_or R.weights w.right nan)
      → ◌≡◌ {A = Walk} (record { left = w.left + 1; right = w.right + 1; bounds = m }) (turn_of R w)
  unfolding turn_of
  turn_both k l m a b e f c d h = rw (lt-ltb w.left R.end_i a, lt-ltb w.right R.end_j b, le-ltb ki kj (omega (arith, e, f, c)), le-ltb kj ki (omega (arith, e, f, d)), h, e) refl

  pub turn_i_alone : (k : ℕ) (m : Bounds) → w.left < R.end_i → R.end_j ≤ w.right → k ≡ ki → m ≡ met_by w.bounds R.i R.j k (get_or R.weights w.left nan) zero64
      → ◌≡◌ {A = Walk} (record { left = w.left + 1; right = w.right; bounds = m }) (turn_of R w)
  unfolding turn_of
  turn_i_alone k m a b e h = rw (lt-ltb w.left R.end_i a, le-ltb w.right R.end_j b, h, e) refl

  pub turn_j_alone : (k : ℕ) (m : Bounds) → R.end_i ≤ w.left → k ≡ kj → m ≡ met_by w.bounds R.i R.j k zero64 (get_or R.weights w.right nan)
      → ◌≡◌ {A = Walk} (record { left = w.left; right = w.right + 1; bounds = m }) (turn_of R w)
  unfolding turn_of
  turn_j_alone k m a e h = rw (le-ltb w.left R.end_i a, h, e) refl

-- ---- the loop
module _ (R : Rows) where
  pub falls : (w : Walk) → live R w ≡ true → left_over R (turn_of R w) < left_over R w
  unfolding going turn_of
  falls w l = go (ltb w.left R.end_i) (ltb w.right R.end_j) (ltb (get_or R.keys w.left 0) (get_or R.keys w.right 0)) (ltb (get_or R.keys w.right 0) (get_or R.keys w.left 0)) refl refl (and_true (not (hopeless R.t w.bounds)) _ l).1
    where
      go : (a b c d : Bool) → ltb w.left R.end_i ≡ a → ltb w.right R.end_j ≡ b → (a || b) ≡ true
          → left_over R (cond a (cond b (cond c (step_i R w) (cond d (step_j R w) (step_both_of R w))) (step_i R w)) (step_j R w)) < left_over R w
      go true true true d p q h = omega (arith, ltb-true w.left R.end_i p)
      go true true false true p q h = omega (arith, ltb-true w.right R.end_j q)
      go true true false false p q h = omega (arith, ltb-true w.left R.end_i p, ltb-true w.right R.end_j q)
      go true false c d p q h = omega (arith, ltb-true w.left R.end_i p)
      go false true c d p q h = omega (arith, ltb-true w.right R.end_j q)
      go false false c d p q h = absurd (true≢false (sym h))

  pub dead : (n : ℕ) (w : Walk) → live R w ≡ false → walk_on R n w ≡ w
  unfolding walk_on
  dead zero w h = refl
  dead (suc n) w h = rw h refl

  pub spent : (w : Walk) → left_over R w ≤ 0 → live R w ≡ false
  unfolding going
  spent w h = rw (le-ltb w.left R.end_i (omega arith), le-ltb w.right R.end_j (omega arith)) (and_none (not (hopeless R.t w.bounds)))

  more : (m : ℕ) (w : Walk) → live R w ≡ true → walk_on R m (turn_of R w) ≡ walk_on R (suc m) w
  unfolding walk_on
  more m w l = rw l refl

  enough : (n m : ℕ) (w : Walk) → left_over R w ≤ n → left_over R w ≤ m → walk_on R n w ≡ walk_on R m w
  unfolding walk_on
  enough zero m w h k = sym (dead m w (spent w h))
  enough (suc n) zero w h k = dead (suc n) w (spent w k)
  enough (suc n) (suc m) w h k = go (live R w) refl (enough n m (turn_of R w))
    where
      go : (b : Bool) → live R w ≡ b → (left_over R (turn_of R w) ≤ n → left_over R (turn_of R w) ≤ m → walk_on R n (turn_of R w) ≡ walk_on R m (turn_of R w))
          → cond (live R w) (walk_on R n (turn_of R w)) w ≡ cond (live R w) (walk_on R m (turn_of R w)) w
      go true e ih = rw e (ih (omega (arith, falls w e)) (omega (arith, falls w e)))
      go false e ih = rw e refl

  pub going_start : (w : Walk) → Fit R → Going R w w
  unfolding walk_all
  going_start w f = record { fit = f; same = λ n h. enough n (left_over R w) w h (omega arith) }

  pub going_turn : {w₀ w v : Walk} → Going R w₀ w → live R w ≡ true → v ≡ turn_of R w → Going R w₀ v
  going_turn {w₀} {w} {v} g l e = rw e (record { fit = g.fit; same = λ n h. again n h })
    where
      again : (n : ℕ) → left_over R (turn_of R w) ≤ n → walk_on R n (turn_of R w) ≡ walk_all R w₀
      again n h = enough n (left_over R w + n) (turn_of R w) h (omega arith) ∙ open_turn (left_over R w + n) ∙ g.same (suc (left_over R w + n)) (omega arith)
        where
          open_turn : (m : ℕ) → walk_on R m (turn_of R w) ≡ walk_on R (suc m) w
          open_turn m = more m w l

  pub going_falls : (w : Walk) {v : Walk} → live R w ≡ true → v ≡ turn_of R w → left_over R v < left_over R w
  going_falls w l e = rw e (falls w l)

  pub going_done : {w₀ w : Walk} → Going R w₀ w → live R w ≡ false → w.bounds ≡ (walk_all R w₀).bounds
  going_done {w₀} {w} g l = ap (λ (z : Walk). z.bounds) (sym (dead (left_over R w) w l) ∙ g.same (left_over R w) (omega arith))

-- ---- how the code asks for hope

module _ (ea eb : ℕ) (t : Float) (w : Walk) {d : Bool} (e : d ≡ hopeless t w.bounds) where
  pub going_no : d ≡ true → false ≡ going ea eb t w
  unfolding going
  going_no h = rw (← e, h)

  pub going_left : d ≡ false → w.left < ea → true ≡ going ea eb t w
  unfolding going
  going_left h l = rw (← e, h, lt-ltb w.left ea l)

  pub going_right : d ≡ false → ea ≤ w.left → ltb w.right eb ≡ going ea eb t w
  unfolding going
  going_right h l = rw (← e, h, le-ltb w.left ea l)
