-- The theorems about a reason on an exact field: its bound is strict, it is the gradient's bound at what it rests on, and each value that it rests on has its
-- place before the variable's own. Assumes nothing.
use Prim.Native.Nat.{ℕ, ◌+◌, ◌<◌, ◌≤◌}
use mathlib.Core.Path.{◌≡◌, refl, sym, ◌∙◌}
use mathlib.Core.Logic.{◌≢◌, ◌⊎◌, inl, inr, ⊎_elim}
use mathlib.Core.List.{List}
use native.Mathlib.Decide.{dec_lt}
use native.Mathlib.Omega.{arith}
use borrow.Author.Tests.{eq-eqb, ne_eqb, lt-ltb, le-ltb}
use lib.ListN.{length, get_or}
use Rattle.whole.specs.Whole.{Whole, min0, max0, ◌≈◌}
use Rattle.weights.proofs.Worth.{as_worth}
use Rattle.meaning.specs.Field as meaning
use Rattle.meaning.specs.Gradient.{view, gradient, low, high, zero_by, one_by, Forces}
use Rattle.meaning.proofs.Gradient.{low_below_high}
use Rattle.field.specs.Field.{Field, variables, entries, Shaped, StartFor}
use Rattle.field.specs.Grade.{unit_of, ExactIn, Serves}
use Rattle.field.specs.Reading.{whole_of}
use Rattle.rows.specs.Row.{judge_of}
use Rattle.rows.specs.Model.{row_of}
use Rattle.rows.proofs.Counted.{row_worth, lower_test, upper_test, low_under, high_under}
use Rattle.run.specs.Run.{closure_run, closure}
use Rattle.run.specs.Rests.{Stands, Grounded}
use Rattle.run.proofs.Rests.{Among, rests_at, rests_extended, rests_start}
use Rattle.reason.specs.declared.Ground.{Ground}
use Rattle.reason.specs.declared.Ground.TheVariants.{Given}
use Rattle.reason.specs.Until.{scanned, stop_of, basis}
use Rattle.reason.specs.Ground.{least_unit, ground_of, reason_of, Says, above, below}
use Rattle.reason.proofs.Scaled.{scaled_worth}
use Rattle.reason.proofs.Until.{Split, Grown, stop_split, stop_value, stop_grown, stop_rest}

-- j stands before i in a queue
pub record Earlier (queue : List ℕ) (j i : ℕ) : Type 0 where
  pub from : ℕ
  pub to : ℕ
  pub before : from < to
  pub inside : to < length queue
  pub first : get_or queue from 0 ≡ j
  pub second : get_or queue to 0 ≡ i

-- ---- on every field

module _ (F : Field) {s : List ℕ} (start : StartFor (variables F) s) (i : ℕ) where
  pub basis_start : StartFor (variables F) (basis F s i)
  unfolding basis
  basis_start = let a = stop_split F start i in rests_start a.room (stop_of F s i).head a.served

  -- a value that a bound rests on is the closure's
  pub basis_value : (j : ℕ) → get_or (basis F s i) j 0 ≢ 2 → get_or (closure F s) j 0 ≡ get_or (basis F s i) j 0
  unfolding basis closure
  basis_value j n =
      let a = stop_split F start i in
      let e = ⊎_elim (λ y. absurd (n y)) (λ y. y) ((rests_extended a.room (stop_of F s i).head a.served).kept j) in
      ⊎_elim (λ y. absurd (n (sym e ∙ y))) (λ y. y ∙ e) ((stop_grown F start i).values.kept j)

-- a given variable's ground
pub given_ground : (F : Field) (s : List ℕ) (i : ℕ) → get_or s i 0 ≢ 2 → reason_of F s i ≡ Given
unfolding reason_of
given_ground F s i n = rw (ne_eqb (get_or s i 0) 2 n) refl

-- ---- the ground that a row's verdict gives

module _ {u : ℕ} {F : Field} (shaped : Shaped F) (exact : ExactIn u F) {r : List ℕ} (start : StartFor (variables F) r) (i : ℕ) (l : i < variables F) (k : ℕ) (unit : u ≡ k + 1053) (few : k ≤ 40) where
  ground_says : {v : ℕ} → Forces (whole_of u F) r i v → Says (whole_of u F) r i v (ground_of k (judge_of (row_of F r i)))
  unfolding ground_of
  ground_says (zero_by h) =
      let w = row_worth exact shaped i l start in
      let b = low_under exact shaped i l (view r) (entries F) (omega arith) in
      rw (lower_test exact shaped i l start, lt-ltb (low (whole_of u F) r i).less (low (whole_of u F) r i).plus h) (above (scaled_worth k unit few w.lower b) h)
  ground_says (one_by h) =
      let w = row_worth exact shaped i l start in
      let b = high_under exact shaped i l (view r) (entries F) (omega arith) in
      rw (
        lower_test exact shaped i l start,
        le-ltb (low (whole_of u F) r i).less (low (whole_of u F) r i).plus (omega (arith, low_below_high (whole_of u F) (view r) i)),
        upper_test exact shaped i l start,
        lt-ltb (high (whole_of u F) r i).plus (high (whole_of u F) r i).less h,
      )
      (below (scaled_worth k unit few w.upper b) h)

-- values at which the bounds of i are the same say the same
pub says_same : {G : meaning.Field} {r x : List ℕ} {i v : ℕ} {g : Ground} → ((free : Whole → Whole) → gradient free G (view r) i ≈ gradient free G (view x) i) → Says G r i v g → Says G x i v g
says_same e (above w h) = above (as_worth w (e min0)) (omega (arith, e min0))
says_same e (below w h) = below (as_worth w (e max0)) (omega (arith, e max0))

-- ---- on an exact field, for a variable that is free in the start values and not in the closure

module _ {u : ℕ} {F : Field} (shaped : Shaped F) (exact : ExactIn u F) {s : List ℕ} (start : StartFor (variables F) s) (i : ℕ) (free : get_or s i 0 ≡ 2) (set : get_or (closure F s) i 0 ≢ 2) where
  grounded : Grounded (whole_of u F) s (stop_of F s i).run.values (stop_of F s i).run.queue (stop_of F s i).head
  grounded = (stop_rest shaped exact i start).holds.grounded

  set_there : get_or (stop_of F s i).run.values i 0 ≢ 2
  set_there e = set (sym (stop_value F start i) ∙ e)

  -- THE STRICT BOUND: the values that the bound rests on force the value of i.
  pub basis_forces : Forces (whole_of u F) (basis F s i) i (get_or (closure F s) i 0)
  unfolding basis
  basis_forces = rw (← stop_value F start i) (grounded.strict i free set_there)

  -- ACYCLIC: what the bound rests on is given, or stands before i in the queue of the closure's run.
  pub reason_earlier : (j : ℕ) → get_or (basis F s i) j 0 ≢ 2 → (get_or s j 0 ≢ 2) ⊎ Earlier (closure_run F s).queue j i
  unfolding basis
  reason_earlier j n = ⊎_elim
      (λ y. inr (earlier y.0))
      (λ y. inl (λ e. n (y.1 ∙ e)))
      (rests_at s (stop_of F s i).run.values (stop_of F s i).run.queue (stop_of F s i).head (λ p b. omega (arith, a.room.variable p (omega (arith, a.served)), start.long)) j)
    where
      a : Split F s (variables F) (scanned F s) 0 i (stop_of F s i)
      a = stop_split F start i

      grown : Grown (stop_of F s i).run (closure_run F s)
      grown = stop_grown F start i

      earlier : Among (stop_of F s i).run.queue (stop_of F s i).head j → Earlier (closure_run F s).queue j i
      earlier y =
          let at : Stands (stop_of F s i).run.queue i = grounded.logged i free set_there in
          let late : (stop_of F s i).head ≤ at.0 = elim (dec_lt at.0 (stop_of F s i).head) [ yes b ↦ absurd (a.later at.0 b at.2) | no b ↦ omega arith ] in
          record {
            from = y.0;
            to = at.0;
            before = omega (arith, y.1);
            inside = omega (arith, at.1, grown.longer);
            first = grown.front y.0 (omega (arith, y.1, a.served)) ∙ y.2;
            second = grown.front at.0 at.1 ∙ at.2;
          }

-- THE BOUND: the ground carries low or high of i there, counted in half units of the smallest unit that serves; it is above 0, or below 0.
module _ {F : Field} (shaped : Shaped F) (serving : Serves (unit_of F) F) {s : List ℕ} (start : StartFor (variables F) s) (i : ℕ) (free : get_or s i 0 ≡ 2) where
  pub reason_says : get_or (closure F s) i 0 ≢ 2 → i < variables F → Says (whole_of (unit_of F) F) (basis F s i) i (get_or (closure F s) i 0) (reason_of F s i)
  unfolding reason_of
  reason_says set l =
      rw (eq-eqb (get_or s i 0) 2 free)
      (ground_says shaped serving.exact (basis_start F start i) i l (least_unit F) (omega (arith, serving.from)) (omega (arith, serving.to)) (basis_forces shaped serving.exact start i free set))
