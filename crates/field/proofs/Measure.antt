-- How one pass over the weights finds the smallest unit that serves: the least unit beyond a weight's grain, the largest pattern. Assumes nothing.
use Prim.Native.Nat.{ℕ, suc, ◌+◌, ◌/◌, ◌<◌, ◌≤◌, ◌^◌}
use Rattle.std.specs.Prelude.{min, max}
use mathlib.Core.Path.{◌≡◌, sym, subst}
use mathlib.Core.Logic.{◌⊎◌, inl, inr, ⊎_elim, ◌↔◌}
use mathlib.Core.Bool.{true}
use mathlib.Core.List.{List, []}
use native.Mathlib.Nat.{eq-or-lt_of_le, lt_of_lt_of_le, le_trans}
use native.Mathlib.Omega.{arith}
use lib.Dec.{T, lit<}
use lib.ListN.{length, get_or}
use lib.Ieee.{Float, nan, binary64, fits}
use Rattle.weights.specs.Pattern.{pattern, beyond, limit_of}
use Rattle.weights.proofs.PatternLaws.{pattern_weighs, pattern_low}
use Rattle.scratch.proofs.Means.{both_is}
use Rattle.field.specs.Field.{field_of}
use Rattle.field.specs.Grade.{finest, coarsest, all_weigh, serves, unit_of, Weighs}
use Rattle.field.specs.Measure.{Lesser, Greater, Measured, Both, First}
use Rattle.field.proofs.Exact.{weighs_is, all_weigh_means, first_is}

-- ---- min and max of the library

pub lesser_min : {a b r : ℕ} → r ≡ min a b → Lesser a b r
lesser_min e = grind (arith, e)

pub greater_max : {a b r : ℕ} → r ≡ max a b → Greater a b r
greater_max e = grind (arith, e)

-- ---- a pass

pub measure_start : (w : List Float) → Measured w 0 4096 0
measure_start w = record { within = omega arith; small = omega arith; low = lit< tt; means = λ u l h. ((λ p j b. absurd (omega arith)), λ all. (omega arith, omega arith)) }

-- x is a whole number of units, and small enough, exactly if its pattern says so
pattern_means : (u : ℕ) → finest ≤ u → u ≤ suc coarsest → (x : Float) → T (fits binary64 x) → ((u < beyond (pattern x)) × (pattern x ≤ limit_of u)) ↔ Weighs u (2 ^ 31) x
pattern_means u l h x t =
    let p = pattern_weighs u (omega arith) (omega arith) x t in
    let q = weighs_is u x (omega arith) in
    ((λ a. q.0 (p.0 a)), λ w. p.1 (q.1 w))

below_last : (j k : ℕ) → j < k + 1 → j ≤ k
below_last j k h = omega arith

module _ {w : List Float} {k a s : ℕ} (now : Measured w k a s) (b : k < length w) {p e a' s' : ℕ} where
  turn_means : (u : ℕ) → ((u < e) × (p ≤ limit_of u)) ↔ Weighs u (2 ^ 31) (get_or w k nan) → Lesser a e a' → Greater s p s'
      → ((u < a) × (s ≤ limit_of u)) ↔ ((j : ℕ) → j < k → Weighs u (2 ^ 31) (get_or w j nan))
      → ((u < a') × (s' ≤ limit_of u)) ↔ ((j : ℕ) → j < k + 1 → Weighs u (2 ^ 31) (get_or w j nan))
  turn_means u one lesser greater before = (to, from)
    where
      to : (u < a') × (s' ≤ limit_of u) → (j : ℕ) → j < k + 1 → Weighs u (2 ^ 31) (get_or w j nan)
      to h j c = pick (eq-or-lt_of_le (below_last j k c))
        where
          pick : (j ≡ k) ⊎ (j < k) → Weighs u (2 ^ 31) (get_or w j nan)
          pick (inl same) = subst (λ (i : ℕ). Weighs u (2 ^ 31) (get_or w i nan)) (sym same) (one.0 (lt_of_lt_of_le h.0 lesser.second, le_trans greater.second h.1))
          pick (inr less) = before.0 (lt_of_lt_of_le h.0 lesser.first, le_trans greater.first h.1) j less

      from : ((j : ℕ) → j < k + 1 → Weighs u (2 ^ 31) (get_or w j nan)) → (u < a') × (s' ≤ limit_of u)
      from all =
          let old = before.1 (λ j c. all j (omega arith)) in
          let new = one.1 (all k (omega arith)) in (
            ⊎_elim (λ z. subst (λ (n : ℕ). u < n) (sym z) old.0) (λ z. subst (λ (n : ℕ). u < n) (sym z) new.0) lesser.one,
            ⊎_elim (λ z. subst (λ (n : ℕ). n ≤ limit_of u) (sym z) old.1) (λ z. subst (λ (n : ℕ). n ≤ limit_of u) (sym z) new.1) greater.one,
          )

  pub measure_turn : T (fits binary64 (get_or w k nan)) → p ≡ pattern (get_or w k nan) → e ≡ beyond p → Lesser a e a' → Greater s p s' → Measured w (k + 1) a' s'
  measure_turn fit is eb lesser greater = record {
    within = omega arith;
    small = omega (arith, now.small, lesser.first);
    low = ⊎_elim (λ z. omega (arith, now.low)) (λ z. omega (arith, pattern_low (get_or w k nan))) greater.one;
    means = λ u l h.
        turn_means u (rw (eb, is) (pattern_means u l h (get_or w k nan) fit)) lesser greater (now.means u l h);
  }

pub measure_done : {w : List Float} {k n a s : ℕ} → Measured w k a s → n ≡ length w → n ≤ k → Measured w (length w) a s
measure_done {w} {k} {n} {a} {s} now e h = subst (λ (i : ℕ). Measured w i a s) (omega (arith, now.within)) now

-- where no unit is left, what follows does not matter
pub measure_stop : {w : List Float} {k a s : ℕ} → Measured w k a s → a ≤ 1053 → Measured w (length w) a s
measure_stop now few = record {
  within = omega arith;
  small = now.small;
  low = now.low;
  means = λ u l h. ((λ p. absurd (omega (arith, p.0))), λ all. absurd (omega (arith, ((now.means u l h).1 (λ j c. all j (omega (arith, now.within)))).0)));
}

-- ---- the unit

module _ {c q : List Float} {a s b t : ℕ} (linear : Measured c (length c) a s) (quad : Measured q (length q) b t) where
  serves_is : (u : ℕ) → finest ≤ u → u ≤ coarsest → (serves u (field_of c [] [] q) ≡ true) ↔ Both a s b t u
  unfolding serves
  serves_is u l h =
      let parts = both_is (all_weigh u c) (all_weigh (suc u) q) (all_weigh_means u c (omega arith)) (all_weigh_means (suc u) q (omega arith)) in
      let m = linear.means u l (omega arith) in
      let n = quad.means (suc u) (omega arith) (omega arith) in (
        (λ e. let p = parts.0 e in record { linear = (m.1 p.0).0; linear_low = (m.1 p.0).1; quad = (n.1 p.1).0; quad_low = (n.1 p.1).1 }),
        λ h. parts.1 (m.0 (h.linear, h.linear_low), n.0 (h.quad, h.quad_low)),
      )

  pub unit_is : {r : ℕ} → First a s b t r → r ≡ unit_of (field_of c [] [] q)
  unfolding unit_of
  unit_is {r} f =
      first_is (λ u. serves u (field_of c [] [] q)) finest 41 r f.from f.to
      (λ h. (serves_is r f.from (omega arith)).1 (f.passes (omega arith)))
      (λ v l h e. f.least v l h ((serves_is v l (omega (arith, f.to))).0 e))

-- ---- its number, from the two measures

-- the size asks for this much, and no more
ceiling_to : (s u : ℕ) → 20 ≤ u → s ≤ limit_of u → (s + 4503599627370495) / 4503599627370496 + 20 ≤ u
ceiling_to s u l h = omega arith

ceiling_from : (s u : ℕ) → (s + 4503599627370495) / 4503599627370496 + 20 ≤ u → s ≤ limit_of u
ceiling_from s u h = omega arith

module _ {a s b t m u : ℕ} (two : Greater ((s + 4503599627370495) / 4503599627370496 + 20) ((t + 4503599627370495) / 4503599627370496 + 19) m) (all : Greater m 1053 u) where
  at_most : (v : ℕ) → finest ≤ v → Both a s b t v → u ≤ v
  at_most v l x =
      let c = ceiling_to s v (omega arith) x.linear_low in
      let d = ceiling_to t (suc v) (omega arith) x.quad_low in
      ⊎_elim (λ e. ⊎_elim (λ f. omega arith) (λ f. omega arith) two.one) (λ e. omega arith) all.one

  nothing_first : ((v : ℕ) → u ≤ v → v ≤ coarsest → Both a s b t v → ⊥) → First a s b t 1094
  nothing_first never = record {
    from = omega arith;
    to = omega arith;
    passes = λ h. absurd (omega arith);
    least = λ v l h x. never v (at_most v l x) (omega arith) x;
  }

  pub first_above : 1094 ≤ u → First a s b t 1094
  first_above h = nothing_first (λ v l k x. omega arith)

  pub first_linear : a ≤ u → First a s b t 1094
  first_linear h = nothing_first (λ v l k x. omega (arith, x.linear))

  pub first_quad : b ≤ u + 1 → First a s b t 1094
  first_quad h = nothing_first (λ v l k x. omega (arith, x.quad))

  pub first_found : u < 1094 → u < a → u + 1 < b → First a s b t u
  first_found h c d = record {
    from = all.second;
    to = omega arith;
    passes = λ k. record {
      linear = c;
      linear_low = ceiling_from s u (omega (arith, two.first, all.first));
      quad = omega arith;
      quad_low = ceiling_from t (suc u) (omega (arith, two.second, all.first));
    };
    least = λ v l k x. omega (arith, at_most v l x);
  }
