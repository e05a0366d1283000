-- The totals with one field more. Assumes nothing.
use Prim.Native.Nat.{ℕ, ◌^◌, ◌≤◌}
use mathlib.Core.Path.{◌≡◌, refl, sym, ap, subst, ◌∙◌}
use mathlib.Core.List.{List}
use native.Mathlib.Omega.{arith}
use mathlib.Core.Bool.{Bool, true, false, cond}
use borrow.Author.Tests.{le-leb, leb-true, ltb-true, ltb-false}
use lib.Dec.{ltb}
use Rattle.std.specs.Prelude.{Option, Some, None, max}
use Rattle.std.specs.declared.ops.ControlFlow.{ControlFlow}
use Rattle.std.specs.declared.ops.ControlFlow.TheVariants.{Continue, Break}
use Rattle.tally.specs.Pieces.{fault}
use Rattle.tally.specs.Tally.{reached, tally, larger, largest, is_within, plus, counts_of, met, added, stepped, AtMost, Small}
use Rattle.tally.specs.declared.Totals.{Totals}
use Rattle.tally.specs.declared.Ending.TheVariants.{Malformed, Full}
use Rattle.tally.specs.declared.Reached.{Reached}
use Rattle.tally.specs.declared.Tally.{Tally}

larger_is : (a b : ℕ) → max a b ≡ larger a b
unfolding larger
larger_is a b = go (ltb a b) refl
  where
    go : (d : Bool) → ltb a b ≡ d → max a b ≡ cond d b a
    go true e = omega (arith, ltb-true a b e)
    go false e = omega (arith, ltb-false a b e)

-- seven comparisons give the largest of eight
pub largest_is : (t : Totals)
    → max (max (max t.read t.exact) (max t.inexact t.refused)) (max (max t.given t.zero) (max t.one t.free)) ≡ largest t
unfolding largest
largest_is t = simp larger_is

module _ (most : ℕ) (t : Totals) {sum : Totals} {m : Option Reached} {b : Bool} where
  module _ {field : Reached} (is : m ≡ Some field) (s : sum ≡ plus t field.totals) (e : b ≡ is_within most sum) where
    pub added_on : b ≡ true → Continue (reached sum field.at) ≡ added most t m
    unfolding added
    added_on h = rw (is, s) (simp (ap (is_within most) (sym s) ∙ sym e ∙ h))

    pub added_full : b ≡ false → Break (tally Full t) ≡ added most t m
    unfolding added
    added_full h = rw is (simp (ap (is_within most) (sym s) ∙ sym e ∙ h))

  module _ {fields : Totals} (is : m ≡ None) (one : fields ≡ counts_of fault) (s : sum ≡ plus t fields) (e : b ≡ is_within most sum) where
    same : sum ≡ plus t (counts_of fault)
    same = s ∙ ap (plus t) one

    pub fault_on : b ≡ true → Break (tally Malformed sum) ≡ added most t m
    unfolding added
    fault_on h = rw (is, same) (simp (ap (is_within most) (sym same) ∙ sym e ∙ h))

    pub fault_full : b ≡ false → Break (tally Full t) ≡ added most t m
    unfolding added
    fault_full h = rw is (simp (ap (is_within most) (sym same) ∙ sym e ∙ h))

-- no total is above the largest
larger_both : (a b m : ℕ) → larger a b ≤ m → (a ≤ m) × (b ≤ m)
unfolding larger
larger_both a b m = go (ltb a b) refl
  where
    go : (d : Bool) → ltb a b ≡ d → cond d b a ≤ m → (a ≤ m) × (b ≤ m)
    go true e h = (omega (arith, ltb-true a b e), h)
    go false e h = (h, omega (arith, ltb-false a b e))

pub within_all : {most : ℕ} {t : Totals} → is_within most t ≡ true → AtMost most t
unfolding is_within largest
within_all {most} {t} e =
    let all = larger_both _ _ most (leb-true _ most e) in
    let fields = larger_both _ _ most all.0 in
    let variables = larger_both _ _ most all.1 in
    let a = larger_both _ _ most fields.0 in
    let b = larger_both _ _ most fields.1 in
    let c = larger_both _ _ most variables.0 in
    let d = larger_both _ _ most variables.1 in
    record { read = a.0; exact = a.1; inexact = b.0; refused = b.1; given = c.0; zero = c.1; one = d.0; free = d.1 }

larger_within : (a b m : ℕ) → a ≤ m → b ≤ m → larger a b ≤ m
unfolding larger
larger_within a b m h k = by (ltb a b)
  where
    by : (d : Bool) → cond d b a ≤ m
    by true = k
    by false = h

pub all_within : {most : ℕ} {t : Totals} → AtMost most t → is_within most t ≡ true
unfolding is_within largest
all_within {most} {t} w =
    le-leb (largest t) most
    (larger_within _ _ most
    (larger_within _ _ most (larger_within _ _ most w.read w.exact) (larger_within _ _ most w.inexact w.refused))
    (larger_within _ _ most (larger_within _ _ most w.given w.zero) (larger_within _ _ most w.one w.free)))

pub within_small : {most : ℕ} {t : Totals} → is_within most t ≡ true → most ≤ 2 ^ 53 → Small t
within_small {most} {t} e few =
    let w : AtMost most t = within_all e in
    record {
      read = omega (arith, w.read);
      exact = omega (arith, w.exact);
      inexact = omega (arith, w.inexact);
      refused = omega (arith, w.refused);
      given = omega (arith, w.given);
      zero = omega (arith, w.zero);
      one = omega (arith, w.one);
      free = omega (arith, w.free);
    }

-- where the reading ends, no total is too large either
pub over_small : (most : ℕ) (t : Totals) (s : List ℕ) → Small t → most ≤ 2 ^ 53 → {y : Tally} → stepped most t s ≡ Break y → Small y.totals
unfolding stepped added
over_small most t s small few {y} q = go (met s) q
  where
    full : (b : Bool) (x : ControlFlow Tally Reached) (sum : Totals) → is_within most sum ≡ b → (x ≡ Break y → is_within most sum ≡ true → Small y.totals)
        → cond b x (Break (tally Full t)) ≡ Break y → Small y.totals
    full true x sum w f p = f p w
    full false x sum w f p = let same : tally Full t ≡ y = cc in subst (λ (z : Tally). Small z.totals) same small

    go : (m : Option Reached) → added most t m ≡ Break y → Small y.totals
    go (Some m) p =
        full (is_within most (plus t m.totals)) (Continue (reached (plus t m.totals) m.at)) (plus t m.totals) refl
        (λ z w. let n : ◌≡◌ {A = ℕ} 0 1 = cc in absurd (omega arith)) p
    go None p =
        full (is_within most (plus t (counts_of fault))) (Break (tally Malformed (plus t (counts_of fault)))) (plus t (counts_of fault)) refl
        (λ z w. let same : tally Malformed (plus t (counts_of fault)) ≡ y = cc in subst (λ (x : Tally). Small x.totals) same (within_small w few)) p
