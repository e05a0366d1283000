-- The demands for a variable that is pinned, over the promise of the call `pin` alone. Assumes nothing.
use Prim.Native.Nat.{ℕ, ◌<◌}
use mathlib.Core.Path.{◌≡◌, refl, ap, ◌∙◌}
use mathlib.Core.Logic.{◌≢◌, ◌↔◌}
use mathlib.Core.List.{List}
use native.Mathlib.Omega.{arith}
use lib.ListN.{length, get_or, set}
use lib.Seq.{get_or-set_other}
use Rattle.field.specs.declared.Refusal.{Refusal}
use Rattle.field.specs.Field.{Field, variables}
use Rattle.field.specs.Table.{FirstToFail}
use Rattle.field.specs.Grade.{Serves}
use Rattle.calls.specs.Call as any
use Rattle.calls.proofs.Call.{one_result as one}
use Rattle.rows.specs.Stored.{row_on}
use Rattle.kept.specs.Kept.{Kept, Apart, strict_to, made, changed, pinned}
use Rattle.kept.specs.Calls.{pin_tests, Pinnable, pin_call}
use Rattle.kept.proofs.Tests.{pin_passes}
use Rattle.kept.proofs.Elsewhere as elsewhere
use Rattle.kept.proofs.Equation.{changed_made}
use Rattle.kept.proofs.Operated as operated
use Rattle.field.specs.Answers.{Answer, passed}
use Rattle.std.specs.Prelude.{Err}

module _ (F : Field) (K : Kept) (i v : ℕ) where
  -- Theorem. Any two results that the promise permits are equal.
  pub one_result : (x y : any.Left (Answer Unit) Kept) → x ≡ pin_call F K i v → y ≡ pin_call F K i v → x ≡ y
  one_result = one (pin_call F K i v)

  -- Theorem. The operation is refused with r exactly if the tests before r's own pass, and its own fails: 1 to 6, then 7.
  pub refused_when : (r : Refusal) → ((pin_call F K i v).answer ≡ Err r) ↔ FirstToFail (pin_tests F K.values (length K.bounds) i v) r
  unfolding pin_call
  refused_when = operated.refused_when K _ _

  -- Theorem. A refused one changes nothing.
  pub refused_leaves : (r : Refusal) → (pin_call F K i v).answer ≡ Err r → pin_call F K i v ≡ any.left (Err r) K
  unfolding pin_call
  refused_leaves = operated.refused_leaves K _ _

  -- Theorem. It is done exactly if the field, the values, the bounds, the variable and the value are as the table asks.
  pub done_when : ((pin_call F K i v).answer ≡ passed) ↔ Pinnable F K.values (length K.bounds) i v
  unfolding pin_call
  done_when = operated.done_when K _ _ (pin_passes F K.values (length K.bounds) i v)

  -- Theorem. When it is done, the record is changed by the pinned value.
  pub done_leaves : (pin_call F K i v).answer ≡ passed → pin_call F K i v ≡ any.left passed (pinned F i v K)
  unfolding pin_call
  done_leaves = operated.done_leaves K _ _

  -- ---- for every content, exact or not, and whatever the answer

  -- Theorem. The values of the other variables stay.
  pub values_stay : (t : ℕ) → t ≢ i → get_or (pin_call F K i v).lent.values t 0 ≡ get_or K.values t 0
  unfolding pin_call changed
  values_stay t n = operated.left_has K _ _ (λ X. get_or X.values t 0 ≡ get_or K.values t 0) refl (λ p. get_or-set_other K.values i t v 0 n)

  -- Theorem. The rows of variables that have a value stay.
  pub fixed_stay : (t : ℕ) → t < variables F → t ≢ i → get_or K.values t 0 ≢ 2 → row_on (pin_call F K i v).lent.bounds (variables F) t ≡ row_on K.bounds (variables F) t
  unfolding pin_call
  fixed_stay t l n d = operated.left_has K _ _ (λ X. row_on X.bounds (variables F) t ≡ row_on K.bounds (variables F) t) refl (λ p.
      let a = (pin_passes F K.values (length K.bounds) i v).0 p in
      elsewhere.fixed_stays a.recorded.sound.shaped K i v a.below a.recorded.long t l n d)

  -- Theorem. The rows of variables that no entry joins to the pinned one stay.
  pub elsewhere_stays : (t : ℕ) → t < variables F → t ≢ i → Apart F i t → row_on (pin_call F K i v).lent.bounds (variables F) t ≡ row_on K.bounds (variables F) t
  unfolding pin_call
  elsewhere_stays t l n d = operated.left_has K _ _ (λ X. row_on X.bounds (variables F) t ≡ row_on K.bounds (variables F) t) refl (λ p.
      let a = (pin_passes F K.values (length K.bounds) i v).0 p in
      elsewhere.apart_stays a.recorded.sound.shaped K i v a.below a.recorded.long t l n d)

  -- Theorem. The number of strict rows is counted in the bounds that it leaves.
  pub counts_anew : (pin_call F K i v).answer ≡ passed
      → (pin_call F K i v).lent.strict ≡ strict_to (pin_call F K i v).lent.values (pin_call F K i v).lent.bounds (length (pin_call F K i v).lent.values)
  unfolding changed
  counts_anew e = rw (done_leaves e) refl

-- Theorem. THE EQUATION. On an exact field, in every unit that serves, the record made and then pinned is the record made with the value set.
pub afresh : {unit : ℕ} (F : Field) (s : List ℕ) (i v : ℕ) → Serves unit F → (pin_call F (made F s) i v).answer ≡ passed → (pin_call F (made F s) i v).lent ≡ made F (set s i v)
unfolding made
afresh F s i v serving e =
    let a = (done_when F (made F s) i v).0 e in
    ap (λ (x : any.Left (Answer Unit) Kept). x.lent) (done_leaves F (made F s) i v e)
    ∙ changed_made a.recorded.sound.shaped serving.exact a.recorded.sound.start i v a.below (omega (arith, a.small))
