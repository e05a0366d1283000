-- The theorems on the sums of the anchors as numbers, over the promise of the call `anchors` alone, on every field of f64 weights. Assumes nothing.
use Prim.Native.Nat.{ℕ, suc, ◌+◌, ◌<◌, ◌≤◌}
use mathlib.Core.Path.{◌≡◌, ap, ◌∙◌}
use mathlib.Core.Logic.{◌↔◌}
use mathlib.Core.Bool.{true, false}
use mathlib.Core.List.{List, []}
use native.Mathlib.Omega.{arith}
use lib.ListN.{length, get_or, take}
use lib.Ieee.{Float, binary64, mul}
use Rattle.whole.specs.Whole.{◌⊕◌, ◌⊙◌, Zero}
use Rattle.weights.specs.Worth.{Worth, four64}
use Rattle.expansion.specs.Sum.{parts, invalid, plus}
use Rattle.expansion.specs.Exact.{Totals}
use Rattle.expansion.specs.Overflow.{Valid, Overflows}
use Rattle.field.specs.declared.Grade.{Grade}
use Rattle.field.specs.Field.{Field, variables, entries, linear_of, Shaped}
use Rattle.field.specs.Tests.{Finite, Admitted}
use Rattle.field.specs.Grade.{ExactIn}
use Rattle.field.specs.Reading.{whole_of}
use Rattle.places.specs.Places.{places}
use Rattle.parts.specs.Walk.{opened, components}
use Rattle.parts.specs.Part.{has}
use Rattle.parts.proofs.Component.{reached_open}
use Rattle.parts.proofs.Going.{open_below}
use Rattle.parts.proofs.Marks.{opened_long}
use Rattle.parts.proofs.Theorems.{components_found}
use Rattle.anchors.specs.Sums.{balance_over, balance_of, balanced, plain_over}
use Rattle.anchors.specs.Rule.{Leads, Turns, AnchorsBy, no_part, anchored, passed_over, terms}
use Rattle.anchors.specs.Call.{Left, anchors_call}
use Rattle.anchors.specs.Number.{sum_of, TurnsByNumber, HeldField, gather}
use Rattle.anchors.proofs.Balance as balance
use Rattle.anchors.proofs.Number as number
use Rattle.anchors.proofs.Demands.{done_when, done_leaves, anchors_by_rule}
use Rattle.field.specs.Answers.{counted_answer}

-- ---- one variable

-- Theorem. Its sum is invalid exactly if 4c, a q, a 2q of the diagonal or an f64 sum on the way is not finite.
pub invalid_by_overflow : (F : Field) (i : ℕ) → (balance_of F i ≡ invalid) ↔ Overflows (terms F i)
invalid_by_overflow = number.balance_invalid

module _ {F : Field} (S : Shaped F) (fine : Finite F) (h : HeldField F) (i : ℕ) (hi : i < variables F) where
  -- Theorem. Where it is valid its parts add up to the number: 4c and q of each entry, 2q on the diagonal.
  pub sum_by_number : Totals (balance_of F i) (sum_of F i)
  sum_by_number = number.balance_number S fine h i hi

  -- Theorem. So it is symmetric exactly if no sum overflows and the number is 0.
  pub symmetric_by_number : (balanced F i ≡ true) ↔ (Valid (terms F i) × Zero (sum_of F i))
  symmetric_by_number = number.balanced_number S fine h i hi

-- Theorem. A sum of one variable has at most m + 1 parts: after any t of its entries there are no more.
pub parts_at_most : {F : Field} → Shaped F → (i t : ℕ) {r : List Float}
    → balance_over F (plus (mul binary64 four64 (linear_of F i)) (parts [])) (take t (places F.rows F.cols i)) ≡ parts r → length r ≤ entries F + 1
parts_at_most = number.balance_short

-- Theorem. On an exact field the plain f64 sum of 4c and any first t of its entries is that number of half units, exactly.
pub plain_sums_exact : {u : ℕ} {F : Field} → Shaped F → ExactIn u F → (i : ℕ) → i < variables F → (t : ℕ)
    → Worth u (plain_over F (mul binary64 four64 (linear_of F i)) (take t (places F.rows F.cols i)))
    ((whole_of u F).linear i ⊙ 4 ⊕ gather (λ k. (whole_of u F).weight k ⊙ 2) (take t (places F.rows F.cols i)))
plain_sums_exact S x i = balance.plain_sums S x i

-- ---- the call

-- a rule that says the same of each part gives the same anchors
same_rule : {A B : List ℕ → Type 0} {L : List ℕ → ℕ → Type 0} {Ks : List (List ℕ)} {l : List ℕ} → ((p : ℕ) → p < length Ks → A (get_or Ks p []) ↔ B (get_or Ks p []))
    → AnchorsBy A L Ks l → AnchorsBy B L Ks l
same_rule same no_part = no_part
same_rule same (anchored t d rest) = anchored ((same 0 (omega arith)).0 t) d (same_rule (λ p l. same (suc p) (omega arith)) rest)
same_rule same (passed_over n rest) = passed_over (λ t. n ((same 0 (omega arith)).1 t)) (same_rule (λ p l. same (suc p) (omega arith)) rest)

module _ {F : Field} (S : Shaped F) (fine : Finite F) (h : HeldField F) {s : List ℕ} {least : ℕ} {K : List ℕ} (below : (i : ℕ) → has K i ≡ true → i < variables F) where
  turns_same : Turns F s least K ↔ TurnsByNumber F s least K
  turns_same = (
    (λ t. record {
      large = t.large;
      free = t.free;
      valid = λ i m. ((symmetric_by_number S fine h i (below i m)).0 (t.symmetric i m)).0;
      zero = λ i m. ((symmetric_by_number S fine h i (below i m)).0 (t.symmetric i m)).1;
    }),
    λ t. record { large = t.large; free = t.free; symmetric = λ i m. (symmetric_by_number S fine h i (below i m)).1 (t.valid i m, t.zero i m) },
  )

-- DEMAND 2, over numbers. Of the components, in the order of their lowest variables, each that is large enough, has no start value, at no variable an overflow and at every
-- variable the number 0 has one anchor, the variable that leads; and no other has one.
module _ (F : Field) (s : List ℕ) (least : ℕ) (list : List ℕ) (f : List Float) (u : List ℕ) (g : Grade) (k : ℕ) (e : (anchors_call F s least list f u).answer ≡ counted_answer g k)
    (h : HeldField F) where
  admitted : Admitted F s (length f) (length u)
  admitted = ((done_when F s least list f u).0 (ap (λ (x : Left). x.answer) (done_leaves F s least list f u g k e))).0

  -- Theorem. The listed anchors are those of the components that the numbers, and no rounded sums, say are symmetric.
  pub anchors_by_number : AnchorsBy (TurnsByNumber F s least) (Leads F) (components F false (opened true s)) (take k (anchors_call F s least list f u).lent.list)
  anchors_by_number =
      let a = admitted in
      let long : length (opened true s) ≡ variables F = opened_long true s ∙ a.start.long in
      let P = components_found a.shaped false (opened true s) long in
      same_rule
      (λ p l. turns_same a.shaped a.finite_weights h (λ i m. omega (arith, open_below (opened true s) i (reached_open ((P.each p l).component.reached i m)), long)))
      (anchors_by_rule F s least list f u g k e)
