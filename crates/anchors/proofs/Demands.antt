-- Demands 1 to 3 for the anchors, over the promise of the call `anchors` alone. Assumes nothing.
use Prim.Native.Nat.{ℕ, ◌<◌, ◌≤◌}
use mathlib.Core.Path.{◌≡◌, refl, sym, ap, ◌∙◌}
use mathlib.Core.Logic.{◌≢◌, ◌↔◌}
use mathlib.Core.Bool.{true, false}
use mathlib.Core.List.{List}
use native.Mathlib.Omega.{arith}
use borrow.Author.Tests.{leb-false, lt-leb}
use lib.ListN.{length, get_or, set, take}
use lib.Seq.{get_or-take}
use lib.Ieee.{Float, eq}
use Rattle.weights.specs.Worth.{zero64}
use Rattle.scratch.specs.Cleared.{cleared}
use Rattle.scratch.specs.Over.{over}
use Rattle.scratch.proofs.Over.{over_front}
use Rattle.scratch.proofs.Means.{le_is}
use Rattle.whole.specs.Whole.{Zero}
use Rattle.meaning.specs.Part.{Safe}
use Rattle.meaning.specs.Symmetry.{balance}
use Rattle.expansion.specs.Sum.{parts}
use Rattle.expansion.specs.Exact.{total}
use Rattle.field.specs.declared.Grade.{Grade}
use Rattle.field.specs.declared.Grade.TheVariants.{Exact}
use Rattle.field.specs.declared.Refusal.{Refusal}
use Rattle.field.specs.declared.Refusal.TheVariants.{Room}
use Rattle.field.specs.Field.{Field, variables, Shaped}
use Rattle.field.specs.Table.{FirstToFail}
use Rattle.field.specs.Tests.{open_tests, Finite, Admitted}
use Rattle.field.specs.Grade.{grade_of, ExactIn, Serves}
use Rattle.field.specs.Reading.{whole_of}
use Rattle.field.proofs.Table.{group_is, last_is}
use Rattle.field.proofs.Means.{admitted_passes}
use Rattle.calls.specs.Call.{table, no_stage}
use Rattle.calls.proofs.Answers.{same_refused, done_apart, same_counted}
use Rattle.calls.proofs.Open.{never_room}
use Rattle.calls.proofs.Call as any
use Rattle.calls.proofs.Usual as usual
use Rattle.calls.proofs.Usual.{this_stage, other_stage}
use Rattle.parts.specs.Walk.{opened, components}
use Rattle.anchors.specs.Sums.{balance_of, balanced, plain_sum}
use Rattle.anchors.specs.Model.{anchors_of}
use Rattle.anchors.specs.Call.{fits, anchor_table, Left, left, anchors_call}
use Rattle.anchors.specs.Rule.{AnchorsOf, terms, HeldWeights}
use Rattle.anchors.proofs.Ruling.{anchors_ruled, rule_one}
use Rattle.anchors.proofs.Turning.{either_stands}
use Rattle.anchors.proofs.Balance.{balanced_is, plain_sum_tells}
use Rattle.anchors.proofs.Certain.{balance_certain, balance_exactly}
use Rattle.field.specs.Answers.{counted_answer}
use Rattle.std.specs.Prelude.{Err}

-- Theorem. Any two results that the promise permits are equal.
pub one_result : (F : Field) (s : List ℕ) (least : ℕ) (list : List ℕ) (f : List Float) (u : List ℕ) (x y : Left) → x ≡ anchors_call F s least list f u → y ≡ anchors_call F s least list f u → x ≡ y
one_result F s least list f u = any.one_result (anchors_call F s least list f u)

-- ---- what an answer says

module _ (F : Field) (s : List ℕ) (least : ℕ) (list : List ℕ) (f : List Float) (u : List ℕ) where
  -- Theorem. DEMAND 1. The call is refused with r exactly if the tests before r's own pass, and its own fails: 9 is the last, for more anchors than the list has places.
  pub refused_when : (r : Refusal) → ((anchors_call F s least list f u).answer ≡ Err r) ↔ FirstToFail (anchor_table F s least list (length f) (length u)) r
  unfolding anchors_call table
  refused_when = usual.refused_when Err _ _ _ _ same_refused done_apart refl

  -- Theorem. A refusal by another test changes nothing lent.
  pub refused_leaves : (r : Refusal) → r ≢ Room → (anchors_call F s least list f u).answer ≡ Err r → anchors_call F s least list f u ≡ left (Err r) list f u
  unfolding anchors_call
  refused_leaves r n e = usual.refused_leaves Err _ _ _ _ same_refused done_apart r (other_stage n no_stage) e

  -- Theorem. It is 9 exactly if all other tests pass and there are more anchors than places.
  pub room_when : ((anchors_call F s least list f u).answer ≡ Err Room) ↔ (Admitted F s (length f) (length u) × (length list < length (anchors_of F s least)))
  unfolding anchors_call
  room_when =
      let t = usual.last_when Err _ _ Room _ _ same_refused done_apart (never_room F s (length f) (length u)) (fits F s least list) in
      let p = admitted_passes F s (length f) (length u) in
      ((λ e. (p.0 (t.0 e).0, leb-false _ _ (t.0 e).1)), λ h. t.1 (p.1 h.0, lt-leb _ _ h.1))

  -- Theorem. On 9 the list and both scratches are all zeros.
  pub room_leaves : (anchors_call F s least list f u).answer ≡ Err Room → anchors_call F s least list f u ≡ left (Err Room) (cleared 0 list) (cleared zero64 f) (cleared 0 u)
  unfolding anchors_call
  room_leaves e = usual.later_leaves Err _ _ _ _ same_refused done_apart Room _ (never_room F s (length f) (length u)) (this_stage no_stage) e

  -- Theorem. It is done exactly if the field, the start values and both scratches are as the table asks, and the list has room; it then gives the grade and the count.
  pub done_when : ((anchors_call F s least list f u).answer ≡ counted_answer (grade_of F) (length (anchors_of F s least))) ↔ (Admitted F s (length f) (length u) × (length (anchors_of F s least) ≤ length list))
  unfolding anchors_call table
  done_when =
      usual.done_when Err _ _ _ _ same_refused done_apart
      (group_is (open_tests F s (length f) (length u)) _ (admitted_passes F s (length f) (length u)) (last_is Room _ (le_is (length (anchors_of F s least)) (length list))))

  module _ (g : Grade) (k : ℕ) (e : (anchors_call F s least list f u).answer ≡ counted_answer g k) where
    -- Theorem. Then the anchors stand at the front of the list, what is past the last is unchanged, and both scratches are all zeros.
    pub done_leaves : anchors_call F s least list f u ≡ left (counted_answer (grade_of F) (length (anchors_of F s least))) (over (anchors_of F s least) list) (cleared zero64 f) (cleared 0 u)
    unfolding anchors_call
    done_leaves = usual.done_leaves Err _ _ _ _ same_refused done_apart (λ r z. done_apart r (sym e ∙ z))

    answered : counted_answer (grade_of F) (length (anchors_of F s least)) ≡ (anchors_call F s least list f u).answer
    answered = ap (λ (x : Left). x.answer) (sym done_leaves)

    -- The arguments are as the tests ask, the grade and the count are told, and the first k of the list are the anchors.
    pub fit : Admitted F s (length f) (length u)
    fit = (done_when.0 (sym answered)).0

    pub told : (grade_of F ≡ g) × (length (anchors_of F s least) ≡ k)
    told = same_counted (answered ∙ e)

    pub items : take k (anchors_call F s least list f u).lent.list ≡ anchors_of F s least
    items = ap (λ (x : Left). take k x.lent.list) done_leaves ∙ over_front (anchors_of F s least) list told.1

    -- Theorem. DEMAND 2. They are those that the rule gives: of the components, in the order of their lowest variables, each that is symmetric, without a start value and large enough
    -- has one, the variable with the greatest weight, then the lowest index.
    pub anchors_by_rule : AnchorsOf F s least (components F false (opened true s)) (take k (anchors_call F s least list f u).lent.list)
    anchors_by_rule = rw items (anchors_ruled fit.shaped s fit.start.long least fit.finite_weights)

-- The rule gives one list, for any field whose tests pass.
pub one_list : {F : Field} → Shaped F → Finite F → {s : List ℕ} {least : ℕ} {Ks : List (List ℕ)} {l r : List ℕ} → AnchorsOf F s least Ks l → AnchorsOf F s least Ks r → l ≡ r
one_list S fine = rule_one S fine

-- Theorem. DEMAND 3. On an exact field each anchor alone is 0 in some best completion and 1 in another.
pub anchor_stands : (F : Field) (s : List ℕ) (least : ℕ) (list : List ℕ) (f : List Float) (u : List ℕ) (k : ℕ) → (anchors_call F s least list f u).answer ≡ counted_answer Exact k
    → {unit : ℕ} → Serves unit F → (j : ℕ) → j < k → (v : ℕ) → v < 2 → Safe (whole_of unit F) s (set s (get_or (anchors_call F s least list f u).lent.list j 0) v)
anchor_stands F s least list f u k e serving j h v small =
    let d = fit F s least list f u Exact k e in
    let t = told F s least list f u Exact k e in
    let at : get_or (take k (anchors_call F s least list f u).lent.list) j 0 ≡ get_or (anchors_call F s least list f u).lent.list j 0 = get_or-take k (anchors_call F s least list f u).lent.list j 0 h in
    let long : length (take k (anchors_call F s least list f u).lent.list) ≡ k = ap length (items F s least list f u Exact k e) ∙ t.1 in
    rw at at (either_stands d.shaped serving.exact d.start
    (anchors_by_rule F s least list f u Exact k e) j (omega (arith, long)) v small)

-- What the rule calls symmetric is so on every field of f64 weights, exact or not: the sum of what is added at the variable, without rounding, is 0; and where no sum overflows,
-- every variable whose sum is 0 is called symmetric.
module _ {F : Field} (S : Shaped F) (h : HeldWeights F) (i : ℕ) where
  pub symmetric_certain : balanced F i ≡ true → Zero (total (terms F i))
  symmetric_certain = balance_certain S h i

  pub symmetric_exactly : {r : List Float} → balance_of F i ≡ parts r → (balanced F i ≡ true) ↔ Zero (total (terms F i))
  symmetric_exactly = balance_exactly S h i

-- Theorem. On an exact field it is the balance of rule 9.2, in whole numbers.
pub symmetric_exact_field : {u : ℕ} {F : Field} → Shaped F → ExactIn u F → (i : ℕ) → i < variables F → (balanced F i ≡ true) ↔ Zero (balance (whole_of u F) i)
symmetric_exact_field S x i = balanced_is S x i

-- Theorem. There a plain sum, 4c and then each q, is exact, and tells the same.
pub plain_exact_field : {u : ℕ} {F : Field} → Shaped F → ExactIn u F → (i : ℕ) → i < variables F → eq (plain_sum F i) zero64 ≡ balanced F i
plain_exact_field S x i = plain_sum_tells S x i
