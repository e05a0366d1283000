-- What the call `no_effect` does, over its promise alone. Assumes nothing.
use Prim.Native.Nat.{ℕ, suc, ◌<◌, ◌≤◌}
use mathlib.Core.Path.{◌≡◌, refl, sym, ap, ◌∙◌}
use mathlib.Core.Logic.{◌≢◌, ◌↔◌}
use mathlib.Core.Bool.{true}
use mathlib.Core.List.{List}
use native.Mathlib.Omega.{arith}
use borrow.Author.Tests.{leb-false, lt-leb}
use lib.ListN.{length, get_or}
use lib.Ieee.{eq}
use Rattle.meaning.specs.Part.{NoEffect}
use Rattle.weights.specs.Worth.{zero64}
use Rattle.scratch.specs.Cleared.{cleared}
use Rattle.scratch.specs.Over.{over}
use Rattle.scratch.proofs.Over.{over_at}
use Rattle.scratch.proofs.Means.{le_is}
use Rattle.field.specs.declared.Grade.{Grade}
use Rattle.field.specs.declared.Grade.TheVariants.{Exact}
use Rattle.field.specs.declared.Refusal.{Refusal}
use Rattle.field.specs.declared.Refusal.TheVariants.{Room}
use Rattle.field.specs.Field.{Field, variables, linear_of, Shaped}
use Rattle.field.specs.Table.{FirstToFail}
use Rattle.field.specs.Grade.{grade_of, Serves}
use Rattle.field.specs.Reading.{whole_of}
use Rattle.field.proofs.Table.{group_is, last_is}
use Rattle.calls.specs.Call.{table, no_stage}
use Rattle.calls.proofs.Answers.{same_refused, done_apart, same_counted}
use Rattle.calls.proofs.Call as any
use Rattle.calls.proofs.Usual as usual
use Rattle.calls.proofs.Usual.{this_stage, other_stage}
use Rattle.no_effect.specs.Effect.{has_no_effect, no_effect, NoEntry}
use Rattle.no_effect.specs.Call.{Left, left, word_tests, Prepared, fits, no_effect_tests, no_effect_call, item}
use Rattle.no_effect.proofs.Laws.{word_passes, never_room}
use Rattle.no_effect.proofs.Listed.{chosen_passes, chosen_rises, chosen_all, effect_means, effect_exact}
use Rattle.field.specs.Answers.{counted_answer}
use Rattle.std.specs.Prelude.{Err}

-- Theorem. Any two results that the promise permits are equal.
pub one_result : (F : Field) (l u : List ℕ) (x y : Left) → x ≡ no_effect_call F l u → y ≡ no_effect_call F l u → x ≡ y
one_result F l u = any.one_result (no_effect_call F l u)

-- ---- answers

module _ (F : Field) (l u : List ℕ) where
  -- Theorem. The call is refused with r exactly if the tests before r's own pass, and its own fails; 9 is tested last.
  pub refused_when : (r : Refusal) → ((no_effect_call F l u).answer ≡ Err r) ↔ FirstToFail (no_effect_tests F l (length u)) r
  unfolding no_effect_call no_effect_tests table
  refused_when = usual.refused_when Err _ _ _ _ same_refused done_apart refl

  -- Theorem. A refusal before 9 changes nothing lent.
  pub refused_leaves : (r : Refusal) → r ≢ Room → (no_effect_call F l u).answer ≡ Err r → no_effect_call F l u ≡ left (Err r) l u
  unfolding no_effect_call
  refused_leaves r n e = usual.refused_leaves Err _ _ _ _ same_refused done_apart r (other_stage n no_stage) e

  -- Theorem. 9 is given exactly if the tests before it pass and there are more such variables than places.
  pub room_when : ((no_effect_call F l u).answer ≡ Err Room) ↔ (Prepared F (length u) × (length l < length (no_effect F)))
  unfolding no_effect_call fits
  room_when =
      let t = usual.last_when Err _ _ Room _ _ same_refused done_apart (never_room F (length u)) (fits F l) in
      let p = word_passes F (length u) in
      ((λ e. (p.0 (t.0 e).0, leb-false _ _ (t.0 e).1)), λ h. t.1 (p.1 h.0, lt-leb _ _ h.1))

  -- Theorem. On 9 the list and the scratch are all zeros.
  pub room_leaves : (no_effect_call F l u).answer ≡ Err Room → no_effect_call F l u ≡ left (Err Room) (cleared 0 l) (cleared 0 u)
  unfolding no_effect_call
  room_leaves e = usual.later_leaves Err _ _ _ _ same_refused done_apart Room _ (never_room F (length u)) (this_stage no_stage) e

  -- Theorem. It is done exactly if the field and the scratch are as the table asks and the list has room for all, and then gives the grade and the count.
  pub done_when : ((no_effect_call F l u).answer ≡ counted_answer (grade_of F) (length (no_effect F))) ↔ (Prepared F (length u) × (length (no_effect F) ≤ length l))
  unfolding no_effect_call fits table
  done_when =
      usual.done_when Err _ _ _ _ same_refused done_apart (group_is (word_tests F (length u)) _ (word_passes F (length u)) (last_is Room _ (le_is (length (no_effect F)) (length l))))

  module _ {g : Grade} {m : ℕ} (e : (no_effect_call F l u).answer ≡ counted_answer g m) where
    -- Theorem. Then the variables of no effect are at the front of the list, the rest of it is unchanged, and the scratch is all zeros.
    pub done_leaves : no_effect_call F l u ≡ left (counted_answer (grade_of F) (length (no_effect F))) (over (no_effect F) l) (cleared 0 u)
    unfolding no_effect_call
    done_leaves = usual.done_leaves Err _ _ _ _ same_refused done_apart (λ r z. done_apart r (sym e ∙ z))

    shaped : Shaped F
    shaped = (done_when.0 (ap (λ (x : Left). x.answer) done_leaves)).0.loose.shaped

    answer_is : (g ≡ grade_of F) × (m ≡ length (no_effect F))
    answer_is = same_counted (sym e ∙ ap (λ (x : Left). x.answer) done_leaves)

    item_is : (t : ℕ) → t < m → item F l u t ≡ get_or (no_effect F) t 0
    item_is t h = ap (λ (x : Left). get_or x.lent.list t 0) done_leaves ∙ over_at (no_effect F) l t 0 (omega (arith, answer_is.1))

    -- Theorem. Each of the m items is a variable with no entry and c = 0.
    pub items_idle : (t : ℕ) → t < m → (item F l u t < variables F) × (NoEntry F (item F l u t) × (eq (linear_of F (item F l u t)) zero64 ≡ true))
    unfolding no_effect
    items_idle t h =
        let c = chosen_passes (has_no_effect F) 0 (variables F) t (omega (arith, answer_is.1)) in
        rw (item_is t h) (omega (arith, c.1.1), (effect_means F _ shaped.rows_long).0 c.0)

    -- Theorem. Each variable of no effect is an item.
    pub idle_items : (i : ℕ) → i < variables F → NoEntry F i → eq (linear_of F i) zero64 ≡ true → (t : ℕ) × ((t < m) × (item F l u t ≡ i))
    unfolding no_effect
    idle_items i h apart zero =
        let w = chosen_all (has_no_effect F) 0 (variables F) i ((effect_means F i shaped.rows_long).1 (apart, zero), (omega arith, omega arith)) in
        let l : w.0 < m = omega (arith, answer_is.1, w.1.0) in
        (w.0, (l, item_is w.0 l ∙ w.1.1))

    -- Theorem. The items rise.
    pub items_rise : (t : ℕ) → suc t < m → item F l u t < item F l u (suc t)
    unfolding no_effect
    items_rise t h = rw (item_is t (omega arith), item_is (suc t) h) (chosen_rises (has_no_effect F) 0 (variables F) t (omega (arith, answer_is.1)))

-- On an exact field they are exactly the variables of no effect over whole numbers.
module _ (F : Field) (l u : List ℕ) {m : ℕ} (e : (no_effect_call F l u).answer ≡ counted_answer Exact m) {unit : ℕ} (serving : Serves unit F) where
  -- Theorem. On an exact field each item is a variable of no effect over whole numbers.
  pub exact_items : (t : ℕ) → t < m → NoEffect (whole_of unit F) (item F l u t)
  exact_items t h =
      let i = items_idle F l u e t h in
      (effect_exact _ (shaped F l u e) serving.exact i.0).0 ((effect_means F _ (shaped F l u e).rows_long).1 i.1)

  -- Theorem. On an exact field each variable of no effect over whole numbers is an item.
  pub exact_all : (i : ℕ) → i < variables F → NoEffect (whole_of unit F) i → (t : ℕ) × ((t < m) × (item F l u t ≡ i))
  exact_all i h n =
      let w = (effect_means F i (shaped F l u e).rows_long).0 ((effect_exact i (shaped F l u e) serving.exact h).1 n) in
      idle_items F l u e i h w.0 w.1
