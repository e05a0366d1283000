-- Demands 1 to 3 for the gradient values, over the promise of the call `closure` alone. Assumes nothing.
use Prim.Native.Nat.{ℕ, ◌≤◌}
use mathlib.Core.Path.{◌≡◌, sym, ◌∙◌}
use mathlib.Core.Logic.{◌↔◌}
use mathlib.Core.List.{List}
use native.Mathlib.Omega.{arith}
use lib.ListN.{length}
use lib.Ieee.{Float}
use Rattle.weights.specs.Worth.{zero64}
use Rattle.scratch.specs.Cleared.{cleared}
use Rattle.meaning.specs.Steps.{Extends, Agrees, Closure}
use Rattle.meaning.specs.Field.{Best}
use Rattle.meaning.specs.Gradient.{Forces, flats}
use Rattle.field.specs.declared.Grade.{Grade}
use Rattle.field.specs.declared.Grade.TheVariants.{Exact}
use Rattle.field.specs.declared.Refusal.{Refusal}
use Rattle.field.specs.Field.{Field, variables, Shaped, StartFor}
use Rattle.field.specs.Table.{FirstToFail}
use Rattle.field.specs.Tests.{ready_tests, Ready}
use Rattle.field.specs.Grade.{grade_of, unit_of, Serves}
use Rattle.field.specs.Reading.{whole_of}
use Rattle.field.proofs.Exact.{exact_means}
use Rattle.calls.proofs.Answers.{done_apart, same_counted}
use Rattle.calls.proofs.ValuesBy as values
use Rattle.calls.proofs.ValuesBy.{counts_tell}
use Rattle.run.specs.Run.{closure_run, closure}
use Rattle.run.proofs.Theorems as run
use Rattle.run.proofs.FlatRows.{flat_few, flat_rows_exact}
use Rattle.closure.specs.Call.{Left, left, flat, closure_call}
use Rattle.field.specs.Answers.{counted_answer}
use Rattle.std.specs.Prelude.{Err}

-- the count is at most n
pub count_few : (F : Field) {s : List ℕ} → StartFor (variables F) s → flat F s ≤ variables F
unfolding closure
count_few F {s} start = omega (arith, flat_few (closure_run F s).values (closure_run F s).rows (length (closure_run F s).values), (run.closure_valid F start).long)

module _ (F : Field) (s : List ℕ) (f : List Float) (u : List ℕ) where
  -- Theorem. Any two results that the promise permits are equal.
  pub one_result : (x y : Left) → x ≡ closure_call F s f u → y ≡ closure_call F s f u → x ≡ y
  one_result x y p q = p ∙ sym q

  -- Theorem. DEMAND 1. The call is refused with r exactly if the tests before r's own pass, and its own fails.
  pub refused_when : (r : Refusal) → ((closure_call F s f u).answer ≡ Err r) ↔ FirstToFail (ready_tests F s (length f) (length u)) r
  refused_when = values.refused_when (counts_tell flat) closure F s f u

  -- Theorem. A refusal changes nothing lent.
  pub refused_leaves : (r : Refusal) → (closure_call F s f u).answer ≡ Err r → closure_call F s f u ≡ left (Err r) s f u
  refused_leaves = values.refused_leaves (counts_tell flat) closure F s f u

  -- Theorem. It is done exactly if the field, the start values and both scratches are as the table asks, and then gives the grade and the count.
  pub done_when : ((closure_call F s f u).answer ≡ counted_answer (grade_of F) (flat F s)) ↔ Ready F s (length f) (length u)
  done_when = values.done_when (counts_tell flat) closure F s f u

  module _ (g : Grade) (k : ℕ) (e : (closure_call F s f u).answer ≡ counted_answer g k) where
    -- Theorem. Then the closure is in the start values, and both scratches are all zeros.
    pub done_leaves : closure_call F s f u ≡ left (counted_answer (grade_of F) (flat F s)) (closure F s) (cleared zero64 f) (cleared 0 u)
    done_leaves = values.done_leaves (counts_tell flat) closure F s f u e done_apart

    -- Theorem. The values are those of the run, which no count changes.
    pub values_are : (closure_call F s f u).lent.values ≡ closure F s
    values_are = values.values_are (counts_tell flat) closure F s f u e done_apart

    answered : counted_answer (grade_of F) (flat F s) ≡ counted_answer g k
    answered = values.done_answer (counts_tell flat) closure F s f u e done_apart

    -- Theorem. The count beside the grade is how many free variables have a flat row at the end of the run.
    pub count_is : k ≡ flat F s
    count_is = sym (same_counted answered).1

  -- what an answer with the grade exact says of the field
  exact_field : (k : ℕ) → (closure_call F s f u).answer ≡ counted_answer Exact k → Shaped F × (Serves (unit_of F) F × StartFor (variables F) s)
  exact_field k e =
      let r = (values.ready (counts_tell flat) closure F s f u e done_apart).sound in
      let g : grade_of F ≡ Exact = (same_counted (answered Exact k e)).0 in
      (r.shaped, ((exact_means F r.shaped.rows_long).0 g, r.start))

module _ (F : Field) (s : List ℕ) (f : List Float) (u : List ℕ) (k : ℕ) (e : (closure_call F s f u).answer ≡ counted_answer Exact k) where
  -- Theorem. The grade exact says that a unit serves, and the smallest is named. What follows holds in every unit that serves.
  pub unit_serves : Serves (unit_of F) F
  unit_serves = (exact_field F s f u k e).1.0

  -- Theorem. DEMAND 2. On an exact field the values are the gradient closure over whole numbers, no more and no fewer.
  pub values_close : {unit : ℕ} → Serves unit F → Closure (Forces (whole_of unit F)) s (closure_call F s f u).lent.values
  values_close v = let x = exact_field F s f u k e in rw (values_are F s f u Exact k e) (run.closure_is_closure x.0 v.exact x.1.1)

  -- Theorem. The count is the number of free variables with low = high = 0, at the values that the call leaves.
  pub flat_exact : {unit : ℕ} → Serves unit F → k ≡ flats (whole_of unit F) (closure_call F s f u).lent.values
  unfolding closure
  flat_exact v =
      let x = exact_field F s f u k e in
      rw (values_are F s f u Exact k e) (count_is F s f u Exact k e ∙ flat_rows_exact (run.closure_run_closes x.0 v.exact x.1.1))

  -- Theorem. DEMAND 3. Every best completion of the start values obeys every one of them.
  pub best_obeys : {unit : ℕ} → Serves unit F → {x : List ℕ} → Best (whole_of unit F) s x → Extends (closure_call F s f u).lent.values x
  best_obeys v b = let x = exact_field F s f u k e in rw (values_are F s f u Exact k e) (run.closure_obeyed x.0 v.exact x.1.1 b)

  -- Theorem. Further start values that contradict none of them keep each.
  pub further_keep : (s' : List ℕ) (f' : List Float) (u' : List ℕ) (k' : ℕ) → (closure_call F s' f' u').answer ≡ counted_answer Exact k'
      → Extends s s' → Agrees s' (closure_call F s f u).lent.values → Extends (closure_call F s f u).lent.values (closure_call F s' f' u').lent.values
  further_keep s' f' u' k' e' = let x = exact_field F s f u k e in let y = exact_field F s' f' u' k' e' in
      rw (values_are F s f u Exact k e, values_are F s' f' u' Exact k' e') (run.closure_keeps x.0 x.1.0.exact x.1.1 y.1.1)
