-- What the call `sub_problem` does, over its promise alone. Assumes nothing.
use Rattle.sub_problem.specs.declared.Reduced.{Reduced}
use Prim.Native.Nat.{ℕ, ◌<◌, ◌≤◌}
use mathlib.Core.Path.{◌≡◌, refl, sym, ap, subst, ◌∙◌}
use mathlib.Core.Logic.{◌≢◌, ◌↔◌}
use mathlib.Core.List.{List, map}
use native.Mathlib.Omega.{arith}
use borrow.Author.Tests.{leb-false, lt-leb}
use lib.ListN.{length, get_or, take, length-map, get_or-replicate}
use lib.Ieee.{Float, nan}
use Rattle.whole.specs.Whole.{◌⊕◌, ◌≈◌}
use Rattle.weights.specs.Worth.{Worth, zero64, read}
use Rattle.scratch.specs.Cleared.{cleared}
use Rattle.scratch.specs.Over.{over}
use Rattle.scratch.proofs.Over.{over_front, over_past}
use Rattle.scratch.proofs.Means.{le_is}
use Rattle.meaning.specs.Free.{free_to}
use Rattle.meaning.specs.Field.{twice_f, Completion, Best}
use Rattle.field.specs.declared.Grade.{Grade}
use Rattle.field.specs.declared.Grade.TheVariants.{Exact}
use Rattle.field.specs.declared.Refusal.{Refusal}
use Rattle.field.specs.declared.Refusal.TheVariants.{Room}
use Rattle.field.specs.Field.{Field, variables, entries, linear_of, row_end, column_end, quad_of, Shaped, Standard}
use Rattle.field.specs.Table.{FirstToFail}
use Rattle.field.specs.Tests.{open_tests, Admitted}
use Rattle.field.specs.Grade.{grade_of, Serves}
use Rattle.field.specs.Reading.{whole_of}
use Rattle.field.proofs.Table.{group_is, last_is}
use Rattle.field.proofs.Means.{admitted_passes}
use Rattle.calls.specs.Call.{table, no_stage}
use Rattle.calls.proofs.Open.{never_room}
use Rattle.calls.proofs.Call as any
use Rattle.calls.proofs.Usual as usual
use Rattle.calls.proofs.Usual.{this_stage, other_stage}
use Rattle.shift.specs.Shifted.{WholeIn}
use Rattle.shift.proofs.Keeps.{weighs_more}
use Rattle.sub_problem.specs.Reduced.{back, new_index, stays, adjusted, constant, reduced}
use Rattle.sub_problem.specs.Corresponds.{all_free, restrict, extend, OneToOne, AllWhole}
use Rattle.sub_problem.specs.Call.{Left, left, closed_up, closed_in, first_of, fits, sub_problem_table, finished, sub_problem_call}
use Rattle.sub_problem.proofs.Numbering.{back_free}
use Rattle.sub_problem.proofs.Shape.{new_variables, new_entries, reduced_shaped, reduced_standard}
use Rattle.sub_problem.proofs.Objective.{objective, reduced_whole, constant_whole}
use Rattle.sub_problem.proofs.Bests as bests
use Rattle.sub_problem.specs.Answers.{reduced_answer}
use Rattle.std.specs.Prelude.{Err}
use Rattle.calls.proofs.Answers.{done_apart, same_refused, same_done}

-- Theorem. Any two results that the promise permits are equal.
pub one_result : (F : Field) (s l : List ℕ) (f : List Float) (u : List ℕ) (x y : Left) → x ≡ sub_problem_call F s l f u → y ≡ sub_problem_call F s l f u → x ≡ y
one_result F s l f u = any.one_result (sub_problem_call F s l f u)

-- ---- what an answer says

not_finished : {A : Type 0} (F : Field) (s l : List ℕ) (f : List Float) (u : List ℕ) (r : Refusal) → (finished F s l f u).answer ≡ Err r → A
unfolding finished
not_finished F s l f u r e = done_apart r e

-- the parts of an answer are the model's
record Told (F : Field) (s : List ℕ) (g : Grade) (n m : ℕ) (k : Float) : Type 0 where
  grade : grade_of F ≡ g
  new_n : length (back s) ≡ n
  new_m : length (stays F s) ≡ m
  is_constant : constant F s ≡ k

told : {F : Field} {s : List ℕ} {g : Grade} {n m : ℕ} {k : Float} → reduced_answer (grade_of F) (length (back s)) (length (stays F s)) (constant F s) ≡ reduced_answer g n m k → Told F s g n m k
told {F} {s} {g} {n} {m} {k} e =
    let z = same_done e in
    record { grade = ap (λ (x : Reduced). x.grade) z; new_n = ap (λ (x : Reduced). x.variables) z; new_m = ap (λ (x : Reduced). x.entries) z; is_constant = ap (λ (x : Reduced). x.constant) z }

module _ (F : Field) (s l : List ℕ) (f : List Float) (u : List ℕ) where
  -- Theorem. DEMAND 1. The call is refused with r exactly if the tests before r's own pass, and its own fails: 9 is the last, for more free variables than the map list has places.
  pub refused_when : (r : Refusal) → ((sub_problem_call F s l f u).answer ≡ Err r) ↔ FirstToFail (sub_problem_table F s l (length f) (length u)) r
  unfolding sub_problem_call table
  refused_when = usual.refused_when Err _ _ _ _ same_refused (not_finished F s l f u) refl

  -- Theorem. A refusal by another test changes nothing lent.
  pub refused_leaves : (r : Refusal) → r ≢ Room → (sub_problem_call F s l f u).answer ≡ Err r → sub_problem_call F s l f u ≡ left (Err r) F l f u
  unfolding sub_problem_call
  refused_leaves r n e = usual.refused_leaves Err _ _ _ _ same_refused (not_finished F s l f u) r (other_stage n no_stage) e

  -- Theorem. It is 9 exactly if all other tests pass and there are more free variables than places.
  pub room_when : ((sub_problem_call F s l f u).answer ≡ Err Room) ↔ (Admitted F s (length f) (length u) × (length l < length (back s)))
  unfolding sub_problem_call
  room_when =
      let t = usual.last_when Err _ _ Room _ _ same_refused (not_finished F s l f u) (never_room F s (length f) (length u)) (fits s l) in
      let p = admitted_passes F s (length f) (length u) in
      ((λ e. (p.0 (t.0 e).0, leb-false _ _ (t.0 e).1)), λ h. t.1 (p.1 h.0, lt-leb _ _ h.1))

  -- Theorem. On 9 the field is unchanged, and the map list and both scratches are all zeros.
  pub room_leaves : (sub_problem_call F s l f u).answer ≡ Err Room → sub_problem_call F s l f u ≡ left (Err Room) F (cleared 0 l) (cleared zero64 f) (cleared 0 u)
  unfolding sub_problem_call
  room_leaves e = usual.later_leaves Err _ _ _ _ same_refused (not_finished F s l f u) Room _ (never_room F s (length f) (length u)) (this_stage no_stage) e

  -- Theorem. It is done exactly if the field, the start values and both scratches are as the table asks, and the map list has room.
  pub done_when : ((sub_problem_call F s l f u).answer ≡ reduced_answer (grade_of F) (length (back s)) (length (stays F s)) (constant F s)) ↔ (Admitted F s (length f) (length u) × (length (back s) ≤ length l))
  unfolding sub_problem_call finished table
  done_when =
      usual.done_when Err _ _ _ _ same_refused done_apart
      (group_is (open_tests F s (length f) (length u)) _ (admitted_passes F s (length f) (length u)) (last_is Room _ (le_is (length (back s)) (length l))))

  module _ {g : Grade} {n m : ℕ} {k : Float} (e : (sub_problem_call F s l f u).answer ≡ reduced_answer g n m k) where
    -- Theorem. Then the smaller problem stands at the front of the caller's lists with zeros behind it, the map back at the front of its list, and both scratches are all zeros.
    pub done_leaves : sub_problem_call F s l f u ≡ finished F s l f u
    unfolding sub_problem_call
    done_leaves = usual.done_leaves Err _ _ _ _ same_refused (not_finished F s l f u) (λ r z. done_apart r (sym e ∙ z))

    answered : reduced_answer (grade_of F) (length (back s)) (length (stays F s)) (constant F s) ≡ (sub_problem_call F s l f u).answer
    unfolding finished
    answered = ap (λ (x : Left). x.answer) (sym done_leaves)

    admitted : Admitted F s (length f) (length u)
    admitted = (done_when.0 (sym answered)).0

    says : Told F s g n m k
    says = told (answered ∙ e)

    -- Theorem. The grade is that of the field as it was given.
    pub grade_given : g ≡ grade_of F
    grade_given = sym says.grade

    lists_are : (sub_problem_call F s l f u).lent.lists ≡ closed_in (reduced F s) F
    unfolding finished
    lists_are = ap (λ (x : Left). x.lent.lists) done_leaves

    map_is : (sub_problem_call F s l f u).lent.map_list ≡ over (back s) l
    unfolding finished
    map_is = ap (λ (x : Left). x.lent.map_list) done_leaves

    -- Theorem. The first n weights and the first m entries are the smaller problem.
    pub is_reduced : first_of n m (sub_problem_call F s l f u).lent.lists ≡ reduced F s
    is_reduced =
        rw (
          lists_are,
          over_front (map (adjusted F s) (back s)) (cleared zero64 F.linear) (length-map (back s) (adjusted F s) ∙ says.new_n),
          over_front (map (λ k. new_index s (row_end F k)) (stays F s)) (cleared 0 F.rows) (length-map (stays F s) (λ k. new_index s (row_end F k)) ∙ says.new_m),
          over_front (map (λ k. new_index s (column_end F k)) (stays F s)) (cleared 0 F.cols) (length-map (stays F s) (λ k. new_index s (column_end F k)) ∙ says.new_m),
          over_front (map (quad_of F) (stays F s)) (cleared zero64 F.quad) (length-map (stays F s) (quad_of F) ∙ says.new_m),
        )

    -- Theorem. k is the constant.
    pub is_constant : k ≡ constant F s
    is_constant = sym says.is_constant

    -- Theorem. The first n places of the map list are the free variables, rising: the map back.
    pub is_back : take n (sub_problem_call F s l f u).lent.map_list ≡ free_to s (length s)
    is_back = ap (take n) map_is ∙ over_front (back s) l says.new_n ∙ back_free s (length s)

    -- Theorem. Places of the map list past the map back are unchanged.
    pub map_past : (i : ℕ) → n ≤ i → get_or (sub_problem_call F s l f u).lent.map_list i 0 ≡ get_or l i 0
    map_past i h = rw map_is (over_past (back s) l i 0 (omega (arith, says.new_n)))

    zeros : {A : Type 0} (z d : A) (a o : List A) (i : ℕ) → length a ≤ i → i < length o → get_or (closed_up z a o) i d ≡ z
    zeros z d a o i h b = over_past a (cleared z o) i d h ∙ get_or-replicate (length o) i z d b

    -- Theorem. Places past the new ends are zero: of c.
    pub linear_past_zero : (i : ℕ) → n ≤ i → i < variables F → linear_of (sub_problem_call F s l f u).lent.lists i ≡ zero64
    linear_past_zero i h b = rw lists_are (zeros zero64 nan (map (adjusted F s) (back s)) F.linear i (omega (arith, length-map (back s) (adjusted F s), says.new_n)) b)

    -- Theorem. Places past the new ends are zero: of the entries.
    pub entry_past_zero : (j : ℕ) → m ≤ j → j < entries F
        → (row_end (sub_problem_call F s l f u).lent.lists j ≡ 0) × ((column_end (sub_problem_call F s l f u).lent.lists j ≡ 0) × (quad_of (sub_problem_call F s l f u).lent.lists j ≡ zero64))
    entry_past_zero j h b =
        let S = admitted.shaped in
        simp lists_are (
          zeros 0 0 (map (λ k. new_index s (row_end F k)) (stays F s)) F.rows j (omega (arith, length-map (stays F s) (λ k. new_index s (row_end F k)), says.new_m)) (omega (arith, S.rows_long)),
          (
            zeros 0 0 (map (λ k. new_index s (column_end F k)) (stays F s)) F.cols j (omega (arith, length-map (stays F s) (λ k. new_index s (column_end F k)), says.new_m)) (omega (arith, S.cols_long)),
            zeros zero64 nan (map (quad_of F) (stays F s)) F.quad j (omega (arith, length-map (stays F s) (quad_of F), says.new_m)) b,
          ),
        )

    -- Theorem. The smaller problem has n variables and m entries.
    pub new_sizes : (variables (first_of n m (sub_problem_call F s l f u).lent.lists) ≡ n) × (entries (first_of n m (sub_problem_call F s l f u).lent.lists) ≡ m)
    new_sizes = (ap variables is_reduced ∙ new_variables F s ∙ says.new_n, ap entries is_reduced ∙ new_entries F s ∙ says.new_m)

    -- Theorem. The smaller problem is shaped as a field must be: in order, and every row and column below n.
    pub new_shaped : Shaped (first_of n m (sub_problem_call F s l f u).lent.lists)
    new_shaped = rw is_reduced (reduced_shaped F s admitted.shaped admitted.start.long)

    -- Theorem. The smaller problem is in standard form where the field was.
    pub new_standard : Standard F → Standard (first_of n m (sub_problem_call F s l f u).lent.lists)
    new_standard h = subst (λ (G : Field). Standard G) (sym is_reduced) (reduced_standard F s admitted.shaped admitted.start.long h)

    -- Theorem. Completions of the start values and choices of n values correspond one to one.
    pub completions_correspond : OneToOne (Completion s) (Completion (all_free n)) (restrict s) (extend s)
    completions_correspond = subst (λ (j : ℕ). OneToOne (Completion s) (Completion (all_free j)) (restrict s) (extend s)) says.new_n (bests.completions admitted.start.small)

    -- ---- where c is a whole number of units and q of double units, with a diagonal or without

    module _ {v : ℕ} (w : WholeIn v F) (unit : v ≤ 2044) where
      whole_keeps_f : {x : List ℕ} → Completion s x → twice_f (whole_of v F) x ≈ twice_f (whole_of v (first_of n m (sub_problem_call F s l f u).lent.lists)) (restrict s x) ⊕ read v k
      whole_keeps_f {x} c =
          subst (λ (G : Field). twice_f (whole_of v F) x ≈ twice_f (whole_of v G) (restrict s x) ⊕ read v k) (sym is_reduced)
          (subst (λ (z : Float). twice_f (whole_of v F) x ≈ twice_f (whole_of v (reduced F s)) (restrict s x) ⊕ read v z) says.is_constant
          (objective admitted.shaped w admitted.start c unit))

      whole_bests : OneToOne (Best (whole_of v F) s) (Best (whole_of v (first_of n m (sub_problem_call F s l f u).lent.lists)) (all_free n)) (restrict s) (extend s)
      whole_bests =
          subst (λ (G : Field). OneToOne (Best (whole_of v F) s) (Best (whole_of v G) (all_free n)) (restrict s) (extend s)) (sym is_reduced)
          (subst (λ (j : ℕ). OneToOne (Best (whole_of v F) s) (Best (whole_of v (reduced F s)) (all_free j)) (restrict s) (extend s)) says.new_n
          (bests.bests admitted.shaped w admitted.start unit))

      all_whole : AllWhole v (first_of n m (sub_problem_call F s l f u).lent.lists)
      all_whole = subst (λ (G : Field). AllWhole v G) (sym is_reduced) (reduced_whole admitted.shaped w admitted.start)

      whole_constant : Worth v k (read v k)
      whole_constant = subst (λ (z : Float). Worth v z (read v z)) says.is_constant (constant_whole admitted.shaped w admitted.start unit)

-- a unit that serves is such a unit
serves_whole : {F : Field} {unit : ℕ} → Serves unit F → WholeIn unit F
serves_whole S = record { linear = λ i h. weighs_more (omega arith) (S.exact.linear i h); quad = S.exact.quad }

-- DEMAND 3, on exact fields, in every unit that serves.
module _ (F : Field) (s l : List ℕ) (f : List Float) (u : List ℕ) {n m : ℕ} {k : Float} (e : (sub_problem_call F s l f u).answer ≡ reduced_answer Exact n m k) {unit : ℕ} (serving : Serves unit F) where
  -- Theorem. THE OBJECTIVE: f of a completion is the smaller problem's f at its free values, plus the constant.
  pub keeps_f : {x : List ℕ} → Completion s x → twice_f (whole_of unit F) x ≈ twice_f (whole_of unit (first_of n m (sub_problem_call F s l f u).lent.lists)) (restrict s x) ⊕ read unit k
  keeps_f c = whole_keeps_f F s l f u e (serves_whole serving) (omega (arith, serving.to)) c

  -- Theorem. Every new weight is a whole number, so that nothing is lost in the reading.
  pub new_whole : AllWhole unit (first_of n m (sub_problem_call F s l f u).lent.lists)
  new_whole = all_whole F s l f u e (serves_whole serving) (omega (arith, serving.to))

  -- Theorem. The constant is a whole number of half units, the one that is read of it.
  pub constant_read : Worth unit k (read unit k)
  constant_read = whole_constant F s l f u e (serves_whole serving) (omega (arith, serving.to))

  -- Theorem. Best completions of both problems correspond one to one.
  pub bests_correspond : OneToOne (Best (whole_of unit F) s) (Best (whole_of unit (first_of n m (sub_problem_call F s l f u).lent.lists)) (all_free n)) (restrict s) (extend s)
  bests_correspond = whole_bests F s l f u e (serves_whole serving) (omega (arith, serving.to))
