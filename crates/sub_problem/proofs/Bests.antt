-- BEST COMPLETIONS correspond one to one: of the start values in the field, and of all free in the smaller problem. Assumes nothing.
use Prim.Native.Nat.{ℕ, ◌≤◌}
use mathlib.Core.Path.{◌≡◌, subst, ◌∙◌}
use mathlib.Core.List.{List}
use native.Mathlib.Omega.{arith}
use lib.ListN.{length, length-replicate}
use Rattle.whole.specs.Whole.{◌⊕◌, ◌≈◌}
use Rattle.meaning.specs.Steps.{Valid}
use Rattle.meaning.specs.Field.{twice_f, Completion, Best}
use Rattle.weights.specs.Worth.{read}
use Rattle.field.specs.Field.{Field, variables, Shaped, StartFor}
use Rattle.field.specs.Reading.{whole_of}
use Rattle.shift.specs.Shifted.{WholeIn}
use Rattle.sub_problem.specs.Reduced.{back, constant, reduced}
use Rattle.sub_problem.specs.Corresponds.{all_free, restrict, extend, OneToOne}
use Rattle.sub_problem.proofs.Corresponds.{restrict_extend, extend_restrict, restrict_completes, extend_completes}
use Rattle.sub_problem.proofs.Objective.{objective}

-- a completion of all free is as long as the map back, and is what its extension restricts to
there_and_back : (s : List ℕ) {y : List ℕ} → Completion (all_free (length (back s))) y → restrict s (extend s y) ≡ y
there_and_back s {y} c = restrict_extend s y (c.extends.as_long ∙ length-replicate (length (back s)) 2)

pub completions : {s : List ℕ} → Valid s → OneToOne (Completion s) (Completion (all_free (length (back s)))) (restrict s) (extend s)
completions {s} valid = record {
  leads = λ c. restrict_completes s c;
  returns = λ {y} c. extend_completes s y valid c;
  there_again = λ c. there_and_back s c;
  back_again = λ c. extend_restrict s c;
}

module _ {u : ℕ} {F : Field} {s : List ℕ} (S : Shaped F) (w : WholeIn u F) (start : StartFor (variables F) s) (unit : u ≤ 2044) where
  -- its value, from that of its extension
  extended : {y : List ℕ} → Completion (all_free (length (back s))) y → twice_f (whole_of u F) (extend s y) ≈ twice_f (whole_of u (reduced F s)) y ⊕ read u (constant F s)
  extended {y} c =
      subst (λ (z : List ℕ). twice_f (whole_of u F) (extend s y) ≈ twice_f (whole_of u (reduced F s)) z ⊕ read u (constant F s)) (there_and_back s c)
      (objective S w start (extend_completes s y start.small c) unit)

  best_restricts : {x : List ℕ} → Best (whole_of u F) s x → Best (whole_of u (reduced F s)) (all_free (length (back s))) (restrict s x)
  best_restricts {x} b = record {
    completion = restrict_completes s b.completion;
    least = λ y c. omega (arith, objective S w start b.completion unit, extended c, b.least (extend s y) (extend_completes s y start.small c));
  }

  best_extends : {y : List ℕ} → Best (whole_of u (reduced F s)) (all_free (length (back s))) y → Best (whole_of u F) s (extend s y)
  best_extends {y} b = record {
    completion = extend_completes s y start.small b.completion;
    least = λ z c. omega (arith, extended b.completion, objective S w start c unit, b.least (restrict s z) (restrict_completes s c));
  }

  pub bests : OneToOne (Best (whole_of u F) s) (Best (whole_of u (reduced F s)) (all_free (length (back s)))) (restrict s) (extend s)
  bests = record {
    leads = λ b. best_restricts b;
    returns = λ b. best_extends b;
    there_again = λ b. there_and_back s b.completion;
    back_again = λ b. extend_restrict s b.completion;
  }
