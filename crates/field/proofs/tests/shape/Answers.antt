-- `shape` makes tests 1 and 2, then that of the order of entries, and looks for the fault where that fails. Assumes nothing.
use mathlib.Core.Path.{sym, ap, ◌∙◌}
use Rattle.field.specs.declared.Refusal.{Refusal}
use Rattle.field.specs.Tests.{shape_tests}
use Rattle.field.proofs.Table.{test_no, test_ok, none_left}
use Rattle.field.proofs.Means.{lists_mean}
use Rattle.std.specs.Prelude.{Err}
use Rattle.field.proofs.tests.shape.Goals as goal

pub returns-then-not-few_variables : goal.returns-then-not-few_variables
unfolding shape_tests
returns-then-not-few_variables c = test_no _ _ (sym c.few_variables.ensures ∙ c.if-not-few_variables.true)

pub returns-then-not-lists_match : goal.returns-then-not-lists_match
unfolding shape_tests
returns-then-not-lists_match c =
    let few = sym c.few_variables.ensures ∙ c.if-not-few_variables.false in
    test_ok _ _ few (test_no _ _ (sym c.lists_match.ensures ∙ c.if-not-lists_match.true))

pub in_order-requires : goal.in_order-requires
in_order-requires c = let same = (lists_mean _ _ _).0 (sym c.lists_match.ensures ∙ c.if-not-lists_match.false) in same.0 ∙ sym same.1.0

pub fault-requires : goal.fault-requires
fault-requires c =
    let same = (lists_mean _ _ _).0 (sym c.lists_match.ensures ∙ c.if-not-lists_match.false) in
    record { rows_len = same.0 ∙ sym same.1.0; cols_value = sym c.in_order.ensures ∙ c.if-not-in_order.true }

pub returns-then-not-in_order : goal.returns-then-not-in_order
unfolding shape_tests
returns-then-not-in_order c =
    let few = sym c.few_variables.ensures ∙ c.if-not-few_variables.false in
    let matched = sym c.lists_match.ensures ∙ c.if-not-lists_match.false in
    ap (λ (r : Refusal). Err r) c.fault.ensures ∙ test_ok _ _ few (test_ok _ _ matched (test_no _ _ (sym c.in_order.ensures ∙ c.if-not-in_order.true)))

pub returns : goal.returns
unfolding shape_tests
returns c =
    let few = sym c.few_variables.ensures ∙ c.if-not-few_variables.false in
    let matched = sym c.lists_match.ensures ∙ c.if-not-lists_match.false in
    let ordered = sym c.in_order.ensures ∙ c.if-not-in_order.false in
    test_ok _ _ few (test_ok _ _ matched (test_ok _ _ ordered none_left))
