-- The position that a refusal names is below 32,768, and has room in the number of each call's answer. Assumes nothing.
use Prim.Native.Nat.{ℕ, ◌≤◌, ◌<◌}
use mathlib.Core.Bool.{Bool, true, false, cond}
use mathlib.Core.List.{List, []}
use native.Mathlib.Omega.{arith}
use lib.Dec.{ltb}
use lib.ListN.{length}
use lib.Ieee.{Float}
use Rattle.field.specs.declared.Refusal.TheVariants.{Variables, Start, Argument, Scratch, Lists, Weights, Sum}
use Rattle.field.specs.Field.{Field}
use Rattle.field.specs.Tests.{ready_tests}
use Rattle.field.specs.Faults.{Near}
use Rattle.field.proofs.Faults.{near_none, near_test, near_group, loose_near, standard_near, ready_near}
use Rattle.calls.specs.Values as values
use Rattle.calls.proofs.Usual.{answer_has}
use Rattle.no_effect.specs.Call.{word_tests}
use Rattle.mend.specs.Call.{sum_tests, mend_tests}
use Rattle.probe.specs.Call as probing
use Rattle.propagation.specs.Tests.{propagation_tests}
use Rattle.propagation.specs.Call as propagating
use Rattle.meaning.specs.Literal.{Implication}
use Rattle.literals.specs.Ends.{rules}
use Rattle.reaching.specs.Via.{reaches}
use Rattle.reaching.proofs.Picked.{first_within}
use Rattle.allow.specs.declared.Allowed.TheVariants.{Yes, No}
use Rattle.allow.specs.Answer.{named, allowed_of}
use Rattle.allow.specs.Call as allowing
use Rattle.allow.proofs.Means.{ready_is}
use Rattle.packing.specs.Layout.{checked_count, answer_count, allowed_count}
use Rattle.std.specs.Prelude.{Ok, Err}

-- ---- the tests of the calls that do not make those of `ready`

pub word_near : (F : Field) (words : ℕ) → Near (word_tests F words)
unfolding word_tests
word_near F words = near_group _ _ (loose_near F) (near_test Scratch _ _ (omega arith) near_none)

pub mend_near : (F : Field) (floats words : ℕ) → Near (mend_tests F floats words)
unfolding mend_tests sum_tests
mend_near F floats words =
    near_group _ _
    (near_test Variables _ _ (omega arith) (near_test Lists _ _ (omega arith) (near_test Weights _ _ (omega arith) (near_test Sum _ _ (omega arith) near_none))))
    (near_test Scratch _ _ (omega arith) (near_test Scratch _ _ (omega arith) near_none))

probe_near : (F : Field) (s : List ℕ) (i v floats words : ℕ) → Near (probing.probe_tests F s i v floats words)
unfolding probing.probe_tests
probe_near F s i v floats words =
    near_group _ _ (standard_near F s) (near_test Argument _ _ (omega arith) (near_test Scratch _ _ (omega arith) (near_test Scratch _ _ (omega arith) near_none)))

propagation_near : (s list : List ℕ) (words : ℕ) → Near (propagation_tests s list words)
unfolding propagation_tests
propagation_near s list words =
    near_test Variables _ _ (omega arith) (near_test Start _ _ (omega arith) (near_test Argument _ _ (omega arith) (near_test Scratch _ _ (omega arith) near_none)))

-- ---- the calls that count nothing

module _ (g : values.Values) (F : Field) (s : List ℕ) (f : List Float) (u : List ℕ) where
  -- Theorem. The position that a refusal names has room in the number of each call that answers in the start values.
  pub values_fit : answer_count (values.values_call g F s f u).answer < 0x1000_0000
  unfolding values.values_by
  values_fit =
      answer_has Err _ (ready_tests F s (length f) (length u)) [] _ (λ a. answer_count a < 0x1000_0000) (λ r e. omega (arith, ready_near F s (length f) (length u) r e)) tt (λ e. omega arith)

module _ (F : Field) (s : List ℕ) (i v : ℕ) (t : List ℕ) (f : List Float) (u : List ℕ) where
  -- Theorem. The position that a refusal names has room in the number of `probe_one`.
  pub probe_one_fits : answer_count (probing.probe_one_call F s i v t f u).answer < 0x1000_0000
  unfolding probing.probe_one_by
  probe_one_fits =
      answer_has Err _ (probing.probe_tests F s i v (length f) (length u)) _ _ (λ a. answer_count a < 0x1000_0000)
      (λ r e. omega (arith, probe_near F s i v (length f) (length u) r e)) (omega arith, tt) (λ e. omega arith)

module _ (s list u : List ℕ) where
  -- Theorem. The position that a refusal names has room in the number of `propagate`.
  pub propagate_fits : checked_count (propagating.propagate_call s list u).answer < 0x1000_0000
  unfolding propagating.propagate_call
  propagate_fits =
      answer_has Err _ (propagation_tests s list (length u)) _ _ (λ a. checked_count a < 0x1000_0000) (λ r e. omega (arith, propagation_near s list (length u) r e)) (omega arith, tt)
      (λ e. omega arith)

-- ---- what constraints allow: a no names a variable

allow_near : (n : ℕ) (list : List ℕ) (longs words : ℕ) → Near (allowing.allow_tests n list longs words)
unfolding allowing.allow_tests
allow_near n list longs words =
    near_test Variables _ _ (omega arith) (near_test Argument _ _ (omega arith) (near_test Scratch _ _ (omega arith) (near_test Scratch _ _ (omega arith) near_none)))

named_few : (E : List Implication) (n : ℕ) → allowed_count (Ok (allowed_of E n)) ≤ n
unfolding allowed_of
named_few E n = go (ltb (named E n) n)
  where
    go : (b : Bool) → allowed_count (Ok (cond b (No (named E n)) Yes)) ≤ n
    go true = first_within (reaches E n) n
    go false = omega arith

module _ (n : ℕ) (list a c w u : List ℕ) where
  -- Theorem. The variable that a no names has room in the number of `allow`.
  pub allow_fits : allowed_count (allowing.allow_call n list a c w u).answer < 0x1000_0000
  unfolding allowing.allow_call
  allow_fits =
      answer_has Err _ (allowing.allow_tests n list (length w) (length u)) _ _ (λ x. allowed_count x < 0x1000_0000) (λ r e. omega (arith, allow_near n list (length w) (length u) r e)) (omega arith, tt)
      (λ e. omega (arith, named_few (rules list) n, ((ready_is n list (length w) (length u)).0 e).few))
