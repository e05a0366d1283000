-- From the tests and the run to the answer. Assumes nothing.
use Prim.Native.Nat.{ℕ}
use mathlib.Core.Path.{◌≡◌, refl, sym}
use mathlib.Core.Bool.{Bool, true, false}
use mathlib.Core.List.{List}
use lib.ListN.{length, replicate}
use Rattle.meaning.specs.Literal.{propagate}
use Rattle.field.specs.declared.Refusal.{Refusal}
use Rattle.field.specs.declared.Refusal.TheVariants.{Clash}
use Rattle.field.specs.Table.{tested}
use Rattle.calls.specs.Call.{without}
use Rattle.calls.proofs.Usual as usual
use Rattle.propagation.specs.Tests.{propagation_tests}
use Rattle.literals.specs.Ends.{rules}
use Rattle.literals.specs.Going.{found}
use Rattle.propagation.specs.Call.{left, values_in, propagate_call}
use Rattle.field.specs.Answers.{passed}
use Rattle.std.specs.Prelude.{Err}

-- none of the tests gives 10
pub never_clash : (s list : List ℕ) (words : ℕ) → without Clash (propagation_tests s list words) ≡ true
unfolding without propagation_tests
never_clash s list words = refl

module _ (s list u : List ℕ) where
  pub refused_call : {r : Refusal} → tested (propagation_tests s list (length u)) ≡ Err r → left (Err r) s u ≡ propagate_call s list u
  unfolding propagate_call
  refused_call e = usual.refused_call Err _ _ _ _ e

  module _ (r : Bool) (t : List ℕ) {u' : List ℕ} (k : ℕ) (sound : tested (propagation_tests s list (length u)) ≡ passed) (ran : found r t ≡ propagate (rules list) s)
      (zeros : u' ≡ replicate k 0) (long : k ≡ length u) where
    pub clash_call : r ≡ false → left (Err Clash) s u' ≡ propagate_call s list u
    unfolding propagate_call found
    clash_call e = rw (zeros, long) (usual.last_refuses Err _ _ Clash _ _ sound (rw (sym ran, e)))

    pub done_call : {s' : List ℕ} → s' ≡ t → r ≡ true → left passed s' u' ≡ propagate_call s list u
    unfolding propagate_call found
    done_call same e =
        let w : t ≡ values_in s (propagate (rules list) s) = rw (sym ran, e) in
        rw (zeros, long, same, w) (usual.last_passes Err _ _ Clash _ _ sound (rw (sym ran, e)))
