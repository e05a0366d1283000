-- From the tests and the work to the answer of each call. Assumes nothing.
use Prim.Native.Nat.{ℕ}
use mathlib.Core.Path.{◌≡◌, refl, sym, ap, ◌∙◌}
use mathlib.Core.Logic.{◌≢◌}
use mathlib.Core.Bool.{true, false}
use mathlib.Core.List.{List, []}
use borrow.Author.Tests.{eq-eqb, ne_eqb}
use lib.ListN.{length, replicate}
use lib.Ieee.{Float}
use Rattle.weights.specs.Worth.{zero64}
use Rattle.field.specs.declared.Grade.{Grade}
use Rattle.field.specs.declared.Grade.TheVariants.{Exact}
use Rattle.field.specs.declared.Refusal.{Refusal}
use Rattle.field.specs.declared.Refusal.TheVariants.{Inexact, Room}
use Rattle.field.specs.Field.{Field, variables}
use Rattle.field.specs.Table.{tested}
use Rattle.field.specs.Grade.{is_exact_of, grade_of}
use Rattle.calls.specs.Call as any
use Rattle.calls.specs.Call.{run}
use Rattle.calls.proofs.Usual as usual
use Rattle.run.specs.Run.{flat_rows}
use Rattle.kept.specs.Kept.{Kept, kept, made, changed}
use Rattle.kept.specs.Calls.{lent_tests, pin_tests, release_tests, left, make_call, pin_call, release_call, run_from, closed, close_call}
use Rattle.std.specs.Prelude.{Ok, Err}
use Rattle.field.specs.Answers.{Answer, passed, counted_answer}

-- ---- make

pub graded_exact : (F : Field) → is_exact_of F ≡ true → grade_of F ≡ Exact
unfolding grade_of
graded_exact F e = rw e refl

module _ (F : Field) (s : List ℕ) (b : List Float) (n : ℕ) (f : List Float) (u : List ℕ) where
  pub refused_make : {r : Refusal} → tested (lent_tests F s (length b) (length f) (length u)) ≡ Err r → left (Err r) b n f u ≡ make_call F s b n f u
  unfolding make_call
  refused_make e = usual.refused_call Err _ _ _ _ e

  module _ {f' : List Float} {u' : List ℕ} (k l : ℕ) (e : tested (lent_tests F s (length b) (length f) (length u)) ≡ passed)
      (ef : f' ≡ replicate k zero64) (lf : k ≡ length f) (eu : u' ≡ replicate l 0) (lu : l ≡ length u) where
    pub inexact_make : is_exact_of F ≡ false → left (Err Inexact) b n f' u' ≡ make_call F s b n f u
    unfolding make_call
    inexact_make x = rw (ef, lf, eu, lu) (usual.last_refuses Err _ _ Inexact _ _ e x)

    pub done_make : is_exact_of F ≡ true → {b' : List Float} {n' : ℕ} → kept s b' n' ≡ made F s → left (Ok Exact) b' n' f' u' ≡ make_call F s b n f u
    unfolding make_call
    done_make x {b'} {n'} h =
        let eb : b' ≡ (made F s).bounds = ap (λ (K : Kept). K.bounds) h in
        let en : n' ≡ (made F s).strict = ap (λ (K : Kept). K.strict) h in
        rw (ef, lf, eu, lu, eb, en, sym (graded_exact F x)) (usual.last_passes Err _ _ Inexact _ _ e x)

-- ---- pin and release

module _ (F : Field) (s : List ℕ) (b : List Float) (n i : ℕ) {k : Answer Unit} where
  module _ (v : ℕ) (e : k ≡ tested (pin_tests F s (length b) i v)) where
    pub refused_pin : {r : Refusal} → k ≡ Err r → any.left (Err r) (kept s b n) ≡ pin_call F (kept s b n) i v
    unfolding pin_call
    refused_pin p = usual.refused_call Err _ _ [] _ (sym e ∙ p)

    pub done_pin : k ≡ passed → {K : Kept} → K ≡ changed F i v (kept s b 0) → any.left passed K ≡ pin_call F (kept s b n) i v
    unfolding pin_call run changed
    done_pin p h = rw h (usual.passed_call Err _ _ [] _ (sym e ∙ p))

  module _ (e : k ≡ tested (release_tests F s (length b) i)) where
    pub refused_release : {r : Refusal} → k ≡ Err r → any.left (Err r) (kept s b n) ≡ release_call F (kept s b n) i
    unfolding release_call
    refused_release p = usual.refused_call Err _ _ [] _ (sym e ∙ p)

    pub done_release : k ≡ passed → {K : Kept} → K ≡ changed F i 2 (kept s b 0) → any.left passed K ≡ release_call F (kept s b n) i
    unfolding release_call run changed
    done_release p h = rw h (usual.passed_call Err _ _ [] _ (sym e ∙ p))

-- ---- close

module _ (F : Field) (s : List ℕ) (b : List Float) (l : List ℕ) (f : List Float) (u : List ℕ) where
  pub refused_close : {r : Refusal} → tested (lent_tests F s (length b) (length f) (length u)) ≡ Err r → closed (Err r) l f u ≡ close_call F s b l f u
  unfolding close_call
  refused_close e = usual.refused_call Err _ _ _ _ e

  module _ {l' : List ℕ} {f' : List Float} {u' : List ℕ} (j k : ℕ) (e : tested (lent_tests F s (length b) (length f) (length u)) ≡ passed)
      (ef : f' ≡ replicate j zero64) (lf : j ≡ length f) (eu : u' ≡ replicate k 0) (lu : k ≡ length u) where
    pub room_close : length l ≢ variables F → l' ≡ replicate (length l) 0 → closed (Err Room) l' f' u' ≡ close_call F s b l f u
    unfolding close_call
    room_close n el = rw (el, ef, lf, eu, lu) (usual.last_refuses Err _ _ Room _ _ e (ne_eqb _ _ n))

    pub done_close : {g : Grade} {r : ℕ} → length l ≡ variables F → g ≡ grade_of F → r ≡ flat_rows (run_from F s b) → l' ≡ (run_from F s b).values
        → closed (counted_answer g r) l' f' u' ≡ close_call F s b l f u
    unfolding close_call
    done_close n eg er el = rw (eg, er, el, ef, lf, eu, lu) (usual.last_passes Err _ _ Room _ _ e (eq-eqb _ _ n))
