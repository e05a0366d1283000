-- What an operation's answer says and leaves, whatever its tests are. Assumes nothing.
use mathlib.Core.Path.{◌≡◌, refl, sym, ◌∙◌}
use mathlib.Core.Logic.{◌↔◌}
use mathlib.Core.List.{List, [], append-nil}
use Rattle.field.specs.declared.Refusal.{Refusal}
use Rattle.field.specs.Table.{Test, tested, FirstToFail}
use Rattle.calls.specs.Call as any
use Rattle.calls.specs.Call.{table, no_stage}
use Rattle.calls.proofs.Answers.{same_refused, done_apart}
use Rattle.calls.proofs.Usual as usual
use Rattle.kept.specs.Kept.{Kept}
use Rattle.kept.specs.Calls.{operation}
use Rattle.field.specs.Answers.{Answer, passed}
use Rattle.std.specs.Prelude.{Err, Ok}

module _ (K : Kept) (tests : List Test) (K' : Kept) where
  pub refused_when : (r : Refusal) → ((operation K tests K').answer ≡ Err r) ↔ FirstToFail tests r
  unfolding table
  refused_when = usual.refused_when Err K tests [] _ same_refused done_apart (append-nil tests)

  pub refused_leaves : (r : Refusal) → (operation K tests K').answer ≡ Err r → operation K tests K' ≡ any.left (Err r) K
  refused_leaves r e = usual.refused_leaves Err K tests [] _ same_refused done_apart r no_stage e

  pub done_when : {X : Type 0} → (tested tests ≡ passed) ↔ X → ((operation K tests K').answer ≡ passed) ↔ X
  unfolding table
  done_when m = usual.done_when Err K tests [] _ same_refused done_apart (rw (append-nil tests) m)

  pub done_leaves : (operation K tests K').answer ≡ passed → operation K tests K' ≡ any.left passed K'
  done_leaves e = usual.done_leaves Err K tests [] _ same_refused done_apart (λ r z. done_apart r (sym e ∙ z))

  -- what holds of the record, and of the changed one where the tests pass, holds of what is left
  pub left_has : (P : Kept → Type 0) → P K → (tested tests ≡ passed → P K') → P (operation K tests K').lent
  left_has P same new = go (operation K tests K').answer refl
    where
      go : (a : Answer Unit) → (operation K tests K').answer ≡ a → P (operation K tests K').lent
      go (Ok _) e = rw (done_leaves e) (new ((done_when ((λ z. z), λ z. z)).0 e))
      go (Err r) e = rw (refused_leaves r e) same
