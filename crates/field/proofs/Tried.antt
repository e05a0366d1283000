-- What the exit of a `?` returns: the refusal that the call before it gave. Assumes nothing.
use Rattle.std.specs.Prelude.{◌≡◌, Result, Err}
use mathlib.Core.Path.{ap, ◌∙◌}
use Rattle.std.specs.Result.{IsErr, IsErrAnd}
use Rattle.std.proofs.lemmas.Result.{err_from_is_err_and}

-- An error that is the one given.
pub err_given : {A E : Type 0} {r : Result A E} {e : E} → IsErr r × IsErrAnd r (λ y. y ≡ e) → r ≡ Err e
err_given {r = r} p = let w = err_from_is_err_and r p.1 in w.1 ∙ ap Err w.2
