-- From the tests and the rows to the answer. Assumes nothing.
use Prim.Native.Nat.{ℕ}
use mathlib.Core.Path.{◌≡◌, sym, ◌∙◌}
use mathlib.Core.Bool.{Bool, true, false}
use mathlib.Core.List.{List}
use lib.ListN.{length, replicate}
use Rattle.scratch.specs.Cleared.{cleared}
use Rattle.field.specs.declared.Refusal.{Refusal}
use Rattle.field.specs.declared.Refusal.TheVariants.{Room}
use Rattle.field.specs.Table.{tested}
use Rattle.calls.proofs.Usual as usual
use Rattle.literals.specs.Ends.{rules}
use Rattle.allow.specs.declared.Allowed.{Allowed}
use Rattle.std.specs.Prelude.{Ok, Err}
use Rattle.allow.specs.Choice.{Answered}
use Rattle.allow.specs.Call.{left, allow_tests, fits, allow_call}
use Rattle.field.specs.Answers.{Answer, passed}

-- the tests give k, and the room of the answer lists b
module _ (n : ℕ) (list a c w u : List ℕ) {k : Answer Unit} (tests : k ≡ tested (allow_tests n list (length w) (length u))) where
  pub refused_call : {r : Refusal} → k ≡ Err r → left (Err r) a c w u ≡ allow_call n list a c w u
  unfolding allow_call
  refused_call e = usual.refused_call Err _ _ _ _ (sym tests ∙ e)

  module _ (sound : k ≡ passed) {b : Bool} (room : b ≡ fits n (length a) (length c)) where
    pub room_call : {a' c' w' u' : List ℕ} → b ≡ false → a' ≡ cleared 0 a → c' ≡ cleared 0 c → w' ≡ cleared 0 w → u' ≡ cleared 0 u
        → left (Err Room) a' c' w' u' ≡ allow_call n list a c w u
    unfolding allow_call
    room_call e ea ec ew eu = rw (ea, ec, ew, eu) (usual.last_refuses Err _ _ Room _ _ (sym tests ∙ sound) (sym room ∙ e))

    pub done_call : {r : Allowed} {a' c' w' u' : List ℕ} {l : ℕ} → b ≡ true → Answered (rules list) n a c r a' c' → w' ≡ replicate l 0 → l ≡ length w → u' ≡ cleared 0 u
        → left (Ok r) a' c' w' u' ≡ allow_call n list a c w u
    unfolding allow_call
    done_call e h ew lw eu =
        rw (h.answer, h.assignment, h.counts, ew, lw, eu) (usual.last_passes Err _ _ Room _ _ (sym tests ∙ sound) (sym room ∙ e))
