-- The answer of an exported call is the one of its model, and has room in its number where that one has. Assumes nothing.
use Prim.Native.Nat.{◌<◌}
use mathlib.Core.Path.{◌≡◌, ap, ◌∙◌}
use Rattle.field.specs.Answers.{Answer}
use Rattle.calls.specs.Call as any
use Rattle.packing.specs.declared.findings.Parts.{Parts}
use Rattle.packing.specs.Layout.{count_in, Fits}
use Rattle.packing.proofs.Reading.{one_fits}

module _ {A L : Type 0} {a : Answer A} {l : L} {x : any.Left (Answer A) L} (e : any.left a l ≡ x) where
  pub answer_from : a ≡ x.answer
  answer_from = ap (λ (z : any.Left (Answer A) L). z.answer) e

  -- what is given beside the number is that of the model's answer
  pub beside : {B C : Type 0} (after : Answer A → B → C) {b : B} {y : C} → y ≡ after a b → y ≡ after x.answer b
  beside after {b} p = p ∙ ap (λ (z : Answer A). after z b) answer_from

  module _ {parts : A → Parts} where
    -- both counts have room
    pub both_room : Fits parts x.answer → Fits parts a
    both_room few = rw answer_from few

    -- where only one count is found, it is enough that this one has room
    pub one_room : ((y : A) → (parts y).more ≡ 0) → count_in parts x.answer < 0x1000_0000 → Fits parts a
    one_room none few = both_room (one_fits parts none x.answer few)
