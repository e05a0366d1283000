-- For any cut of the input into reads, the loop ends with the tally of the whole input. Assumes nothing.
use Prim.Native.Nat.{ℕ, suc}
use mathlib.Core.Path.{◌≡◌, refl, sym, ap, ◌∙◌}
use mathlib.Core.List.{List, [], ◌∷◌, ◌++◌, append-nil, append_assoc}
use Rattle.std.specs.declared.ops.ControlFlow.{ControlFlow}
use Rattle.std.specs.declared.ops.ControlFlow.TheVariants.{Continue, Break}
use Rattle.tally.specs.Tally.{none, tally, tally_on, tally_of}
use Rattle.tally.specs.declared.Reached.{Reached}
use Rattle.tally.specs.declared.Tally.{Tally}
use Rattle.tally.specs.declared.Totals.{Totals}
use Rattle.tally.specs.declared.Ending.TheVariants.{Whole}
use Rattle.tallying.specs.Reads.{Bytes, Loops, at_end, before_end, onward, joined}

abbrev tally_in : ControlFlow Tally Reached → Tally
tally_in (Continue r) = tally Whole r.totals
tally_in (Break y) = y

back_bytes : (x more : List ℕ) → Bytes (x ++ more) → Bytes more
back_bytes [] more h = h
back_bytes (b ∷ x) more h = back_bytes x more (λ i. h (suc i))

from : {most : ℕ} {t : Totals} {held : List ℕ} {xs : List (List ℕ)} {y : Tally} → Loops most t held xs y → Bytes (joined xs) → y ≡ tally_on most t (held ++ joined xs)
unfolding joined
from {most} {t} {held} (at_end turns) bytes = ap tally_in (turns.ends refl) ∙ ap (tally_on most t) (sym (append-nil held))
from {most} {t} {held} (before_end {x = x} {xs = xs} some turns) bytes =
    turns.keeps some (joined xs) (back_bytes x (joined xs) bytes) ∙ ap (tally_on most t) (append_assoc held x (joined xs))
from {most} {t} {held} (onward {x = x} {xs = xs} some turns rest) bytes =
    from rest (back_bytes x (joined xs) bytes)
    ∙ turns.keeps some (joined xs) (back_bytes x (joined xs) bytes)
    ∙ ap (tally_on most t) (append_assoc held x (joined xs))

-- Theorem. Any cut of the input into reads gives the tally of the whole input.
pub any_cut : (most : ℕ) (xs : List (List ℕ)) (y : Tally) → Bytes (joined xs) → Loops most none [] xs y → y ≡ tally_of most (joined xs)
unfolding tally_of
any_cut most xs y bytes loop = from loop bytes
