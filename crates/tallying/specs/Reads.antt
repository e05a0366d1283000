-- What the loop over an input does that is read in parts into a bounded buffer: one read, and all reads (rule 20.10). Assumes nothing.
use Rattle.std.specs.Prelude.{ℕ, ◌+◌, ◌-◌, ◌*◌, ◌^◌, ◌<◌, ◌≡◌, List, [], ◌∷◌, ◌++◌, length, get_or, take}
use Rattle.std.specs.declared.ops.ControlFlow.{ControlFlow}
use Rattle.std.specs.declared.ops.ControlFlow.TheVariants.{Continue, Break}
use Rattle.tally.specs.Tally.{tally_on, Small}
use Rattle.tally.specs.declared.Reached.{Reached}
use Rattle.tally.specs.declared.Tally.{Tally}
use Rattle.tally.specs.declared.Totals.{Totals}

-- Every element is a byte.
abbrev pub Bytes : List ℕ → Type 0
Bytes s = (i : ℕ) → get_or s i 0 < 256

-- ---- one read

-- the tally that is to come where more bytes follow: of those that are held and of these, or the one that is there
abbrev pub to_come : ℕ → ControlFlow Tally Reached → List ℕ → List ℕ → Tally
to_come most (Continue r) buffer more = tally_on most r.totals (take r.at buffer ++ more)
to_come most (Break y) buffer more = y

-- The tally as the end of a turn.
abbrev pub over_of : Tally → ControlFlow Tally Reached
over_of y = Break y

-- a read of x behind the bytes that are held: whatever follows, the tally to come is what it was; a read of none is the end of the input
pub record Turns (most : ℕ) (t : Totals) (held x : List ℕ) (r : ControlFlow Tally Reached) (buffer : List ℕ) : Type 0 where
  pub keeps : 0 < length x → (more : List ℕ) → Bytes more → to_come most r buffer more ≡ tally_on most t ((held ++ x) ++ more)
  pub ends : length x ≡ 0 → r ≡ over_of (tally_on most t held)

-- ---- all reads

-- the loop from some totals and bytes that are held: over reads of some bytes each, and at last one of none, it ends with a tally
pub data Loops (most : ℕ) : Totals → List ℕ → List (List ℕ) → Tally → Type 0 where
  at_end : {t : Totals} {held buffer : List ℕ} {y : Tally} → Turns most t held [] (Break y) buffer → Loops most t held [] y
  before_end : {t : Totals} {held x buffer : List ℕ} {xs : List (List ℕ)} {y : Tally} → 0 < length x → Turns most t held x (Break y) buffer
      → Loops most t held (x ∷ xs) y
  onward : {t : Totals} {held x buffer : List ℕ} {xs : List (List ℕ)} {r : Reached} {y : Tally} → 0 < length x → Turns most t held x (Continue r) buffer
      → Loops most r.totals (take r.at buffer) xs y → Loops most t held (x ∷ xs) y

-- the bytes of all reads
unfoldable pub joined : List (List ℕ) → List ℕ
joined [] = []
joined (x ∷ xs) = x ++ joined xs

-- ---- that it ends

-- the fields that are counted
abbrev pub fields_of : Totals → ℕ
fields_of t = t.read + t.refused

-- how far the loop is from its end: 2^54 fields at most, and the room that is left
abbrev pub to_go : ℕ → Totals → ℕ → ℕ
to_go room t held = (2 * 2 ^ 53 + 1 - fields_of t) * (room + 1) + (room - held)

-- where the loop goes on, there is room for a byte, so that a read of none is the end of the input, and it is nearer to its end
pub record Nearer (room : ℕ) (t : Totals) (held : ℕ) (t' : Totals) (k : ℕ) : Type 0 where
  pub small : Small t'
  pub inside : k < room
  pub less : to_go room t' k < to_go room t held

-- After a turn: nearer to the end where the loop goes on, and small totals where it is over.
abbrev pub Goes : ℕ → Totals → ℕ → ControlFlow Tally Reached → Type 0
Goes room t held (Continue r) = Nearer room t held r.totals r.at
Goes room t held (Break y) = Small y.totals
