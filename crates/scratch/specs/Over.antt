-- A list laid over the front of another. Assumes nothing.
use Rattle.std.specs.Prelude.{List, ◌++◌, length, drop}

-- l, and behind it what s has there
unfoldable pub over : {A : Type 0} → List A → List A → List A
over l s = l ++ drop (length l) s
