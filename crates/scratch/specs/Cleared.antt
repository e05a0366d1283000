-- A list whose every element is one value. Assumes nothing.
use Rattle.std.specs.Prelude.{List, length, replicate}

-- as long as s, and z everywhere
abbrev pub cleared : {A : Type 0} → A → List A → List A
cleared z s = replicate (length s) z
