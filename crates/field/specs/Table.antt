-- A table of tests, each with the refusal that its failure gives: the first that fails decides. Assumes nothing.
use Rattle.std.specs.Prelude.{◌≡◌, Bool, true, false, List, [], ◌∷◌, Err}
use Rattle.field.specs.declared.Refusal.{Refusal}
use Rattle.field.specs.Answers.{Answer, passed}

-- One line of the table: whether the test passes, and the refusal that is given where it does not.
pub record Test : Type 0 where
  pub refusal : Refusal
  pub passes : Bool

-- A line of the table made of its refusal and of whether its test passes.
abbrev pub test : Refusal → Bool → Test
test r b = record { refusal = r; passes = b }

-- What the rest of the table says where the test passes, and its refusal where it fails.
abbrev pub unless : Bool → Refusal → Answer Unit → Answer Unit
unless true r rest = rest
unless false r rest = Err r

-- What a table of tests says: the refusal of the first that fails, or that all passed.
unfoldable pub tested : List Test → Answer Unit
tested [] = passed
tested (t ∷ ts) = unless t.passes t.refusal (tested ts)

-- The tests of the table before one pass, that one fails, and r is its refusal.
pub data FirstToFail : List Test → Refusal → Type 0 where
  fails : {t : Test} {ts : List Test} → t.passes ≡ false → FirstToFail (t ∷ ts) t.refusal
  passes : {t : Test} {ts : List Test} {r : Refusal} → t.passes ≡ true → FirstToFail ts r → FirstToFail (t ∷ ts) r

-- Every test of the table passes, so that the call gives none of its refusals.
pub data AllPass : List Test → Type 0 where
  none : AllPass []
  more : {t : Test} {ts : List Test} → t.passes ≡ true → AllPass ts → AllPass (t ∷ ts)
