-- The small components enumerated one after another (rules 5.3 to 5.7). Assumes nothing.
use Rattle.std.specs.Prelude.{ℕ, true, cond, List, [], ◌∷◌, leb, length}
use Rattle.field.specs.Field.{Field}
use Rattle.parts.specs.Walk.{components}
use Rattle.enumeration.specs.Terms.{solved}

-- a component of at most 10 members gets values, a larger one is left
unfoldable pub solved_part : Field → List ℕ → List ℕ → List ℕ
solved_part F s members = cond (leb (length members) 10) (solved F s members) s

-- each at the values that those before it left
unfoldable pub solved_parts : Field → List ℕ → List (List ℕ) → List ℕ
solved_parts F s [] = s
solved_parts F s (members ∷ more) = solved_parts F (solved_part F s members) more

-- all components of free variables, found from each lowest start, where entries of weight 0 join (rules 5.1 and 5.2)
unfoldable pub small_parts : Field → List ℕ → List ℕ
small_parts F s = solved_parts F s (components F true s)
