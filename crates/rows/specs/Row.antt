-- What each operation on a row of the gradient gives (rules 4.2 to 4.6). Assumes nothing.
use Rattle.std.specs.Prelude.{ℕ, Bool, true, false, cond, ◌&&◌, eqb, pos, Float}
use Rattle.std.specs.Float.{binary64}
use Rattle.std.specs.Float.Ieee.{add, sub, mul, le, lt, eq, of_int}
use Rattle.weights.specs.Worth.{zero64}
use Rattle.rows.specs.declared.Row.{Row}
use Rattle.rows.specs.declared.Verdict.{Verdict}
use Rattle.rows.specs.declared.Verdict.TheVariants.{Zero, One, Flat, Open}
use Rattle.rows.specs.declared.Conclusion.{Conclusion}

-- a row starts with both bounds at c
abbrev pub start_row : Float → Row
start_row c = record { lower = c; upper = c }

-- the term of a free end goes to the lower bound where the coefficient is at most 0, and to the upper where it is at least 0
abbrev pub add_free : Row → Float → Row
add_free r a = record {
  lower = cond (le a zero64) (add binary64 r.lower a) r.lower;
  upper = cond (le zero64 a) (add binary64 r.upper a) r.upper;
}

-- A free end is removed from the bounds to which it was added.
abbrev pub remove_free : Row → Float → Row
remove_free r a = record {
  lower = cond (le a zero64) (sub binary64 r.lower a) r.lower;
  upper = cond (le zero64 a) (sub binary64 r.upper a) r.upper;
}

-- the term of a fixed end, coefficient times value, goes to both
abbrev pub add_fixed : Row → Float → ℕ → Row
add_fixed r a v = record {
  lower = add binary64 r.lower (mul binary64 a (of_int binary64 (pos v)));
  upper = add binary64 r.upper (mul binary64 a (of_int binary64 (pos v)));
}

-- A fixed end is removed: coefficient times value from both bounds.
abbrev pub remove_fixed : Row → Float → ℕ → Row
remove_fixed r a v = record {
  lower = sub binary64 r.lower (mul binary64 a (of_int binary64 (pos v)));
  upper = sub binary64 r.upper (mul binary64 a (of_int binary64 (pos v)));
}

-- the term of an end with the byte v, where 2 is free
unfoldable pub add_term : Row → Float → ℕ → Row
add_term r a v = cond (eqb v 2) (add_free r a) (add_fixed r a v)

-- The term of an end with the byte v taken out, where 2 is free.
unfoldable pub remove_term : Row → Float → ℕ → Row
remove_term r a v = cond (eqb v 2) (remove_free r a) (remove_fixed r a v)

-- both bounds are 0, of either sign
abbrev pub both_zero : Row → Bool
both_zero r = eq r.lower zero64 && eq r.upper zero64

-- zero where the lower bound is above 0, else one where the upper is below 0, each with its bound; else flat where both are 0, and else open (rule 4.4)
abbrev pub judge_of : Row → Verdict
judge_of r = cond (lt zero64 r.lower) (Zero r.lower) (cond (lt r.upper zero64) (One r.upper) (cond (both_zero r) Flat Open))

-- a variable together with the verdict on its row
abbrev pub conclude_of : Row → ℕ → Conclusion
conclude_of r i = record { variable = i; verdict = judge_of r }

-- the value that a verdict forces, or 2
unfoldable pub value_of : Verdict → ℕ
value_of (Zero b) = 0
value_of (One b) = 1
value_of Flat = 2
value_of Open = 2

-- whether a verdict forces a value
abbrev pub is_forced : Verdict → Bool
is_forced (Zero b) = true
is_forced (One b) = true
is_forced Flat = false
is_forced Open = false

-- a row is strict where its verdict forces a value
abbrev pub is_strict : Row → Bool
is_strict r = is_forced (judge_of r)

-- whether a verdict is flat
abbrev pub is_flat : Verdict → Bool
is_flat (Zero b) = false
is_flat (One b) = false
is_flat Flat = true
is_flat Open = false
