-- The fast route, by a definition of its own, and what it is that two routes agree. Assumes nothing.
use Rattle.std.specs.Prelude.{ℕ, ◌<◌, ◌≡◌, List, get_or}
use Rattle.field.specs.Field.{Field, variables, Shaped, StartFor}
use Rattle.probing.specs.Remembered.{probe_run}
use Rattle.probe.specs.Call.{Route, cold}

-- the rows remembered from the start values, those of the probed variable's neighbours renewed, and the run from there
abbrev pub fast : Route
fast F s i v = (probe_run F s i v).values

-- a route leaves what the cold one leaves, wherever a free variable is probed at 0 or 1
abbrev pub Agrees : Route → Type 0
Agrees R = (F : Field) → Shaped F → (s : List ℕ) → StartFor (variables F) s → (i v : ℕ) → get_or s i 0 ≡ 2 → v < 2 → R F s i v ≡ cold F s i v
