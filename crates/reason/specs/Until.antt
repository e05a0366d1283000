-- The run up to where a variable has its value, and what its bound rests on there. Assumes nothing.
use Rattle.std.specs.Prelude.{ℕ, zero, suc, cond, ◌&&◌, List, [], ltb, length, get_or}
use Rattle.field.specs.Field.{Field, variables}
use Rattle.rows.specs.Model.{row_of}
use Rattle.rows.specs.Stored.{up_to}
use Rattle.run.specs.Run.{Run, is_free, scan_to, serve}
use Rattle.run.specs.Rests.{rests}

-- a run, and how many of its queue have been served
pub record Stop : Type 0 where
  pub run : Run
  pub head : ℕ

-- the queue from position h on, while i is free, in that many turns at most
unfoldable pub until : Field → ℕ → Run → ℕ → ℕ → Stop
until F zero run h i = record { run = run; head = h }
until F (suc turns) run h i =
    cond (is_free run i && ltb h (length run.queue)) (until F turns (serve F run (get_or run.queue h 0)) (suc h) i) (record { run = run; head = h })

-- the scan from the start values
unfoldable pub scanned : Field → List ℕ → Run
scanned F s = scan_to (record { values = s; rows = up_to (row_of F s) (variables F); queue = [] }) (variables F)

-- the closure's run, up to where i has a value
unfoldable pub stop_of : Field → List ℕ → ℕ → Stop
stop_of F s i = until F (variables F) (scanned F s) 0 i

-- the start values, and the values of all that were served by then
unfoldable pub basis : Field → List ℕ → ℕ → List ℕ
basis F s i = rests s (stop_of F s i).run.values (stop_of F s i).run.queue (stop_of F s i).head
