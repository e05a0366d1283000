-- What `parse` answers and leaves in the lent lists, and the steps of its loop. Assumes nothing.
use Rattle.std.specs.Prelude.{ℕ, ◌+◌, ◌≤◌, ◌≡◌, Bool, true, false, cond, Option, Some, None, List, length, set, Float}
use Rattle.scratch.specs.Over.{over}
use Rattle.records.specs.Told.{Told, may_declare, may_enter, may_give, parsed}
use Rattle.records.specs.declared.Record.{Record}
use Rattle.records.specs.declared.Record.TheVariants.{Weight, Entry, Given, End, Malformed}
use Rattle.records.specs.declared.parsing.Lists.{Lists}
use Rattle.records.specs.declared.parsing.Parsed.{Parsed}
use Rattle.records.specs.declared.parsing.Tally.{Tally}
use Rattle.std.specs.declared.ops.ControlFlow.{ControlFlow}
use Rattle.std.specs.declared.ops.ControlFlow.TheVariants.{Continue, Break}

-- ---- the call

-- A field at the front of an input, made of how many variables and entries it has and the index behind it.
abbrev pub front : ℕ → ℕ → ℕ → Parsed
front n m end = record { variables = n; entries = m; end = end }

-- The answer of `parse`: how many variables and entries are told and the index behind the field, or that the input is refused.
abbrev pub answer_of : Bool → Told → ℕ → Option Parsed
answer_of true t end = Some (front (length t.linear) (length t.quad) end)
answer_of false t end = None

-- Five lists in one record: the field's four and the start values.
abbrev pub lists_of : List Float → List ℕ → List ℕ → List Float → List ℕ → Told
lists_of c rows cols q start = record { linear = c; rows = rows; cols = cols; quad = q; start = start }

-- What five lent lists hold, in one record.
abbrev pub told_by : Lists → Told
told_by l = lists_of l.c.now l.rows.now l.cols.now l.q.now l.start.now

-- The same five lists are lent, whatever they hold.
pub record SameLent (l l' : Lists) : Type 0 where
  pub linear : l'.c.ghost_name ≡ l.c.ghost_name
  pub rows : l'.rows.ghost_name ≡ l.rows.ghost_name
  pub cols : l'.cols.ghost_name ≡ l.cols.ghost_name
  pub quad : l'.q.ghost_name ≡ l.q.ghost_name
  pub start : l'.start.ghost_name ≡ l.start.ghost_name

-- what is told lies at the front of each list, and the rest is as it was
abbrev pub laid : Told → Told → Told
laid t p =
    lists_of (over t.linear p.linear) (over t.rows p.rows) (over t.cols p.cols) (over t.quad p.quad) (over t.start p.start)

-- room for 256 variables and 1,024 entries
pub record Room (p : Told) : Type 0 where
  pub linear : 256 ≤ length p.linear
  pub rows : 1024 ≤ length p.rows
  pub cols : 1024 ≤ length p.cols
  pub quad : 1024 ≤ length p.quad
  pub start : 256 ≤ length p.start

-- the answer, and the lists afterwards: on a fault they hold what the records before it told
pub record Parses (s : List ℕ) (p : Told) (r : Option Parsed) (p' : Told) : Type 0 where
  pub answer : r ≡ answer_of (parsed s).whole (parsed s).told (parsed s).end
  pub lists : p' ≡ laid (parsed s).told p

-- ---- a step

-- Where the reading stands, made of the index of the next record and how many variables and entries are told.
abbrev pub tally : ℕ → ℕ → ℕ → Tally
tally at n m = record { at = at; variables = n; entries = m }

-- x at index i, if the test holds
abbrev pub stored : {A : Type 0} → Bool → ℕ → A → List A → List A
stored b i x l = cond b (set l i x) l

-- What follows a record: reading goes on with this tally where it is allowed, and stops where it is not.
abbrev pub go_on : Bool → Tally → ControlFlow (Option Parsed) Tally
go_on b t = cond b (Continue t) (Break None)

-- What one step leaves: whether reading goes on, and the five lent lists.
pub record Noted : Type 0 where
  pub turn : ControlFlow (Option Parsed) Tally
  pub lists : Told

-- The result of a step, made of whether reading goes on and of the five lists.
abbrev pub noted : ControlFlow (Option Parsed) Tally → Told → Noted
noted r p = record { turn = r; lists = p }

-- One record noted: its numbers go into the lists where they are allowed, and the tally follows.
unfoldable pub note : Record → Tally → Told → Noted
note (Weight x next) t p =
    let b = may_declare t.variables in
    noted (go_on b (tally next.at (t.variables + 1) t.entries))
    (lists_of (stored b t.variables x p.linear) p.rows p.cols p.quad (stored b t.variables 2 p.start))
note (Entry row col x next) t p =
    let b = may_enter t.entries in
    noted (go_on b (tally next.at t.variables (t.entries + 1)))
    (lists_of p.linear (stored b t.entries row p.rows) (stored b t.entries col p.cols) (stored b t.entries x p.quad) p.start)
note (Given v value next) t p =
    let b = may_give v value t.variables p.start in
    noted (go_on b (tally next.at t.variables t.entries)) (lists_of p.linear p.rows p.cols p.quad (stored b v value p.start))
note (End next) t p = noted (Break (Some (front t.variables t.entries next.at))) p
note Malformed t p = noted (Break None) p
