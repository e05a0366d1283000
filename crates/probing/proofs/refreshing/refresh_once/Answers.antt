-- `refresh_once` makes the row at a place afresh, or leaves it to the entry with i as its row that leads there too. Assumes nothing.
use mathlib.Core.Path.{refl}
use mathlib.Core.Logic.{inl, inr}
use Rattle.run.proofs.Cells.{does_same}
use Rattle.probing.proofs.Refreshed.{cursor_reads, cursor_goes, paired}
use Rattle.probing.proofs.refreshing.refresh_once.Goals as goal

pub refresh_at-requires : goal.refresh_at-requires
refresh_at-requires c = record { placed = c.requires.placed; standard = c.requires.standard; k_bound = c.requires.k_bound }

pub returns-then-t-i : goal.returns-then-t-i
returns-then-t-i c = record { within_2 = c.requires.within; once = inl c.refresh_at.ensures }

pub next_place-twin-requires : goal.next_place-twin-requires
next_place-twin-requires c =
    cursor_reads c.requires.placed c.requires.within

pub returns-then-twin-t : goal.returns-then-twin-t
returns-then-twin-t c = record {
  within_2 = cursor_goes c.requires.placed c.requires.within c.next_place-twin.ensures;
  once = inr (
    does_same c.requires.placed refl,
    paired c.requires.placed c.requires.within c.next_place-twin.ensures c.requires.k_bound c.from-t.ensures c.if-t-i.false c.if-twin-t.true,
  );
}

pub refresh_at-requires-2 : goal.refresh_at-requires-2
refresh_at-requires-2 c = record { placed = c.requires.placed; standard = c.requires.standard; k_bound = c.requires.k_bound }

pub returns : goal.returns
returns c = record { within_2 = cursor_goes c.requires.placed c.requires.within c.next_place-twin.ensures; once = inl c.refresh_at-2.ensures }
