-- `remember` makes the rows, copies them, and lists what a scan forces. Assumes nothing.
use mathlib.Core.Path.{refl}
use mathlib.Core.Logic.{inr}
use native.Mathlib.Omega.{arith}
use lib.Ieee.{nan}
use Rattle.workspace.proofs.Begun.{begin_rows, begin_placed, begin_undo, begin_list, begin_remembers}
use Rattle.workspace.proofs.remembering.remember.Goals as goal

pub fill-requires : goal.fill-requires
fill-requires c =
    let a = c.args in begin_rows a.f.now a.u.now c.requires.ready c.requires.values_value

pub copy_part-requires : goal.copy_part-requires
copy_part-requires c =
    let room = c.requires.ready.floats_room in
    let long = c.fill.ensures.long in
    record { order = inr (omega arith); from_room = omega (arith, room, long); to_room = omega (arith, room, long) }

pub scan-many-requires : goal.scan-many-requires
scan-many-requires c =
    let a = c.args in
    begin_placed a.f.now a.u.now c.requires.ready c.requires.values_value c.requires.adjacent c.fill.ensures (c.copy_part.ensures nan)

pub undo-requires : goal.undo-requires
undo-requires c =
    let a = c.args in
    begin_undo a.f.now a.u.now c.requires.ready c.requires.values_value c.requires.adjacent c.fill.ensures (c.copy_part.ensures nan) c.scan-many.ensures

pub copy_part-requires-2 : goal.copy_part-requires-2
copy_part-requires-2 c =
    let a = c.args in
    begin_list a.f.now a.u.now c.requires.ready c.requires.values_value c.requires.adjacent c.fill.ensures (c.copy_part.ensures nan) c.scan-many.ensures

pub returns : goal.returns
returns c =
    let a = c.args in
    record {
      values_value_2 = c.undo.ensures;
      remembers = begin_remembers a.f.now a.u.now c.requires.ready c.requires.values_value c.requires.adjacent c.fill.ensures
          (c.copy_part.ensures nan) c.scan-many.ensures (c.copy_part-2.ensures 0) refl c.requires.grade_value;
    }
