-- `work` builds the places, opens every variable, and searches from each start. Assumes nothing.
use native.Mathlib.Omega.{arith}
use Rattle.parts.proofs.Calls.{begun_placed}
use Rattle.anchors.proofs.work.Goals as goal

pub search-requires : goal.search-requires
search-requires c =
    let admitted = c.requires.admitted in
    let built = c.build.ensures in
    let begun = c.begin.ensures in
    record {
      standing = record {
        placed = begun_placed admitted.shaped built.adjacent (omega (arith, admitted.words_room, admitted.shaped.rows_long, built.long)) begun;
        start_long = admitted.start.long;
        floats_room = omega (arith, admitted.floats_room);
      };
      u_value = begun.marks;
      grade_value = c.requires.grade_value;
    }
