-- `put_at` passes over a variable with a mark or a weight, and puts any other in. Assumes nothing.
use Rattle.no_effect.proofs.Chosen.{passed_over, goes_in, counted_only, marked_not, weighs_not, is_idle}
use Rattle.no_effect.proofs.putting.put_at.Goals as goal
use Rattle.no_effect.proofs.putting.put_at.Goals.{then-u-i-ne0-via-then-u-i-ne0, then-u-i-ne0-via-else-u-i-ne0+then-c-i, then-count-list, else-count-list}

pub returns-then-u-i-ne0 : goal.returns-then-u-i-ne0
returns-then-u-i-ne0 c =
    let a = c.args in
    passed_over a.i a.list.now a.count (elim c.then-u-i-ne0.branch [
      | then-u-i-ne0-via-then-u-i-ne0 w ↦ marked_not a.c.now a.u.now a.i w.if-u-i-ne0.true
      | then-u-i-ne0-via-else-u-i-ne0+then-c-i w ↦ weighs_not a.c.now a.u.now a.i w.if-u-i-ne0.false w.if-c-i.true
    ])

pub returns : goal.returns
returns c =
    let a = c.args in
    let idle = is_idle a.c.now a.u.now a.i c.if-u-i-ne0.false c.if-c-i.false in
    elim c.if-count-list.branch [
      | then-count-list w ↦ rw w.list-is (goes_in a.i a.list.now a.count idle)
      | else-count-list w ↦ rw w.list-is (counted_only a.i a.list.now a.count w.if-count-list.false idle)
    ]
