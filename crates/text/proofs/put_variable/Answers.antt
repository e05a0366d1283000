-- `put_variable` writes a line where the variable is forced. Assumes nothing.
use Rattle.text.proofs.Writes.{not_free, still_free, is_forced_lem, shows_none, shows_one}
use Rattle.text.proofs.put_variable.Goals as goal

pub returns-then-start-i-ne2 : goal.returns-then-start-i-ne2
returns-then-start-i-ne2 c =
    let a = c.args in
    shows_none a.start.now a.values.now a.i (not_free a.start.now a.values.now a.i c.if-start-i-ne2.true)

pub returns-then-value-eq2 : goal.returns-then-value-eq2
returns-then-value-eq2 c =
    let a = c.args in
    shows_none a.start.now a.values.now a.i (still_free a.start.now a.values.now a.i c.if-start-i-ne2.false
    c.if-value-eq2.true)

pub returns : goal.returns
returns c =
    let a = c.args in
    shows_one a.start.now a.values.now a.i (is_forced_lem a.start.now a.values.now a.i c.if-start-i-ne2.false c.if-value-eq2.false)
    c.put_forced-at.ensures.wrote c.put_forced-at.ensures.upper_bound
