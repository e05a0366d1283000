-- `enter_at` forces what is given. Assumes nothing.
use Rattle.literals.proofs.Going.{enter_given}
use Rattle.literals.proofs.enter_at.Goals as goal

pub returns : goal.returns
returns c =
    let pre = c.requires in enter_given pre.entering pre.valid pre.i_in_bounds c.if-v-eq2.false c.force.ensures.u_value c.force.ensures.value
