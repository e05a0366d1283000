-- `gives` tries both values of the other end. Assumes nothing.
use mathlib.Core.Path.{sym}
use Rattle.literals.specs.Ends.{gives}
use Rattle.literals.proofs.ends.gives.Goals as goal

pub returns-in-true-true : goal.returns-in-true-true
unfolding gives
returns-in-true-true c = rw (sym c.in-true-true.ensures, sym c.in-true-true.ensures')

pub returns-in-true-false : goal.returns-in-true-false
unfolding gives
returns-in-true-false c = rw (sym c.in-true-false.ensures, sym c.in-true-false.ensures')

pub returns-in-false-true : goal.returns-in-false-true
unfolding gives
returns-in-false-true c = rw (sym c.in-false-true.ensures, sym c.in-false-true.ensures')

pub returns-in-false-false : goal.returns-in-false-false
unfolding gives
returns-in-false-false c = rw (sym c.in-false-false.ensures, sym c.in-false-false.ensures')
