-- `judged` asks for above first, then for below. Assumes nothing.
use Rattle.margins.specs.Model.{sign_of}
use Rattle.margins.proofs.bounds.judged.Goals as goal

pub returns-then-low-t : goal.returns-then-low-t
unfolding sign_of
returns-then-low-t c = simp c.if-low-t.true

pub returns-then-high-t : goal.returns-then-high-t
unfolding sign_of
returns-then-high-t c = simp (c.if-low-t.false, c.if-high-t.true)

pub returns-else-high-t : goal.returns-else-high-t
unfolding sign_of
returns-else-high-t c = simp (c.if-low-t.false, c.if-high-t.false)
