-- `gather_at` puts an entry where its ends say. Assumes nothing.
use native.Mathlib.Omega.{arith}
use Rattle.sub_problem.proofs.GatherLoops.{both_free, row_free, column_free, none_free, row_inside, column_inside}
use Rattle.sub_problem.proofs.gathering.gather_at.Goals as goal

pub bounds-start-i : goal.bounds-start-i
bounds-start-i c =
    omega (arith, row_inside c.requires.usable c.args.k c.requires.k_bound c.from-i.ensures, c.requires.usable.start.long)

pub bounds-start-j : goal.bounds-start-j
bounds-start-j c =
    omega (arith, column_inside c.requires.usable c.args.k c.requires.k_bound c.from-j.ensures, c.requires.usable.start.long)

pub returns-then-b-eq2 : goal.returns-then-b-eq2
returns-then-b-eq2 c =
    both_free _ _ _ _ _ c.from-i.ensures c.from-j.ensures c.half-half.ensures c.if-a-eq2.true c.if-b-eq2.true

pub offset_bounds-f-i : goal.offset_bounds-f-i
offset_bounds-f-i c =
    omega (arith, row_inside c.requires.usable c.args.k c.requires.k_bound c.from-i.ensures)

pub bounds-f-i : goal.bounds-f-i
bounds-f-i c =
    omega (arith, row_inside c.requires.usable c.args.k c.requires.k_bound c.from-i.ensures, c.requires.q_in_bounds)

pub offset_bounds-f-i-then-a-eq2 : goal.offset_bounds-f-i-then-a-eq2
offset_bounds-f-i-then-a-eq2 c =
    omega (arith, row_inside c.requires.usable c.args.k c.requires.k_bound c.from-i.ensures)

pub bounds-f-i-then-a-eq2 : goal.bounds-f-i-then-a-eq2
bounds-f-i-then-a-eq2 c =
    omega (arith, row_inside c.requires.usable c.args.k c.requires.k_bound c.from-i.ensures, c.requires.q_in_bounds)

pub returns-then-a-eq2 : goal.returns-then-a-eq2
returns-then-a-eq2 c =
    row_free _ _ _ _ _ c.from-i.ensures c.from-j.ensures c.half-half.ensures c.if-a-eq2.true
    c.if-b-eq2.false

pub offset_bounds-f-j : goal.offset_bounds-f-j
offset_bounds-f-j c =
    omega (arith, column_inside c.requires.usable c.args.k c.requires.k_bound c.from-j.ensures)

pub bounds-f-j : goal.bounds-f-j
bounds-f-j c =
    omega (arith, column_inside c.requires.usable c.args.k c.requires.k_bound c.from-j.ensures, c.requires.q_in_bounds)

pub offset_bounds-f-j-then-b-eq2-2 : goal.offset_bounds-f-j-then-b-eq2-2
offset_bounds-f-j-then-b-eq2-2 c =
    omega (arith, column_inside c.requires.usable c.args.k c.requires.k_bound c.from-j.ensures)

pub bounds-f-j-then-b-eq2-2 : goal.bounds-f-j-then-b-eq2-2
bounds-f-j-then-b-eq2-2 c =
    omega (arith, column_inside c.requires.usable c.args.k c.requires.k_bound c.from-j.ensures, c.requires.q_in_bounds)

pub returns-then-b-eq2-2 : goal.returns-then-b-eq2-2
returns-then-b-eq2-2 c =
    column_free _ _ _ _ _ c.from-i.ensures c.from-j.ensures c.half-half.ensures c.if-a-eq2.false
    c.if-b-eq2-2.true

pub returns : goal.returns
returns c =
    none_free _ _ _ _ _ c.from-i.ensures c.from-j.ensures c.half-half.ensures c.if-a-eq2.false
    c.if-b-eq2-2.false
