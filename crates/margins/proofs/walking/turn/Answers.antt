-- `turn` takes the lower of the two keys. Assumes nothing.
use Rattle.margins.proofs.MergeLaws.{right_live, turn_i, turn_j, turn_both, turn_i_alone, turn_j_alone}
use mathlib.Core.Path.{refl}
use native.Mathlib.Omega.{arith}
use Rattle.margins.proofs.walking.turn.Goals as goal

pub returns-then-ki-kj : goal.returns-then-ki-kj
returns-then-ki-kj c =
    turn_i _ _ _ _ _ c.if-left-ea.true c.if-right-eb.true refl refl c.if-ki-kj.true c.met-bounds.ensures

pub returns-then-kj-ki : goal.returns-then-kj-ki
returns-then-kj-ki c =
    turn_j _ _ _ _ _ c.if-left-ea.true c.if-right-eb.true refl refl c.if-kj-ki.true c.met-bounds-then-kj-ki.ensures

pub returns-then-right-eb : goal.returns-then-right-eb
returns-then-right-eb c =
    turn_both _ _ _ _ _ c.if-left-ea.true c.if-right-eb.true refl refl c.if-ki-kj.false c.if-kj-ki.false
    c.met-bounds-then-right-eb.ensures

pub returns-then-left-ea : goal.returns-then-left-ea
returns-then-left-ea c = turn_i_alone _ _ _ _ c.if-left-ea.true c.if-right-eb.false refl c.met-bounds-then-left-ea.ensures

pub offset_bounds-keys-right-2 : goal.offset_bounds-keys-right-2
offset_bounds-keys-right-2 c = omega (arith, right_live _ _ _ _ c.requires.w_value c.if-left-ea.false, c.requires.fit)

pub bounds-keys-right-2 : goal.bounds-keys-right-2
bounds-keys-right-2 c = omega (arith, right_live _ _ _ _ c.requires.w_value c.if-left-ea.false, c.requires.fit)

pub offset_bounds-weights-right-2 : goal.offset_bounds-weights-right-2
offset_bounds-weights-right-2 c = omega (arith, right_live _ _ _ _ c.requires.w_value c.if-left-ea.false, c.requires.fit)

pub bounds-weights-right-2 : goal.bounds-weights-right-2
bounds-weights-right-2 c =
    omega (arith, right_live _ _ _ _ c.requires.w_value c.if-left-ea.false, c.requires.fit)

pub overflow_add-result-2 : goal.overflow_add-result-2
overflow_add-result-2 c =
    omega (arith, right_live _ _ _ _ c.requires.w_value c.if-left-ea.false, c.requires.fit)

pub returns : goal.returns
returns c = turn_j_alone _ _ _ _ c.if-left-ea.false refl c.met-bounds-2.ensures
