-- `next_place` goes on until a place has the end and a large enough other end. Assumes nothing.
use native.Mathlib.Omega.{arith}
use Rattle.scanning.proofs.Search.{search_start, search_none, place_hit, place_miss}
use Rattle.scanning.proofs.merging.next_place.Goals as goal

pub loop-p-init : goal.loop-p-init
loop-p-init c = search_start c.requires.start

pub picks-requires : goal.picks-requires
picks-requires c =
    let h = c.requires.entry _ c.loop-p.invariant.from c.loop-p-test.true in
    record { k_in_bounds = omega (arith, h, c.entry_in-k.ensures); k_in_bounds_2 = omega (arith, h, c.entry_in-k.ensures, c.requires.same) }

pub offset_bounds-far-k : goal.offset_bounds-far-k
offset_bounds-far-k c =
    let h = c.requires.entry _ c.loop-p.invariant.from c.loop-p-test.true in
    omega (arith, h, c.entry_in-k.ensures, c.requires.same)

pub bounds-far-k : goal.bounds-far-k
bounds-far-k c =
    let h = c.requires.entry _ c.loop-p.invariant.from c.loop-p-test.true in
    omega (arith, h, c.entry_in-k.ensures, c.requires.same)

pub returns-then-picks : goal.returns-then-picks
returns-then-picks c =
    let a = c.args in
    place_hit a.near.now a.far.now a.u.now a.from a.i c.loop-p.invariant c.loop-p-test.true _ c.entry_in-k.ensures c.picks.ensures
    c.if-picks.true c.from.ensures

pub loop-p-preserved : goal.loop-p-preserved
loop-p-preserved c =
    let a = c.args in
    place_miss a.near.now a.far.now a.u.now a.from a.i c.loop-p.invariant c.loop-p-test.true _ c.entry_in-k.ensures
    c.picks.ensures c.if-picks.false

pub returns : goal.returns
returns c = search_none c.loop-p.invariant c.loop-p-test.false
