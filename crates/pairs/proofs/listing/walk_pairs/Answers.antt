-- `walk_pairs` examines one pair a turn. Assumes nothing.
use mathlib.Core.Path.{sym, ◌∙◌, refl}
use native.Mathlib.Omega.{arith}
use Rattle.pairs.proofs.FreeLaws.{free_is, free_in}
use Rattle.pairs.proofs.WalkLaws.{walking_start, walking_few, walking_reads, left_pairs, walking_turn, walking_done}
use Rattle.pairs.proofs.listing.walk_pairs.Goals as goal

pub loop-x-init : goal.loop-x-init
loop-x-init c = walking_start _ _ _ _

pub overflow_add-i : goal.overflow_add-i
overflow_add-i c =
    let v = c.loop-x.invariant in
    let t = sym c.is_left.ensures ∙ c.loop-x-test.true in
    omega (arith, walking_reads v c.requires.freed.many t, c.requires.values_in_bounds, c.requires.prepared.laid.values.long, c.requires.prepared.laid.shaped.few_variables)

pub offset_bounds-u-base : goal.offset_bounds-u-base
offset_bounds-u-base c =
    let v = c.loop-x.invariant in
    let t = sym c.is_left.ensures ∙ c.loop-x-test.true in
    omega (arith, walking_reads v c.requires.freed.many t, c.requires.values_in_bounds)

pub bounds-u-base : goal.bounds-u-base
bounds-u-base c =
    let v = c.loop-x.invariant in
    let t = sym c.is_left.ensures ∙ c.loop-x-test.true in
    omega (arith, walking_reads v c.requires.freed.many t, c.requires.values_in_bounds)

pub overflow_add-j : goal.overflow_add-j
overflow_add-j c =
    let v = c.loop-x.invariant in
    let t = sym c.is_left.ensures ∙ c.loop-x-test.true in
    omega (arith, walking_reads v c.requires.freed.many t, c.requires.values_in_bounds)

pub offset_bounds-u-base-in-loop-x : goal.offset_bounds-u-base-in-loop-x
offset_bounds-u-base-in-loop-x c =
    let v = c.loop-x.invariant in
    let t = sym c.is_left.ensures ∙ c.loop-x-test.true in
    omega (arith, walking_reads v c.requires.freed.many t, c.requires.values_in_bounds)

pub bounds-u-base-in-loop-x : goal.bounds-u-base-in-loop-x
bounds-u-base-in-loop-x c =
    let v = c.loop-x.invariant in
    let t = sym c.is_left.ensures ∙ c.loop-x-test.true in
    omega (arith, walking_reads v c.requires.freed.many t, c.requires.values_in_bounds)

pub append_pair-items-requires : goal.append_pair-items-requires
append_pair-items-requires c =
    let v = c.loop-x.invariant in
    let t = sym c.is_left.ensures ∙ c.loop-x-test.true in
    let r = walking_reads v c.requires.freed.many t in
    let a = free_in c.requires.freed r.0 refl in
    let b = free_in c.requires.freed r.1.0 refl in
    record {
      prepared = c.requires.prepared;
      i_bound = (omega (arith, a.0, c.requires.prepared.laid.values.long), omega (arith, b.0, c.requires.prepared.laid.values.long));
      i_value = (a.1, b.1);
      at_bound = omega (
        arith,
        walking_few v,
        left_pairs v c.requires.freed.many t,
        c.capped-most.ensures,
      );
    }

pub after-x-requires : goal.after-x-requires
after-x-requires c =
    let v = c.loop-x.invariant in
    let t = sym c.is_left.ensures ∙ c.loop-x-test.true in
    let r = walking_reads v c.requires.freed.many t in
    record { k_bound = (omega (arith, r.1.1, c.requires.prepared.laid.values.long, c.requires.prepared.laid.shaped.few_variables), v.order); second_lt_k = r.1.0 }

pub loop-x-smaller : goal.loop-x-smaller
loop-x-smaller c =
    let v = c.loop-x.invariant in
    let t = sym c.is_left.ensures ∙ c.loop-x-test.true in
    omega (arith, left_pairs v c.requires.freed.many t)

pub loop-x-preserved : goal.loop-x-preserved
loop-x-preserved c =
    let v = c.loop-x.invariant in
    let t = sym c.is_left.ensures ∙ c.loop-x-test.true in
    walking_turn v c.requires.freed.many t (free_is c.requires.freed (walking_reads v c.requires.freed.many t).0 refl) (free_is c.requires.freed
    (walking_reads v c.requires.freed.many t).1.0 refl) c.append_pair-items.ensures c.after-x.ensures

pub returns : goal.returns
returns c =
    walking_done c.loop-x.invariant c.requires.freed.many c.capped-most.ensures (sym c.is_left.ensures ∙ c.loop-x-test.false)
