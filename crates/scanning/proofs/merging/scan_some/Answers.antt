-- `scan_some` merges the candidates and the neighbours, a variable at a turn. Assumes nothing.
use mathlib.Core.Path.{refl, sym, ◌∙◌}
use Rattle.scanning.proofs.Merged.{merge_start, list_reads, above_reads, beside_reads, merge_done, merge_stop, merge_turn}
use Rattle.scanning.proofs.merging.scan_some.Goals as goal

pub loop-b-init : goal.loop-b-init
loop-b-init c =
    merge_start refl c.requires refl refl

pub next_candidate-listed-requires : goal.next_candidate-listed-requires
next_candidate-listed-requires c = let both = list_reads c.loop-b.invariant in
    record { at_le_end = both.0; end_in_bounds = both.1 }

pub next_place-above-requires : goal.next_place-above-requires
next_place-above-requires c = above_reads c.loop-b.invariant

pub next_place-beside-requires : goal.next_place-beside-requires
next_place-beside-requires c = beside_reads c.loop-b.invariant

pub shape_of-values-then-t-n : goal.shape_of-values-then-t-n
shape_of-values-then-t-n c =
    c.loop-b.invariant.does.kept.placed.values_long ∙ sym c.requires.placed.values_long

pub shape_of-u-then-t-n : goal.shape_of-u-then-t-n
shape_of-u-then-t-n c = c.loop-b.invariant.does.kept.words_long

pub returns-then-t-n : goal.returns-then-t-n
returns-then-t-n c =
    merge_stop c.loop-b.invariant c.loop-b-test.true c.next_candidate-listed.ensures c.next_place-above.ensures c.next_place-beside.ensures
    c.min.ensures c.min-t.ensures c.if-t-n.true

pub scan_at-tail-requires : goal.scan_at-tail-requires
scan_at-tail-requires c = record { placed = c.loop-b.invariant.does.kept.placed; i_bound = c.if-t-n.false }

pub loop-b-preserved : goal.loop-b-preserved
loop-b-preserved c =
    merge_turn c.loop-b.invariant c.loop-b-test.true c.next_candidate-listed.ensures c.next_place-above.ensures c.next_place-beside.ensures
    c.min.ensures c.min-t.ensures c.if-t-n.false c.scan_at-tail.ensures

pub shape_of-values : goal.shape_of-values
shape_of-values c =
    c.loop-b.invariant.does.kept.placed.values_long ∙ sym c.requires.placed.values_long

pub shape_of-u : goal.shape_of-u
shape_of-u c = c.loop-b.invariant.does.kept.words_long

pub returns : goal.returns
returns c = merge_done c.loop-b.invariant c.loop-b-test.false
