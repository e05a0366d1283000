-- `bar_all` goes over the records. Assumes nothing.
use Prim.Native.Nat.{◌<◌}
use mathlib.Core.Path.{ap}
use native.Mathlib.Omega.{arith}
use Rattle.meaning.specs.Records.{Record}
use Rattle.constraints.specs.Record.{room}
use Rattle.constraints.proofs.Records.{chunk_record}
use Rattle.arrows.proofs.Marks.{marking_start, marking_turn, marking_done}
use Rattle.arrows.proofs.bar_all.Goals as goal

pub loop-record-init : goal.loop-record-init
loop-record-init c = marking_start _ _

pub bar_set-requires : goal.bar_set-requires
bar_set-requires c =
    let at = c.loop-record.record-index in
    let here : at < room c.args.list.now = omega (arith, c.as_chunks.ensures.front_len, c.loop-record-test.true) in
    let same = chunk_record c.args.list.now at c.as_chunks.ensures.front here c.from-i.ensures c.from-j.ensures c.from-set.ensures in
    let lower = ap (λ (x : Record). x.lower) same in
    let higher = ap (λ (x : Record). x.higher) same in
    let f = c.requires.listed.fit at here in
    let rising = f.rising in
    let below = f.below in
    let wide = c.requires.wide in
    let long = c.loop-record.invariant.marked.long in
    record { first = omega arith; second = omega arith; first_room = omega arith; second_room = omega arith }

pub loop-record-preserved : goal.loop-record-preserved
loop-record-preserved c =
    let at = c.loop-record.record-index in
    let here : at < room c.args.list.now = omega (arith, c.as_chunks.ensures.front_len, c.loop-record-test.true) in
    let same = chunk_record c.args.list.now at c.as_chunks.ensures.front here c.from-i.ensures c.from-j.ensures c.from-set.ensures in
    marking_turn _ _ _ here c.loop-record.invariant
    (ap (λ (x : Record). x.lower) same) (ap (λ (x : Record). x.higher) same) (ap (λ (x : Record). x.set) same) c.bar_set.ensures

pub returns : goal.returns
returns c = marking_done (omega (arith, c.as_chunks.ensures.front_len, c.loop-record-test.false)) c.loop-record.invariant
