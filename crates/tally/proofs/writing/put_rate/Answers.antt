-- `put_rate` writes a dash, or two numbers. Assumes nothing.
use native.Mathlib.Omega.{arith}
use Rattle.tally.proofs.Texts.{rate_none, rate_some, rate_short, rest_short, rate_few, rest_few}
use Rattle.tally.proofs.writing.put_rate.Goals as goal

pub returns-then-rest-eq0 : goal.returns-then-rest-eq0
returns-then-rest-eq0 c = record { wrote = rate_none _ _ c.if-rest-eq0.true c.put_bytes.ensures; upper_bound = omega (arith, c.put_bytes.ensures.next) }

pub put_decimal-first-requires : goal.put_decimal-first-requires
put_decimal-first-requires c = omega (arith, c.requires.at_in_bounds, rate_short _ (rate_few c.args.forced c.args.rest c.requires.forced_le_rest c.if-rest-eq0.false))

pub put_bytes-second-requires : goal.put_bytes-second-requires
put_bytes-second-requires c = omega (arith, c.requires.at_in_bounds, c.put_decimal-first.ensures.next, c.put_decimal-first.auto.out, rate_short _ (rate_few c.args.forced c.args.rest c.requires.forced_le_rest c.if-rest-eq0.false))

pub put_decimal-requires : goal.put_decimal-requires
put_decimal-requires c =
    let few = rate_short _ (rate_few c.args.forced c.args.rest c.requires.forced_le_rest c.if-rest-eq0.false) in
    let small = rest_few c.args.forced c.args.rest c.requires.rest_bound c.if-rest-eq0.false in
    omega (arith, c.requires.at_in_bounds, c.put_decimal-first.ensures.next, c.put_decimal-first.auto.out, c.put_bytes-second.ensures.next, c.put_bytes-second.auto.out, few, rest_short _ small)

pub returns : goal.returns
returns c =
    let few = rate_short _ (rate_few c.args.forced c.args.rest c.requires.forced_le_rest c.if-rest-eq0.false) in
    let small = rest_few c.args.forced c.args.rest c.requires.rest_bound c.if-rest-eq0.false in
    record { wrote = rate_some _ _ c.if-rest-eq0.false c.put_decimal-first.ensures c.put_bytes-second.ensures c.put_decimal.ensures; upper_bound = omega (arith, c.put_decimal-first.ensures.next, c.put_bytes-second.ensures.next, c.put_decimal.ensures.next, few, rest_short _ small) }
