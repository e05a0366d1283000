-- `put_decimal` writes the digits before the last, and then the last.
use Rattle.std.proofs.Common.{◌≤◌, length, ap, arith}
use Rattle.text.proofs.Writes.{decimal_one, number_one, number_more, number_room}
use Rattle.text.proofs.+put_decimal.Goals as goal

pub put-requires : goal.put-requires
put-requires t c = omega (arith, ap length (decimal_one c.args.n c.if-n-lt10.true))

pub returns-then-n-lt10 : goal.returns-then-n-lt10
returns-then-n-lt10 t c = number_one c.if-n-lt10.true c.digit.ensures c.put.ensures

pub put_decimal-last-requires : goal.put_decimal-last-requires
put_decimal-last-requires t c =
    let n : 10 ≤ c.args.n = omega arith in
    (omega arith, omega (arith, number_room c.args.n n (omega (arith, c.ranges.n))))

pub put-requires-2 : goal.put-requires-2
put-requires-2 t c = omega (arith, c.put_decimal-last.ensures.next, c.put_decimal-last.auto.out, number_room c.args.n (omega arith) (omega (arith, c.ranges.n)))

pub returns : goal.returns
returns t c =
    number_more {n = c.args.n} (omega arith) (omega (arith, c.ranges.n)) c.digit-2.ensures c.put_decimal-last.ensures c.put-2.ensures
