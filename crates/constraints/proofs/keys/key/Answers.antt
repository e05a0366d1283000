-- `key` puts the lower end first, and turns the kind where it exchanges the ends. Assumes nothing.
use native.Mathlib.Omega.{arith}
use Rattle.meaning.proofs.Records.{set_proper}
use Rattle.constraints.specs.Codes.{meant}
use Rattle.constraints.proofs.Numbers.{key_straight, key_exchanged}
use Rattle.constraints.proofs.keys.key.Goals as goal

pub number-requires : goal.number-requires
number-requires c = record { lower_bound = c.requires.first_bound; higher_bound = c.requires.second_bound; set_bound = omega (arith, c.set.ensures, (set_proper (meant c.args.kind)).1) }

pub returns-then-first-second : goal.returns-then-first-second
returns-then-first-second c = key_straight _ _ (meant c.args.kind) c.if-first-second.true c.set.ensures c.number.ensures

pub number-requires-2 : goal.number-requires-2
number-requires-2 c = record { lower_bound = c.requires.second_bound; higher_bound = c.requires.first_bound; set_bound = omega (arith, c.set-2.ensures, (set_proper (meant c.turned.result)).1) }

pub returns : goal.returns
returns c =
    key_exchanged _ _ (meant c.args.kind) c.if-first-second.false c.turned.ensures c.set-2.ensures c.number-2.ensures
