-- `forbids` reads the bit of the pair. Assumes nothing.
use mathlib.Core.Path.{sym, ap, ◌∙◌}
use Prim.Native.Nat.{ℕ, ◌+◌, ◌*◌, ◌/◌, ◌^◌}
use lib.Bits.{and_mask}
use lib.Dec.{eqb}
use Rattle.literals.proofs.Rules.{among_bit}
use Rattle.literals.proofs.ends.forbids.Goals as goal

pub returns : goal.returns
returns c =
    let a = c.args in
    ap (λ (n : ℕ). eqb n 1) (and_mask (a.set / 2 ^ (2 * a.a + a.b)) 1) ∙ sym (among_bit a.set a.a a.b c.requires.a_bound c.requires.b_bound)
