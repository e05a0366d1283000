-- `weights::is_finite` meets its contract. Assumes nothing.
use mathlib.Core.Path.{◌≡◌, refl}
use mathlib.Core.Bool.{true, false, ◌&&◌}
use lib.Ieee.{Float, nan, inf, fin, binary64, of_bits, lt, nan_bits}
use lib.Ieee.Scale.{finite}
use Rattle.weights.proofs.is_finite.Goals as goal

between : (x : Float) → lt (of_bits binary64 0xfff0_0000_0000_0000) x && lt x (of_bits binary64 0x7ff0_0000_0000_0000) ≡ finite x
unfolding lt of_bits
between nan = refl
between (inf true) = refl
between (inf false) = refl
between (fin s m e) = refl

pub float_from_bits-top : goal.float_from_bits-top
unfolding nan_bits
float_from_bits-top c = tt

pub float_from_bits-bottom : goal.float_from_bits-bottom
unfolding nan_bits
float_from_bits-bottom c = tt

pub returns : goal.returns
returns c = between _
