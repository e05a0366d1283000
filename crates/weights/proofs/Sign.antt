-- A sum and a product of floats whose signs are clear have a clear sign, a magnitude has one, and what lies above such a float lies above zero: all that is known where a float is rounded.
-- Assumes nothing.
use mathlib.Core.Path.{sym, subst}
use mathlib.Core.Bool.{Bool, true, false, cond}
use Prim.Native.Nat.{ℕ, zero, suc, ◌+◌, ◌*◌, ◌^◌, ◌<◌}
use native.Mathlib.Omega.{arith}
use lib.Dec.{T, ltb, ltb→lt, lt→ltb}
use lib.Ieee.{Float, nan, inf, fin, Format, prec, emax, low, up, down, odd, units, round, sum, add, mul, lt, of_bits}
use lib.Ieee.Fits.{round_is}
use lib.Ieee.Scale.{finite}
use lib.Ieee.Positive.{first_pos}
use Rattle.weights.specs.Worth.{zero64, clear, magnitude}

odd_clear : (d q k l : ℕ) → T (clear (odd d false q k l))
unfolding odd
odd_clear d zero k l = tt
odd_clear d (suc q) k l = tt

units_clear : (f : Format) (q k : ℕ) → T (clear (units f false q k))
unfolding units
units_clear f q k = go (ltb (q * 2 ^ k) (2 ^ (low f + suc (emax f))))
  where
    go : (b : Bool) → T (clear (cond b (odd (suc (prec f)) false q k (low f)) (inf false)))
    go true = odd_clear (suc (prec f)) q k (low f)
    go false = tt

round_clear : (f : Format) (num den : ℕ) → T (clear (round f false num den))
round_clear f num den = subst (λ (x : Float). T (clear x)) (sym (round_is f false num den)) (units_clear f _ _)

pub add_clear : (f : Format) (x y : Float) → T (clear x) → T (clear y) → T (clear (add f x y))
unfolding add sum
add_clear f nan y a b = absurd a
add_clear f (inf true) y a b = absurd a
add_clear f (inf false) nan a b = absurd b
add_clear f (inf false) (inf true) a b = absurd b
add_clear f (inf false) (inf false) a b = tt
add_clear f (inf false) (fin t n d) a b = tt
add_clear f (fin true m e) y a b = absurd a
add_clear f (fin false m e) nan a b = absurd b
add_clear f (fin false m e) (inf true) a b = absurd b
add_clear f (fin false m e) (inf false) a b = tt
add_clear f (fin false m e) (fin true n d) a b = absurd b
add_clear f (fin false m e) (fin false n d) a b = round_clear f (m * up e * down d + n * up d * down e) (down e * down d)

pub magnitude_clear : (x : Float) → T (finite x) → T (clear (magnitude x))
unfolding magnitude
magnitude_clear nan h = absurd h
magnitude_clear (inf s) h = absurd h
magnitude_clear (fin s m e) h = tt

pub mul_clear : (f : Format) (x y : Float) → T (finite x) → T (clear x) → T (finite y) → T (clear y) → T (clear (mul f x y))
unfolding mul
mul_clear f nan y a b c d = absurd a
mul_clear f (inf s) y a b c d = absurd a
mul_clear f (fin s m e) nan a b c d = absurd c
mul_clear f (fin s m e) (inf t) a b c d = absurd c
mul_clear f (fin true m e) (fin t n d) a b c h = absurd b
mul_clear f (fin false m e) (fin true n d) a b c h = absurd h
mul_clear f (fin false m e) (fin false n d) a b c h = round_clear f (m * up e * (n * up d)) (down e * down d)

pub above_clear : (x y : Float) → T (clear x) → T (lt x y) → T (lt zero64 y)
unfolding lt of_bits
above_clear nan y c h = absurd c
above_clear (inf true) y c h = absurd c
above_clear (inf false) nan c h = absurd h
above_clear (inf false) (inf t) c h = absurd h
above_clear (inf false) (fin t n d) c h = absurd h
above_clear (fin true m e) y c h = absurd c
above_clear (fin false m e) nan c h = absurd h
above_clear (fin false m e) (inf t) c h = h
above_clear (fin false m e) (fin true n d) c h = absurd h
above_clear (fin false m e) (fin false n d) c h =
    let some : 0 < n * up d * down e = omega (arith, ltb→lt (m * up e * down d) (n * up d * down e) h) in
    lt→ltb (0 * down d) (n * up d * 1) (omega (arith, first_pos (n * up d) (down e) some))
