-- `weights::magnitude` meets its contract. Assumes nothing.
use borrow.Author.Rules.{rules}
use mathlib.Core.Path.{◌≡◌, refl, sym, ap, subst}
use mathlib.Core.Bool.{Bool, true, false, ◌||◌, beq, true≢false}
use Prim.Native.Nat.{ℕ, zero, suc, ◌+◌, ◌*◌, ◌≤◌}
use native.Mathlib.Omega.{arith}
use native.Mathlib.Nat.{mul-pos, pow-suc}
use lib.IntN.{ℤ, pos, negsuc}
use lib.Dec.{T, eqb, eqb→eq}
use lib.Ieee.{Float, nan, inf, fin, binary64, of_bits, up, down, neg, lt, eq, fits}
use lib.Ieee.Fits.{up_pos, and_l}
use borrow.Author.Tests.{ltb-true, ltb-false, eq-eqb}
use Rattle.weights.specs.Worth.{magnitude, zero64}
use Rattle.weights.proofs.magnitude.Goals as goal

below : (x : Float) → lt x zero64 ≡ true → neg x ≡ magnitude x
unfolding lt of_bits neg magnitude
below nan h = refl
below (inf true) h = refl
below (inf false) h = absurd (true≢false (sym h))
below (fin true m e) h = refl
below (fin false m e) h = absurd (omega (arith, ltb-true (m * up e * 1) (0 * down e) h))

-- a zero is written in one way
zero_place : (e : ℤ) → up e * down e ≡ 1 → e ≡ pos 0
zero_place (pos zero) h = refl
zero_place (pos (suc k)) h = absurd (omega (arith, pow-suc 2 k))
zero_place (negsuc k) h = absurd (omega (arith, pow-suc 2 k))

zero_fits : (s : Bool) (m : ℕ) (e : ℤ) → T (fits binary64 (fin s m e)) → m * up e ≡ 0 → fin false 0 (pos 0) ≡ fin false m e
unfolding fits
zero_fits s zero e t h = ap (fin false 0) (sym (zero_place e (eqb→eq (up e * down e) 1 t)))
zero_fits s (suc m) e t h = absurd (omega (arith, mul-pos {m = suc m} (omega arith) (up_pos e)))

zero_is : (x : Float) → T (fits binary64 x) → eq x zero64 ≡ true → zero64 ≡ magnitude x
unfolding eq of_bits magnitude
zero_is nan t h = absurd (true≢false (sym h))
zero_is (inf s) t h = absurd (true≢false (sym h))
zero_is (fin s m e) t h =
    zero_fits s m e t (omega (arith, eqb→eq (m * up e * 1) (0 * down e) (and_l (eqb (m * up e * 1) (0 * down e)) (beq s false || eqb (m * up e * 1) 0) (subst T (sym h) tt))))

clear_is : (x : Float) → lt x zero64 ≡ false → eq x zero64 ≡ false → x ≡ magnitude x
unfolding lt eq of_bits magnitude
clear_is nan h k = refl
clear_is (inf true) h k = absurd (true≢false h)
clear_is (inf false) h k = refl
clear_is (fin false m e) h k = refl
clear_is (fin true m e) h k =
    let none : m * up e * 1 + 0 * down e ≤ 0 = ltb-false 0 (m * up e * 1 + 0 * down e) h in
    absurd (true≢false (rw (eq-eqb (m * up e * 1) (0 * down e) (omega arith), eq-eqb (m * up e * 1) 0 (omega arith)) at k))

pub returns-then-x : goal.returns-then-x
returns-then-x c = below _ c.if-x.true

pub returns-then-x-2 : goal.returns-then-x-2
returns-then-x-2 c = zero_is _ (search rules) c.if-x-2.true

pub returns : goal.returns
returns c = clear_is _ c.if-x.false c.if-x-2.false
