-- The gradient's bounds in half units, what they force and which are 0, at the values or at what each entry sees of them.
-- The gradient closure of s is the t with `Closure (Forces F) s t`. Assumes nothing.
use Rattle.std.specs.Prelude.{◌≡◌, ◌⊎◌, Bool, true, false, cond, ◌&&◌, List, ℕ, zero, suc, ◌+◌, length, get_or, eqb, ltb}
use Rattle.whole.specs.Whole.{Whole, nothing, ◌⊕◌, only, sum, min0, max0, Above0, Below0}
use Rattle.meaning.specs.Free.{is_free}
use Rattle.meaning.specs.Steps.{Rule}
use Rattle.meaning.specs.Field.{Field}

-- ---- what an entry sees

-- w k j is the value that entry k sees at variable j
abbrev pub View : Type 0
View = ℕ → ℕ → ℕ

-- every entry sees the values s
abbrev pub view : List ℕ → View
view s k j = get_or s j 0

-- every sight of w is free, or as in v
abbrev pub Behind : View → View → Type 0
Behind w v = (k j : ℕ) → (w k j ≡ 2) ⊎ (w k j ≡ v k j)

-- each entry sees a variable as free, or as it is in s
abbrev pub Lags : View → List ℕ → Type 0
Lags w s = Behind w (view s)

-- entry k sees v at variable i from now on
unfoldable pub see : View → ℕ → ℕ → ℕ → View
see w k i v k' j = cond (eqb k' k && eqb j i) v (w k' j)

-- ---- the bounds

-- q if the other end is 1, nothing if it is 0, and `free` if it is free
unfoldable pub share : Whole → Whole → ℕ → Whole
share free q zero = nothing
share free q (suc zero) = q
share free q (suc (suc v)) = free

-- what entry k counts at variable i, where `free` says what a free end counts
abbrev pub part : (Whole → Whole) → Field → View → ℕ → ℕ → Whole
part free F w i k =
    only (eqb (F.row k) i) (share (free (F.weight k)) (F.weight k) (w k (F.column k)))
    ⊕ only (eqb (F.column k) i) (share (free (F.weight k)) (F.weight k) (w k (F.row k)))

-- 2c of i, and the part of each entry at i (rule 4.12)
abbrev pub gradient : (Whole → Whole) → Field → View → ℕ → Whole
gradient free F w i = F.linear i ⊕ sum F.m (part free F w i)

-- The lower bound of the gradient of i at the values s: an entry to a free end counts min(q, 0).
abbrev pub low : Field → List ℕ → ℕ → Whole
low F s i = gradient min0 F (view s) i

-- The upper bound of the gradient of i at the values s: an entry to a free end counts max(q, 0).
abbrev pub high : Field → List ℕ → ℕ → Whole
high F s i = gradient max0 F (view s) i

-- ---- what they force

-- 0 where low is above 0, 1 where high is below 0 (rule 4.13), at a view
pub data Forced (F : Field) (w : View) (i : ℕ) : ℕ → Type 0 where
  zero_by : Above0 (gradient min0 F w i) → Forced F w i 0
  one_by : Below0 (gradient max0 F w i) → Forced F w i 1

-- the rule of the gradient closure: what is forced at the values
abbrev pub Forces : Field → Rule
Forces F s i v = Forced F (view s) i v

-- The value forced by two tests, low above 0 and then high below 0: 0, 1, or 2 where both fail.
abbrev pub judge : Bool → Bool → ℕ
judge true b = 0
judge false true = 1
judge false false = 2

-- The value that the bounds at s force on variable i, or 2 where they force none.
unfoldable pub verdict : Field → List ℕ → ℕ → ℕ
unfolding share sum
verdict F s i = judge (ltb (low F s i).less (low F s i).plus) (ltb (high F s i).plus (high F s i).less)

-- ---- where both are 0

-- Whether a whole number is 0, as a test that computes: gained and spent are equal.
abbrev pub is_zero : Whole → Bool
is_zero a = eqb a.plus a.less

-- the free variables with low = high = 0: how many there are below i
unfoldable pub flats_to : Field → List ℕ → ℕ → ℕ
unfolding share sum
flats_to F s zero = 0
flats_to F s (suc i) = flats_to F s i + cond (is_free s i && (is_zero (low F s i) && is_zero (high F s i))) 1 0

-- How many free variables there are in all whose bounds are both 0.
abbrev pub flats : Field → List ℕ → ℕ
flats F s = flats_to F s (length s)
