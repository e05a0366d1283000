-- The loop that carries a number through the parts: it starts, takes a turn, stops at an overflow, and comes to the end. Assumes nothing.
use Prim.Native.Nat.{ℕ, zero, suc, ◌+◌, ◌-◌, ◌<◌, ◌≤◌}
use mathlib.Core.Path.{◌≡◌, refl, sym, ap, ◌∙◌}
use mathlib.Core.Bool.{Bool, true, false, cond}
use mathlib.Core.List.{List, [], ◌∷◌, ◌++◌, append_assoc, append-nil}
use native.Mathlib.Numerals.{add-one}
use native.Mathlib.Nat.{add-zero}
use native.Mathlib.Omega.{arith}
use lib.ListN.{length, get_or, take, drop, set}
use lib.Seq.{slice, slice-cons, slice_empty, drop-drop, get_or-drop, take-suc-set, drop-set-lt}
use lib.Dec.{eqb}
use borrow.Author.Tests.{ne_eqb}
use lib.Ieee.{Float, nan, lt, ne}
use lib.Ieee.Scale.{finite}
use Rattle.weights.specs.Worth.{magnitude, zero64}
use Rattle.std.specs.Prelude.{Option, Some, None}
use Rattle.std.specs.Option.{option_eq}
use Rattle.expansion.specs.declared.Split.{Split}
use Rattle.expansion.specs.Sum.{comes_to_zero, is_zero, Expansion, parts, invalid, two_sum, split_of, kept, in_front, carried, plus, sum_in, count_of, Keeps, Carried, Adds}

-- ---- parts that come first

unfoldable pub continued : List Float → Expansion → Expansion
continued l (parts r) = parts (l ++ r)
continued l invalid = invalid

continued_front : (l : List Float) (x : Float) (s : Expansion) → continued l (in_front x s) ≡ continued (l ++ kept x []) s
unfolding continued in_front kept
continued_front l x (parts r) = go (ne x zero64)
  where
    go : (b : Bool) → parts (l ++ cond b (x ∷ r) r) ≡ parts ((l ++ cond b (x ∷ []) []) ++ r)
    go true = ap parts (sym (append_assoc l (x ∷ []) r))
    go false = rw append-nil
continued_front l x invalid = refl

continued_none : (s : Expansion) → continued [] s ≡ s
unfolding continued
continued_none (parts l) = refl
continued_none invalid = refl

-- ---- the larger in magnitude first

module _ {a b : Float} (x y : Float) (ea : a ≡ magnitude x) (eb : b ≡ magnitude y) where
  pub split_turned : lt a b ≡ true → two_sum y x ≡ split_of x y
  unfolding split_of
  split_turned t = rw (← ea, ← eb, t)

  pub split_straight : lt a b ≡ false → two_sum x y ≡ split_of x y
  unfolding split_of
  split_straight t = rw (← ea, ← eb, t)

-- ---- a part is kept, or is 0

module _ {x : Float} {k : ℕ} {f : List Float} where
  pub keep_some : k < length f → ne x zero64 ≡ true → Keeps x k f (set f k x) (k + 1)
  unfolding kept
  keep_some h e = record {
    front = rw (add-one, e) (take-suc-set f k x h);
    rest = drop-set-lt (k + 1) f k x (omega arith);
    grows = omega arith;
  }

  pub keep_none : ne x zero64 ≡ false → Keeps x k f f k
  unfolding kept
  keep_none e = record { front = rw (e, append-nil); rest = refl; grows = omega arith }

-- ---- the loop

drop_further : (f f' : List Float) (a b : ℕ) → a ≤ b → drop a f' ≡ drop a f → drop b f' ≡ drop b f
drop_further f f' a b h e =
    let w : b ≡ a + (b - a) = omega arith in
    rw w (sym (drop-drop (b - a) a f') ∙ ap (drop (b - a)) e ∙ drop-drop (b - a) a f)

-- f₀ is the list where the loop begins, and f as it is now: `back` parts are kept of the first i, and `high` is what they come to besides
pub record Carrying (x : Float) (count : ℕ) (f₀ f : List Float) (back : ℕ) (high : Float) (i : ℕ) : Type 0 where
  pub behind : back ≤ i
  pub within : i ≤ count
  pub room : count < length f₀
  pub long : length f ≡ length f₀
  pub rest : drop i f ≡ drop i f₀
  pub sum : continued (take back f) (carried high (slice i count f₀)) ≡ carried x (take count f₀)

pub carry_start : {count : ℕ} {f : List Float} (x : Float) → count < length f → Carrying x count f f 0 x 0
carry_start {count} {f} x h = record { behind = omega arith; within = omega arith; room = h; long = refl; rest = refl; sum = continued_none _ }

module _ {x high : Float} {count back i : ℕ} {f₀ f : List Float} (now : Carrying x count f₀ f back high i) where
  read : get_or f i nan ≡ get_or f₀ i nan
  read =
      let z : i + 0 ≡ i = add-zero i in
      rw (← z) (sym (get_or-drop i f 0 nan) ∙ ap (λ (l : List Float). get_or l 0 nan) now.rest ∙ get_or-drop i f₀ 0 nan)

  step : {s : Split} → i < count → s ≡ split_of high (get_or f i nan)
      → carried high (slice i count f₀) ≡ cond (finite s.high) (in_front s.low (carried s.high (slice (i + 1) count f₀))) invalid
  unfolding carried
  step {s} l e = rw (slice-cons i count f₀ nan l (omega (arith, now.room)), ← read, ← e, add-one) refl

  pub carry_turn : {s : Split} {f₁ : List Float} {r : ℕ} → i < count → s ≡ split_of high (get_or f i nan) → finite s.high ≡ true → length f₁ ≡ length f
      → Keeps s.low back f f₁ r → Carrying x count f₀ f₁ r s.high (i + 1)
  carry_turn {s} {f₁} {r} l e t long k = record {
    behind = omega (arith, now.behind, k.grows);
    within = omega arith;
    room = now.room;
    long = long ∙ now.long;
    rest = drop_further f f₁ (back + 1) (i + 1) (omega (arith, now.behind)) k.rest ∙ drop_further f₀ f i (i + 1) (omega arith) now.rest;
    sum = rw k.front (sym (continued_front (take back f) s.low _) ∙ ap (continued (take back f)) (sym (rw t at (step l e))) ∙ now.sum);
  }

  pub carry_stop : {s : Split} (f₁ : List Float) → i < count → s ≡ split_of high (get_or f i nan) → finite s.high ≡ false → Carried x count f₀ f₁ None
  unfolding sum_in continued
  carry_stop f₁ l e t = record { sum = sym (ap (continued (take back f)) (rw t at (step l e))) ∙ now.sum; grows = omega arith }

  pub carry_done : {f₁ : List Float} {r : ℕ} → count ≤ i → Keeps high back f f₁ r → Carried x count f₀ f₁ (Some r)
  unfolding sum_in continued carried
  carry_done {f₁} {r} l k =
      let e : i ≡ count = omega (arith, now.within) in
      record {
        sum = ap parts k.front ∙ rw (e, slice_empty) at now.sum;
        grows = omega (arith, k.grows, now.behind);
      }

-- ---- an add

module _ {x : Float} {s : Option ℕ} {f f₁ : List Float} where
  pub add_carries : {k : ℕ} {r : Option ℕ} → s ≡ Some k → finite x ≡ true → Carried x k f f₁ r → Adds x s f f₁ r
  unfolding plus sum_in
  add_carries is e c = rw is (record { sum = rw e c.sum; grows = c.grows })

  pub add_overflows : {k : ℕ} → s ≡ Some k → finite x ≡ false → Adds x s f f₁ None
  unfolding plus sum_in
  add_overflows is e = rw is (record { sum = rw e; grows = omega arith })

  pub add_stays : s ≡ None → Adds x s f f₁ None
  unfolding plus sum_in
  add_stays is = rw is (record { sum = refl; grows = omega arith })

-- ---- the answer

pub zero_is : (s : Option ℕ) (f : List Float) → count_of s ≤ length f → is_zero s ≡ comes_to_zero (sum_in s f)
unfolding is_zero comes_to_zero sum_in
zero_is (Some zero) f h = refl
zero_is (Some (suc k)) [] h = absurd (omega arith)
zero_is (Some (suc k)) (x ∷ f) h = ne_eqb (suc k) 0 (λ e. omega arith)
zero_is None f h = refl

pub zero_told : (s : Option ℕ) → option_eq eqb s (Some 0) ≡ is_zero s
unfolding is_zero
zero_told (Some k) = refl
zero_told None = refl
