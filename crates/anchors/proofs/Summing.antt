-- The loops along the places of one variable: its error-free sum, and the weight of its entries. Assumes nothing.
use Prim.Native.Nat.{ℕ, ◌+◌, ◌<◌, ◌≤◌}
use mathlib.Core.Path.{◌≡◌, refl, ap, ◌∙◌}
use mathlib.Core.Bool.{Bool, true, false}
use mathlib.Core.List.{List, []}
use native.Mathlib.Omega.{arith}
use borrow.Author.Tests.{eq-eqb, ne_eqb}
use lib.ListN.{length, get_or}
use lib.Ieee.{Float, binary64, add, mul, ne}
use Rattle.weights.specs.Worth.{magnitude, zero64, four64}
use Rattle.expansion.specs.Sum.{Expansion, parts, plus, comes_to_zero, sum_in, count_of, is_zero, Adds}
use Rattle.expansion.proofs.Carrying.{zero_is}
use Rattle.field.specs.Field.{Field, variables, entries, linear_of, row_end, column_end, quad_of}
use Rattle.places.specs.Places.{entry_in}
use Rattle.places.proofs.Places.{places_le}
use Rattle.places.proofs.Walk.{walk_turn, Along, along_start, along_turn, along_end, part_long}
use Rattle.anchors.specs.Sums.{doubled, balance_at, balance_over, balance_of, balanced, plain_over, plain_sum, weight_at, weight_over, weight_of, AddsAt, Walkable}
use Rattle.std.specs.Prelude.{Option, Some}

-- ---- one entry

module _ (F : Field) (k : ℕ) where
  module _ {s r : Option ℕ} {f f' : List Float} where
    pub adds_twice : row_end F k ≡ column_end F k → Adds (doubled F k) s f f' r → AddsAt F k s f f' r
    unfolding balance_at
    adds_twice d a = record { sum = rw (eq-eqb (row_end F k) (column_end F k) d) a.sum; grows = a.grows }

    pub adds_once : (row_end F k ≡ column_end F k → ⊥) → ne (quad_of F k) zero64 ≡ true → Adds (quad_of F k) s f f' r → AddsAt F k s f f' r
    unfolding balance_at
    adds_once d n a = record { sum = rw (ne_eqb (row_end F k) (column_end F k) d, n) a.sum; grows = a.grows }

  pub adds_none : {s : Option ℕ} {f : List Float} → (row_end F k ≡ column_end F k → ⊥) → ne (quad_of F k) zero64 ≡ false → AddsAt F k s f f s
  unfolding balance_at
  adds_none d n = record { sum = rw (ne_eqb (row_end F k) (column_end F k) d, n); grows = omega arith }

  module _ (w : Float) where
    pub weighs_diagonal : row_end F k ≡ column_end F k → w ≡ weight_at F w k
    unfolding weight_at
    weighs_diagonal d = rw (eq-eqb (row_end F k) (column_end F k) d)

    pub weighs_some : {m : Float} → (row_end F k ≡ column_end F k → ⊥) → ne (quad_of F k) zero64 ≡ true → m ≡ magnitude (quad_of F k) → add binary64 w m ≡ weight_at F w k
    unfolding weight_at
    weighs_some d n e = rw (ne_eqb (row_end F k) (column_end F k) d, n, e)

    pub weighs_none : (row_end F k ≡ column_end F k → ⊥) → ne (quad_of F k) zero64 ≡ false → w ≡ weight_at F w k
    unfolding weight_at
    weighs_none d n = rw (ne_eqb (row_end F k) (column_end F k) d, n)

-- ---- the sum

abbrev pub first_sum : Field → ℕ → Expansion
first_sum F i = plus (mul binary64 four64 (linear_of F i)) (parts [])

-- where the loop stands that goes from `start` to `end` along the places of i: the sum so far, and at most one part more a place
pub record Balancing (F : Field) (i start end : ℕ) (u : List ℕ) (f₀ : List Float) (p : ℕ) (f : List Float) (sum : Option ℕ) : Type 0 where
  pub walkable : Walkable F i u
  pub along : Along (balance_over F) (variables F) F.rows F.cols u u i end p (first_sum F i) (sum_in sum f)
  pub begins : start ≡ get_or u i 0
  pub few : count_of sum + start ≤ p + 1
  pub long : length f ≡ length f₀
  pub room : entries F < length f₀

module _ {F : Field} {i start end : ℕ} {u : List ℕ} where
  pub balance_start : {f₋ f : List Float} {sum : Option ℕ} → Walkable F i u → entries F < length f → start ≡ get_or u i 0 → end ≡ get_or u (i + 1) 0
      → Adds (mul binary64 four64 (linear_of F i)) (Some 0) f₋ f sum → Balancing F i start end u f start f sum
  unfolding sum_in
  balance_start W h ea eb a = record {
    walkable = W;
    along = rw a.sum (along_start (balance_over F) (first_sum F i) W.adjacent W.below ea eb);
    begins = ea;
    few = omega (arith, a.grows);
    long = refl;
    room = h;
  }

  module _ {p : ℕ} {f₀ f : List Float} {sum : Option ℕ} (B : Balancing F i start end u f₀ p f sum) where
    -- there are m + 1 parts at most
    most : count_of sum ≤ entries F + 1
    most =
        omega (
          arith,
          B.few,
          B.begins,
          B.along.walk.to,
          B.along.walk.stop,
          part_long B.walkable.adjacent B.walkable.below,
          places_le F.rows F.cols i,
          B.walkable.shaped.rows_long,
        )

    pub balance_room : p < end → count_of sum < length f
    balance_room l =
        omega (
          arith,
          B.long,
          B.room,
          B.few,
          B.begins,
          B.along.walk.stop,
          part_long B.walkable.adjacent B.walkable.below,
          places_le F.rows F.cols i,
          B.walkable.shaped.rows_long,
        )

    pub balance_turn : {k : ℕ} {f' : List Float} {r : Option ℕ} → p < end → k ≡ entry_in (get_or u (variables F + 1 + p) 0) → length f' ≡ length f → AddsAt F k sum f f' r
        → Balancing F i start end u f₀ (p + 1) f' r
    unfolding balance_over
    balance_turn l e long a = record {
      walkable = B.walkable;
      along = rw a.sum (along_turn B.along l e (λ ks. refl));
      begins = B.begins;
      few = omega (arith, B.few, a.grows);
      long = long ∙ B.long;
      room = B.room;
    }

    pub balance_done : {z : Bool} → end ≤ p → z ≡ is_zero sum → z ≡ balanced F i
    unfolding balanced balance_of balance_over
    balance_done l e = e ∙ zero_is sum f (omega (arith, most, B.long, B.room)) ∙ ap comes_to_zero (along_end B.along l)

-- ---- the plain sum

abbrev pub first_float : Field → ℕ → Float
first_float F i = mul binary64 four64 (linear_of F i)

pub record Adding (F : Field) (i end : ℕ) (u : List ℕ) (p : ℕ) (x : Float) : Type 0 where
  pub walkable : Walkable F i u
  pub along : Along (plain_over F) (variables F) F.rows F.cols u u i end p (first_float F i) x

module _ {F : Field} {i end : ℕ} {u : List ℕ} where
  pub adding_start : {start : ℕ} → Walkable F i u → start ≡ get_or u i 0 → end ≡ get_or u (i + 1) 0 → Adding F i end u start (first_float F i)
  adding_start W ea eb = record { walkable = W; along = along_start (plain_over F) (first_float F i) W.adjacent W.below ea eb }

  module _ {p : ℕ} {x : Float} (L : Adding F i end u p x) where
    -- the place that a turn reads is an entry
    pub adding_entry : {k : ℕ} → p < end → k ≡ entry_in (get_or u (variables F + 1 + p) 0) → k < entries F
    adding_entry l e = omega (arith, (walk_turn L.along.walk l).word.entry, L.walkable.shaped.rows_long)

    pub adding_turn : {k : ℕ} → p < end → k ≡ entry_in (get_or u (variables F + 1 + p) 0) → Adding F i end u (p + 1) (add binary64 x (quad_of F k))
    unfolding plain_over
    adding_turn l e = record { walkable = L.walkable; along = along_turn L.along l e (λ ks. refl) }

    pub adding_done : end ≤ p → x ≡ plain_sum F i
    unfolding plain_sum plain_over
    adding_done l = along_end L.along l

-- ---- the weight

pub record Weighing (F : Field) (i end : ℕ) (u : List ℕ) (p : ℕ) (w : Float) : Type 0 where
  pub walkable : Walkable F i u
  pub along : Along (weight_over F) (variables F) F.rows F.cols u u i end p zero64 w

module _ {F : Field} {i end : ℕ} {u : List ℕ} where
  pub weigh_start : {start : ℕ} → Walkable F i u → start ≡ get_or u i 0 → end ≡ get_or u (i + 1) 0 → Weighing F i end u start zero64
  weigh_start W ea eb = record { walkable = W; along = along_start (weight_over F) zero64 W.adjacent W.below ea eb }

  module _ {p : ℕ} {w : Float} (L : Weighing F i end u p w) where
    pub weigh_turn : {k : ℕ} {w' : Float} → p < end → k ≡ entry_in (get_or u (variables F + 1 + p) 0) → w' ≡ weight_at F w k → Weighing F i end u (p + 1) w'
    unfolding weight_over
    weigh_turn l e n = record { walkable = L.walkable; along = rw n (along_turn L.along l e (λ ks. refl)) }

    pub weigh_done : end ≤ p → w ≡ weight_of F i
    unfolding weight_of weight_over
    weigh_done l = along_end L.along l
