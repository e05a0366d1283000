-- The loops that gather what the given variables weigh: how they start, turn and end. Assumes nothing.
use Prim.Native.Nat.{ℕ, ◌+◌, ◌<◌, ◌≤◌}
use mathlib.Core.Path.{◌≡◌, refl, sym, ap, ◌∙◌}
use mathlib.Core.Bool.{Bool, true, false, cond}
use mathlib.Core.List.{List}
use native.Mathlib.Decide.{ℕ_discrete}
use native.Mathlib.Nat.{le_antisymm}
use native.Mathlib.Numerals.{add-one}
use native.Mathlib.Omega.{arith}
use borrow.Author.Tests.{eq-eqb, ne_eqb}
use lib.ListN.{length, get_or, set, length-set, get_or-replicate}
use lib.Seq.{get_or-set_same, get_or-set_other}
use lib.Ieee.{Float, nan, binary64, add, mul}
use Rattle.meaning.specs.Free.{is_free}
use Rattle.weights.specs.Worth.{zero64}
use Rattle.field.specs.Field.{Field, variables, entries, row_end, column_end}
use Rattle.sub_problem.specs.Reduced.{value_of, lone_at, given_at, free_end, given_end, half_of, into_gathered, gathered_to, into_constant, given_to, with_given}
use Rattle.sub_problem.specs.Working.{Usable, Blank, Taken, Gathers}
use Rattle.sub_problem.proofs.Worths.{gathered_long, free_end_below}

-- ---- one entry, as the code does it

module _ (F : Field) (s : List ℕ) (k : ℕ) (f : List Float) (x : Float) {i j : ℕ} {h : Float} (ei : i ≡ row_end F k) (ej : j ≡ column_end F k) (eh : h ≡ half_of F k) where
  pub both_free : get_or s i 0 ≡ 2 → get_or s j 0 ≡ 2 → Taken F s k f x f x
  both_free a b =
      let p : is_free s (row_end F k) ≡ true = rw ei at (eq-eqb (get_or s i 0) 2 a) in
      let q : is_free s (column_end F k) ≡ true = rw ej at (eq-eqb (get_or s j 0) 2 b) in
      record { floats = rw (p, q); total = rw p }

  pub row_free : get_or s i 0 ≡ 2 → (get_or s j 0 ≡ 2 → ⊥) → Taken F s k f x (set f i (add binary64 (get_or f i nan) (mul binary64 h (value_of s j)))) x
  row_free a b =
      let p : is_free s (row_end F k) ≡ true = rw ei at (eq-eqb (get_or s i 0) 2 a) in
      let q : is_free s (column_end F k) ≡ false = rw ej at (ne_eqb (get_or s j 0) 2 b) in
      record { floats = rw (p, q, ei, ej, eh); total = rw p }

  pub column_free : (get_or s i 0 ≡ 2 → ⊥) → get_or s j 0 ≡ 2 → Taken F s k f x (set f j (add binary64 (get_or f j nan) (mul binary64 h (value_of s i)))) x
  column_free a b =
      let p : is_free s (row_end F k) ≡ false = rw ei at (ne_eqb (get_or s i 0) 2 a) in
      let q : is_free s (column_end F k) ≡ true = rw ej at (eq-eqb (get_or s j 0) 2 b) in
      record { floats = rw (p, q, ei, ej, eh); total = rw (p, q) }

  pub none_free : (get_or s i 0 ≡ 2 → ⊥) → (get_or s j 0 ≡ 2 → ⊥) → Taken F s k f x f (add binary64 x (mul binary64 (mul binary64 h (value_of s i)) (value_of s j)))
  none_free a b =
      let p : is_free s (row_end F k) ≡ false = rw ei at (ne_eqb (get_or s i 0) 2 a) in
      let q : is_free s (column_end F k) ≡ false = rw ej at (ne_eqb (get_or s j 0) 2 b) in
      record { floats = rw (p, q); total = rw (p, q, ei, ej, eh) }

-- ---- all entries

pub gathers_start : {F : Field} {s : List ℕ} {f : List Float} → Blank (variables F) f → Gathers F s 0 f zero64
unfolding gathered_to given_to
gathers_start {F} B = record { within = omega arith; long = B.long; at = λ i l. B.at i l ∙ sym (get_or-replicate (variables F) i zero64 nan l); total = refl }

module _ {F : Field} {s : List ℕ} (U : Usable F s) where
  -- the ends that the code reads are variables
  module _ (k : ℕ) (h : k < entries F) {i : ℕ} where
    pub row_inside : i ≡ row_end F k → (i < variables F) × (i < 4096)
    row_inside e = omega (arith, U.shaped.row_below k h, U.shaped.few_variables)

    pub column_inside : i ≡ column_end F k → (i < variables F) × (i < 4096)
    column_inside e = omega (arith, U.shaped.column_below k h, U.shaped.few_variables)

  pub gathers_turn : {k : ℕ} {f f₁ : List Float} {x x₁ : Float} → Gathers F s k f x → k < entries F → Taken F s k f x f₁ x₁ → Gathers F s (k + 1) f₁ x₁
  unfolding gathered_to given_to
  gathers_turn {k} {f} {f₁} {x} {x₁} G h T = rw add-one (record {
    within = h;
    long = omega (arith, G.long, ap length T.floats, same_long (lone_at F s k));
    at = λ i l. ap (λ (g : List Float). get_or g i nan) T.floats ∙ by i l (lone_at F s k);
    total = T.total ∙ ap (λ (z : Float). cond (given_at F s k) (into_constant F s k z) z) G.total;
  })
    where
      same_long : (b : Bool) → length (cond b (into_gathered F s k f) f) ≡ length f
      same_long true = length-set f _ _
      same_long false = refl

      by : (i : ℕ) → i < variables F → (b : Bool) → get_or (cond b (into_gathered F s k f) f) i nan ≡ get_or (cond b (into_gathered F s k (gathered_to F s k)) (gathered_to F s k)) i nan
      by i l false = G.at i l
      by i l true = elim (ℕ_discrete i (free_end F s k)) [
        | yes z ↦ rw z (
            get_or-set_same f (free_end F s k) (add binary64 (get_or f (free_end F s k) nan) (mul binary64 (half_of F k) (value_of s (given_end F s k)))) nan (omega (arith, free_end_below U.shaped s k h, G.long))
            ∙ ap (λ (y : Float). add binary64 y (mul binary64 (half_of F k) (value_of s (given_end F s k)))) (G.at (free_end F s k) (free_end_below U.shaped s k h))
            ∙ sym (get_or-set_same (gathered_to F s k) (free_end F s k) (add binary64 (get_or (gathered_to F s k) (free_end F s k) nan) (mul binary64 (half_of F k) (value_of s (given_end F s k)))) nan (omega (arith, free_end_below U.shaped s k h, gathered_long F s k))))
        | no n ↦
            get_or-set_other f (free_end F s k) i (add binary64 (get_or f (free_end F s k) nan) (mul binary64 (half_of F k) (value_of s (given_end F s k)))) nan n
            ∙ G.at i l
            ∙ sym (get_or-set_other (gathered_to F s k) (free_end F s k) i (add binary64 (get_or (gathered_to F s k) (free_end F s k) nan) (mul binary64 (half_of F k) (value_of s (given_end F s k)))) nan n)
      ]

pub gathers_done : {F : Field} {s : List ℕ} {k : ℕ} {f : List Float} {x : Float} → Gathers F s k f x → entries F ≤ k → Gathers F s (entries F) f x
gathers_done {F} {k = k} G h = let e : k ≡ entries F = le_antisymm G.within h in rw e at G

-- the loop: as many floats as there were
pub record Gathering (F : Field) (s : List ℕ) (f₀ : List Float) (k : ℕ) (f : List Float) (x : Float) : Type 0 where
  pub gathers : Gathers F s k f x
  pub same : length f ≡ length f₀

pub gathering_turn : {F : Field} {s : List ℕ} {k : ℕ} {f₀ f f₁ : List Float} {x x₁ : Float} → Usable F s → Gathering F s f₀ k f x → k < entries F → Taken F s k f x f₁ x₁ → Gathering F s f₀ (k + 1) f₁ x₁
gathering_turn {F} {s} {k} {f = f} U G h T = record { gathers = gathers_turn U G.gathers h T; same = ap length T.floats ∙ same_long (lone_at F s k) ∙ G.same }
  where
    same_long : (b : Bool) → length (cond b (into_gathered F s k f) f) ≡ length f
    same_long true = length-set f _ _
    same_long false = refl

-- ---- the given variables

pub record Adds (c : List Float) (s : List ℕ) (from : Float) (i : ℕ) (x : Float) : Type 0 where
  pub within : i ≤ length c
  pub is : x ≡ with_given c s from i

module _ {c : List Float} {s : List ℕ} {from : Float} where
  pub adds_start : Adds c s from 0 from
  unfolding with_given
  adds_start = record { within = omega arith; is = refl }

  pub adds_turn : {i : ℕ} {x x₁ : Float} → Adds c s from i x → i < length c → x₁ ≡ cond (is_free s i) x (add binary64 x (mul binary64 (get_or c i nan) (value_of s i))) → Adds c s from (i + 1) x₁
  unfolding with_given
  adds_turn {i} {x} {x₁} A h e = rw add-one (record { within = h; is = e ∙ ap (λ (z : Float). cond (is_free s i) z (add binary64 z (mul binary64 (get_or c i nan) (value_of s i)))) A.is })

  pub adds_done : {i : ℕ} {x : Float} → Adds c s from i x → length c ≤ i → x ≡ with_given c s from (length c)
  adds_done {i} A h = A.is ∙ ap (with_given c s from) (le_antisymm A.within h)
