-- Opposite values on a symmetric part have the same objective, so each of its variables is 0 in some best completion and 1 in another.
-- Assumes nothing.
use mathlib.Core.Path.{◌≡◌, refl, ◌∙◌}
use mathlib.Core.Logic.{◌⊎◌, inl, ⊎_elim}
use mathlib.Core.Bool.{Bool, true, false, cond, ◌&&◌}
use mathlib.Core.List.{List, [], ◌∷◌}
use Prim.Native.Nat.{ℕ, zero, suc, ◌-◌, ◌<◌}
use native.Mathlib.Decide.{ℕ_discrete}
use native.Mathlib.Omega.{arith}
use lib.ListN.{length, get_or, set, length-map}
use lib.Dec.{eqb}
use Rattle.whole.specs.Whole.{Whole, ◌⊕◌, ◌⊙◌, only, sum, ◌≈◌, Zero}
use Rattle.whole.proofs.Sums.{only_zero, sum_add, sum_four, sum_zero, sum_at, sum_same, sum_swap}
use Rattle.meaning.specs.Field.{Field, Within, variable_term, entry_term, twice_f, Completion, Best}
use Rattle.meaning.specs.Part.{mix, Safe}
use Rattle.meaning.specs.Symmetry.{at_ends, balance, opposite, Symmetric}
use Rattle.meaning.proofs.Values.{zero_or_one, inside}
use Rattle.meaning.proofs.Only.{only_swap, only_add, only_sum}
use Rattle.meaning.proofs.Part.{mix_at, mix_length}
use Rattle.meaning.proofs.Safe.{value_safe}

-- ---- double counting: where the balance of each variable that w picks is 0, so is the sum over variables and entries of what w picks

module _ (F : Field) (w : ℕ → Bool) where
  abbrev twice_linear : ℕ → Whole
  twice_linear i = F.linear i ⊕ F.linear i

  -- the weight of entry k, at each end picked
  abbrev at_picked : ℕ → Whole
  at_picked k = only (w (F.row k)) (F.weight k) ⊕ only (w (F.column k)) (F.weight k)

  abbrev picked_sum : Whole
  picked_sum = sum F.n (λ i. only (w i) (twice_linear i)) ⊕ sum F.m at_picked

  entry_count : (r c : ℕ) (q : Whole) → r < F.n → c < F.n → sum F.n (λ i. only (w i) (only (eqb r i) q ⊕ only (eqb c i) q)) ≈ only (w r) q ⊕ only (w c) q
  entry_count r c q hr hc =
      omega (
        arith,
        sum_add F.n (λ i. only (w i) (only (eqb r i) q ⊕ only (eqb c i) q)) (λ i. only (eqb r i) (only (w i) q)) (λ i. only (eqb c i) (only (w i) q)) (λ i h.
            rw (only_add (w i) (only (eqb r i) q) (only (eqb c i) q), only_swap (w i) (eqb r i) q, only_swap (w i) (eqb c i) q) refl),
        sum_at F.n (λ i. only (w i) q) r hr,
        sum_at F.n (λ i. only (w i) q) c hc,
      )

  picked : Within F → ((i : ℕ) → w i ≡ true → Zero (balance F i)) → Zero picked_sum
  picked fits h =
      omega (
        arith,
        sum_zero F.n (λ i. only (w i) (balance F i)) (λ i b. only_zero (w i) (balance F i) (h i)),
        sum_add F.n (λ i. only (w i) (balance F i)) (λ i. only (w i) (twice_linear i)) (λ i. sum F.m (λ k. only (w i) (at_ends F i k))) (λ i b.
            rw (only_add (w i) (twice_linear i) (sum F.m (at_ends F i))) (omega (arith, only_sum (w i) F.m (at_ends F i)))),
        sum_swap F.n F.m (λ i k. only (w i) (at_ends F i k)),
        sum_same F.m (λ k. sum F.n (λ i. only (w i) (at_ends F i k))) at_picked (λ k b. entry_count (F.row k) (F.column k) (F.weight k) (fits k b).0 (fits k b).1),
      )

-- ---- the opposite

-- a value the other way, where k says so; q where it does and the value is v
abbrev turn : Bool → ℕ → ℕ
turn k x = cond k (1 - x) x

abbrev picks : Bool → ℕ → ℕ → Whole → Whole
picks k x v q = only (k && eqb x v) q

turn_linear : (c : Whole) (k : Bool) (x : ℕ) → x < 2 → c ⊙ turn k x ⊕ c ⊙ turn k x ⊕ picks k x 1 (c ⊕ c) ≈ c ⊙ x ⊕ c ⊙ x ⊕ picks k x 0 (c ⊕ c)
turn_linear c true x h = ⊎_elim (λ e. rw e (omega arith)) (λ e. rw e (omega arith)) (zero_or_one h)
turn_linear c false x h = omega arith

abbrev Turns : Whole → Bool → Bool → ℕ → ℕ → Type 0
Turns q a b x y = q ⊙ turn a x ⊙ turn b y ⊕ q ⊙ turn a x ⊙ turn b y ⊕ (picks a x 1 q ⊕ picks b y 1 q) ≈ q ⊙ x ⊙ y ⊕ q ⊙ x ⊙ y ⊕ (picks a x 0 q ⊕ picks b y 0 q)

turn_entry : (q : Whole) (a b : Bool) (x y : ℕ) → x < 2 → y < 2 → (a ≡ b) ⊎ Zero q → Turns q a b x y
turn_entry q a b x y hx hy h = ⊎_elim (λ (e : a ≡ b). rw (← e) (inward a)) weightless h
  where
    inward : (a : Bool) → Turns q a a x y
    inward true =
        ⊎_elim
        (λ (e : x ≡ 0). ⊎_elim (λ (f : y ≡ 0). rw (e, f) (omega arith)) (λ (f : y ≡ 1). rw (e, f) (omega arith)) (zero_or_one hy))
        (λ (e : x ≡ 1). ⊎_elim (λ (f : y ≡ 0). rw (e, f) (omega arith)) (λ (f : y ≡ 1). rw (e, f) (omega arith)) (zero_or_one hy))
        (zero_or_one hx)
    inward false = omega arith

    none : (t : Bool) → Zero (only t (record { plus = q.less; less = q.less }))
    none t = only_zero t _ (λ e. refl)

    weightless : Zero q → Turns q a b x y
    weightless z = rw z (omega (arith, none (a && eqb x 1), none (b && eqb y 1), none (a && eqb x 0), none (b && eqb y 0)))

opposite_at : (x : List ℕ) (i : ℕ) → i < length x → get_or (opposite x) i 0 ≡ 1 - get_or x i 0
opposite_at [] i h = absurd (omega arith)
opposite_at (x ∷ xs) zero h = refl
opposite_at (x ∷ xs) (suc i) h = opposite_at xs i (omega arith)

both_true : (a b : Bool) → (a && b) ≡ true → a ≡ true
both_true true b e = refl
both_true false b e = e

-- OPPOSITE VALUES on a symmetric part have the same objective
module _ {F : Field} {s : List ℕ} {K : ℕ → Bool} (sy : Symmetric F s K) (long : length s ≡ F.n) (fits : Within F) where
  module _ {x : List ℕ} (c : Completion s x) where
    lx : length x ≡ length s
    lx = c.extends.as_long

    at_opposite : (i : ℕ) → i < F.n → get_or (mix K (opposite x) x) i 0 ≡ cond (K i) (1 - get_or x i 0) (get_or x i 0)
    at_opposite i h = mix_at K (opposite x) x (length-map x _) i ∙ rw (opposite_at x i (omega (arith, lx)))

    -- the variables of K that have the value v
    abbrev at_value : ℕ → ℕ → Bool
    at_value v i = K i && eqb (get_or x i 0) v

    opposite_same : twice_f F (mix K (opposite x) x) ≈ twice_f F x
    opposite_same =
        omega (
          arith,
          linear_sums,
          entry_sums,
          twice F.n (variable_term F y),
          twice F.n (variable_term F x),
          twice F.m (entry_term F y),
          twice F.m (entry_term F x),
          level 0,
          level 1,
        )
      where
        y : List ℕ
        y = mix K (opposite x) x

        twice : (n : ℕ) (g : ℕ → Whole) → sum n (λ k. g k ⊕ g k) ≈ sum n g ⊕ sum n g
        twice n g = sum_add n (λ k. g k ⊕ g k) g g (λ k h. refl)

        level : (v : ℕ) → Zero (picked_sum F (at_value v))
        level v = picked F (at_value v) fits (λ i e. sy.balanced i (both_true _ _ e))

        linears : ℕ → ℕ → Whole
        linears v i = only (at_value v i) (F.linear i ⊕ F.linear i)

        linear_sums : sum F.n (λ i. variable_term F y i ⊕ variable_term F y i) ⊕ sum F.n (linears 1) ≈ sum F.n (λ i. variable_term F x i ⊕ variable_term F x i) ⊕ sum F.n (linears 0)
        linear_sums = sum_four F.n _ (linears 1) _ (linears 0) (λ i h. rw (at_opposite i h) (turn_linear (F.linear i) (K i) (get_or x i 0) (c.full i)))

        entries : ℕ → ℕ → Whole
        entries v = at_picked F (at_value v)

        entry_sums : sum F.m (λ k. entry_term F y k ⊕ entry_term F y k) ⊕ sum F.m (entries 1) ≈ sum F.m (λ k. entry_term F x k ⊕ entry_term F x k) ⊕ sum F.m (entries 0)
        entry_sums =
            sum_four F.m _ (entries 1) _ (entries 0) (λ k h.
            rw (at_opposite (F.row k) (fits k h).0, at_opposite (F.column k) (fits k h).1)
            (turn_entry (F.weight k) (K (F.row k)) (K (F.column k)) (get_or x (F.row k) 0) (get_or x (F.column k) 0) (c.full (F.row k)) (c.full (F.column k)) (sy.inward k h)))

    opposite_completion : Completion s (mix K (opposite x) x)
    opposite_completion =
        record {
          extends = record { as_long = mix_length K (opposite x) x (length-map x _) ∙ lx; kept = λ i. rw (at i) (kept i (K i) refl) };
          full = λ i. rw (at i) (full i (K i) refl);
        }
      where
        at : (i : ℕ) → get_or (mix K (opposite x) x) i 0 ≡ cond (K i) (get_or (opposite x) i 0) (get_or x i 0)
        at i = mix_at K (opposite x) x (length-map x _) i

        kept : (i : ℕ) (k : Bool) → K i ≡ k → (get_or s i 0 ≡ 2) ⊎ (cond k (get_or (opposite x) i 0) (get_or x i 0) ≡ get_or s i 0)
        kept i true e = inl (sy.free i e)
        kept i false e = c.extends.kept i

        full : (i : ℕ) (k : Bool) → K i ≡ k → cond k (get_or (opposite x) i 0) (get_or x i 0) < 2
        full i true e = omega (arith, opposite_at x i (omega (arith, inside s i (sy.free i e), lx)))
        full i false e = c.full i

  -- the opposite of a best completion is best
  pub opposite_best : {x : List ℕ} → Best F s x → Best F s (mix K (opposite x) x)
  opposite_best b = record { completion = opposite_completion b.completion; least = λ z h. omega (arith, opposite_same b.completion, b.least z h) }

  -- ANCHORS: a variable of a symmetric part has either value in some best completion
  pub either_safe : {x : List ℕ} → Best F s x → (i : ℕ) → K i ≡ true → (v : ℕ) → v < 2 → Safe F s (set s i v)
  either_safe {x} b i e v small = go (ℕ_discrete (get_or x i 0) v)
    where
      turned : get_or (mix K (opposite x) x) i 0 ≡ 1 - get_or x i 0
      turned = mix_at K (opposite x) x (length-map x _) i ∙ rw (e, opposite_at x i (omega (arith, inside s i (sy.free i e), b.completion.extends.as_long)))

      go : Dec (get_or x i 0 ≡ v) → Safe F s (set s i v)
      go (yes h) = value_safe b i v (sy.free i e) h
      go (no h) = value_safe (opposite_best b) i v (sy.free i e) (turned ∙ omega (arith, b.completion.full i))
