-- The values worked by hand for the choices at anchors, by computation. Assumes nothing.
use Prim.Native.Nat.{ℕ, zero, suc, ◌-◌, ◌<◌}
use mathlib.Core.Path.{◌≡◌, refl, sym, ap}
use mathlib.Core.Logic.{◌⊎◌, inl, inr}
use mathlib.Core.List.{List, [], ◌∷◌}
use native.Mathlib.Omega.{arith}
use lib.ListN.{length, get_or, replicate, length-replicate}
use lib.Seq.{ext_get_or}
use Rattle.whole.specs.Whole.{◌⊑◌, sum}
use Rattle.weights.specs.Counts.{plus, minus}
use Rattle.meaning.specs.Steps.{Extends}
use Rattle.meaning.specs.Field as whole
use Rattle.meaning.specs.Field.{twice_f, Completion}
use Rattle.meaning.proofs.Values.{zero_or_one, fixed}
use Rattle.field.specs.declared.Grade.TheVariants.{Inexact}
use Rattle.field.specs.Reading.{whole_of}
use Rattle.together.specs.Found.{gradient_value}
use Rattle.together.specs.Together.{Obeys}
use Rattle.together.specs.Worked.{two_pairs, swallowing, one_pair, free, floats, words, enumerated, IsBest, OnlyBest, EachBest, four, turned}
use Rattle.together.proofs.Answers.{units_worked, closure_worked, components_worked}

-- ---- completions of nothing given

abbrev Small : List ℕ → Type 0
Small [] = Unit {0}
Small (v ∷ x) = (v < 2) × Small x

small_at : (x : List ℕ) → Small x → (i : ℕ) → get_or x i 0 < 2
small_at [] h i = omega arith
small_at (v ∷ x) h zero = h.0
small_at (v ∷ x) h (suc i) = small_at x h.1 i

kept : (x : List ℕ) (i : ℕ) → (◌≡◌ {A = ℕ} (get_or (replicate (length x) 2) i 0) 2) ⊎ (get_or x i 0 ≡ get_or (replicate (length x) 2) i 0)
kept [] i = inr refl
kept (v ∷ x) zero = inl refl
kept (v ∷ x) (suc i) = kept x i

filled : (x : List ℕ) → Small x → Completion (replicate (length x) 2) x
filled x h = record { extends = record { as_long = sym (length-replicate (length x) 2); kept = kept x }; full = small_at x h }

-- ---- two pairs

abbrev pairwise : whole.Field
pairwise = whole_of 1053 two_pairs

-- the completion with a at 0 and b at 2, and the opposites beside them
abbrev made : ℕ → ℕ → List ℕ
made a b = a ∷ (1 - a) ∷ b ∷ (1 - b) ∷ 0 ∷ []

-- f is linear in the others once the values at 0 and 2 are known
least : (y : List ℕ) → ((i : ℕ) → get_or y i 0 < 2) → twice_f pairwise (made 0 0) ⊑ twice_f pairwise y
unfolding sum plus minus
least y full = by (zero_or_one (full 0)) (zero_or_one (full 2))
  where
    by : (get_or y 0 0 ≡ 0) ⊎ (get_or y 0 0 ≡ 1) → (get_or y 2 0 ≡ 0) ⊎ (get_or y 2 0 ≡ 1) → twice_f pairwise (made 0 0) ⊑ twice_f pairwise y
    by (inl a) (inl b) = rw (a, b) (omega (arith, full 1, full 3, full 4))
    by (inl a) (inr b) = rw (a, b) (omega (arith, full 1, full 3, full 4))
    by (inr a) (inl b) = rw (a, b) (omega (arith, full 1, full 3, full 4))
    by (inr a) (inr b) = rw (a, b) (omega (arith, full 1, full 3, full 4))

-- where f is the least they are the opposites, and 0
record Rest (y : List ℕ) : Type 0 where
  second : get_or y 1 0 ≡ 1 - get_or y 0 0
  fourth : get_or y 3 0 ≡ 1 - get_or y 2 0
  last : get_or y 4 0 ≡ 0

rest_of : (y : List ℕ) → ((i : ℕ) → get_or y i 0 < 2) → twice_f pairwise y ⊑ twice_f pairwise (made 0 0) → Rest y
unfolding sum plus minus
rest_of y full h = by (zero_or_one (full 0)) (zero_or_one (full 2))
  where
    f1 : get_or y 1 0 < 2
    f1 = full 1

    f3 : get_or y 3 0 < 2
    f3 = full 3

    f4 : get_or y 4 0 < 2
    f4 = full 4

    by : (get_or y 0 0 ≡ 0) ⊎ (get_or y 0 0 ≡ 1) → (get_or y 2 0 ≡ 0) ⊎ (get_or y 2 0 ≡ 1) → Rest y
    by (inl a) (inl b) = let g = rw (a, b) at h in record { second = omega (arith, g, f1, f3, f4); fourth = omega (arith, g, f1, f3, f4); last = omega (arith, g, f1, f3, f4) }
    by (inl a) (inr b) = let g = rw (a, b) at h in record { second = omega (arith, g, f1, f3, f4); fourth = omega (arith, g, f1, f3, f4); last = omega (arith, g, f1, f3, f4) }
    by (inr a) (inl b) = let g = rw (a, b) at h in record { second = omega (arith, g, f1, f3, f4); fourth = omega (arith, g, f1, f3, f4); last = omega (arith, g, f1, f3, f4) }
    by (inr a) (inr b) = let g = rw (a, b) at h in record { second = omega (arith, g, f1, f3, f4); fourth = omega (arith, g, f1, f3, f4); last = omega (arith, g, f1, f3, f4) }

-- f is the same at each choice
level : {a b : ℕ} → (a ≡ 0) ⊎ (a ≡ 1) → (b ≡ 0) ⊎ (b ≡ 1) → twice_f pairwise (made a b) ⊑ twice_f pairwise (made 0 0)
unfolding sum plus minus
level (inl e) (inl d) = rw (e, d) (omega arith)
level (inl e) (inr d) = rw (e, d) (omega arith)
level (inr e) (inl d) = rw (e, d) (omega arith)
level (inr e) (inr d) = rw (e, d) (omega arith)

completion : {a b : ℕ} → a < 2 → b < 2 → Completion (free two_pairs) (made a b)
completion {a} {b} ha hb = filled (made a b) (omega arith, (omega arith, (omega arith, (omega arith, (omega arith, _)))))

only_made : (a b : ℕ) → a < 2 → b < 2 → OnlyBest 1053 two_pairs (a ∷ 2 ∷ b ∷ 2 ∷ 2 ∷ []) (made a b)
only_made a b ha hb = record {
  best = record { completion = completion ha hb; least = λ y c. omega (arith, level (zero_or_one ha) (zero_or_one hb), least y c.full) };
  has = record { as_long = refl; kept = has };
  only = only;
}
  where
    has : (i : ℕ) → (◌≡◌ {A = ℕ} (get_or (a ∷ 2 ∷ b ∷ 2 ∷ 2 ∷ []) i 0) 2) ⊎ (get_or (made a b) i 0 ≡ get_or (a ∷ 2 ∷ b ∷ 2 ∷ 2 ∷ []) i 0)
    has zero = inr refl
    has (suc zero) = inl refl
    has (suc (suc zero)) = inr refl
    has (suc (suc (suc zero))) = inl refl
    has (suc (suc (suc (suc zero)))) = inl refl
    has (suc (suc (suc (suc (suc i))))) = inr refl

    only : (y : List ℕ) → IsBest 1053 two_pairs y → Extends (a ∷ 2 ∷ b ∷ 2 ∷ 2 ∷ []) y → y ≡ made a b
    only y best more = ext_get_or 0 y (made a b) more.as_long at
      where
        rest : Rest y
        rest = rest_of y best.completion.full (best.least (made 0 0) (completion (omega arith) (omega arith)))

        first : get_or y 0 0 ≡ a
        first = fixed (more.kept 0) ha

        second : get_or y 2 0 ≡ b
        second = fixed (more.kept 2) hb

        at : (i : ℕ) → i < length y → get_or y i 0 ≡ get_or (made a b) i 0
        at zero h = first
        at (suc zero) h = omega (arith, rest.second, first)
        at (suc (suc zero)) h = second
        at (suc (suc (suc zero))) h = omega (arith, rest.fourth, second)
        at (suc (suc (suc (suc zero)))) h = rest.last
        at (suc (suc (suc (suc (suc i))))) h = absurd (omega (arith, more.as_long))

-- Theorem. ALL FOUR CHOICES at the anchors 0 and 2 of two pairs, each with its one best completion.
pub four_choices : EachBest two_pairs four
four_choices = rw units_worked.0
    (only_made 0 0 (omega arith) (omega arith), (only_made 0 1 (omega arith) (omega arith), (only_made 1 0 (omega arith) (omega arith), (only_made 1 1 (omega arith) (omega arith), _))))

-- ---- case m

-- the choice 0 at the anchor, and its completion
abbrev choice : List ℕ
choice = 0 ∷ 2 ∷ []

abbrev opposite : List ℕ
opposite = 0 ∷ 1 ∷ []

opposite_full : Completion (free one_pair) opposite
opposite_full = filled opposite (omega arith, (omega arith, _))

only_opposite : OnlyBest 1053 one_pair choice opposite
unfolding sum plus minus
only_opposite = record {
  best = record { completion = opposite_full; least = λ y c. least_pair y c.full (zero_or_one (c.full 0)) };
  has = record { as_long = refl; kept = has };
  only = λ y best more. ext_get_or 0 y opposite more.as_long (at y best (fixed (more.kept 0) (omega arith)));
}
  where
    least_pair : (y : List ℕ) → ((i : ℕ) → get_or y i 0 < 2) → (get_or y 0 0 ≡ 0) ⊎ (get_or y 0 0 ≡ 1) → twice_f (whole_of 1053 one_pair) opposite ⊑ twice_f (whole_of 1053 one_pair) y
    least_pair y full (inl a) = rw a (omega (arith, full 1))
    least_pair y full (inr a) = rw a (omega (arith, full 1))

    has : (i : ℕ) → (get_or choice i 0 ≡ 2) ⊎ (get_or opposite i 0 ≡ get_or choice i 0)
    has zero = inr refl
    has (suc zero) = inl refl
    has (suc (suc i)) = inr refl

    at : (y : List ℕ) → IsBest 1053 one_pair y → get_or y 0 0 ≡ 0 → (i : ℕ) → i < length y → get_or y i 0 ≡ get_or opposite i 0
    at y best z zero h = z
    at y best z (suc zero) h = let g = rw z at (best.least opposite opposite_full) in omega (arith, g, best.completion.full 1)
    at y best z (suc (suc i)) h = absurd (omega (arith, best.completion.extends.as_long))

-- Theorem. ENUMERATED VALUES ARE NOT AMONG WHAT IT OBEYS: on case m the components are 1,0, and the one best completion with 0 at the anchor is 0,1.
pub enumerated_apart : ((enumerated one_pair).lent.values ≡ 1 ∷ 0 ∷ []) × EachBest one_pair turned
enumerated_apart = (components_worked.1, rw units_worked.1 (only_opposite, _))

-- ---- the swallowed rate beside case m

abbrev quarters : whole.Field
quarters = whole_of 1072 swallowing

abbrev unswallowed : List ℕ
unswallowed = 1 ∷ 0 ∷ 1 ∷ 0 ∷ 0 ∷ 1 ∷ []

unswallowed_full : Completion (free swallowing) unswallowed
unswallowed_full = filled unswallowed (omega arith, (omega arith, (omega arith, (omega arith, (omega arith, (omega arith, _))))))

least_rate : (y : List ℕ) → ((i : ℕ) → get_or y i 0 < 2) → (get_or y 0 0 ≡ 0) ⊎ (get_or y 0 0 ≡ 1) → (get_or y 4 0 ≡ 0) ⊎ (get_or y 4 0 ≡ 1)
    → twice_f quarters unswallowed ⊑ twice_f quarters y
unfolding sum plus minus
least_rate y full (inl a) (inl b) = rw (a, b) (omega (arith, full 1, full 2, full 3, full 5))
least_rate y full (inl a) (inr b) = rw (a, b) (omega (arith, full 1, full 2, full 3, full 5))
least_rate y full (inr a) (inl b) = rw (a, b) (omega (arith, full 1, full 2, full 3, full 5))
least_rate y full (inr a) (inr b) = rw (a, b) (omega (arith, full 1, full 2, full 3, full 5))

-- every best completion has 1 at variable 0
at_first : (x : List ℕ) → IsBest 1072 swallowing x → get_or x 0 0 ≡ 1
unfolding sum plus minus
at_first x best = by (zero_or_one (full 0)) (zero_or_one (full 4))
  where
    full : (i : ℕ) → get_or x i 0 < 2
    full = best.completion.full

    by : (get_or x 0 0 ≡ 0) ⊎ (get_or x 0 0 ≡ 1) → (get_or x 4 0 ≡ 0) ⊎ (get_or x 4 0 ≡ 1) → get_or x 0 0 ≡ 1
    by (inr e) d = e
    by (inl e) (inl d) = let g = rw (e, d) at (best.least unswallowed unswallowed_full) in absurd (omega (arith, g, full 1, full 2, full 3, full 5))
    by (inl e) (inr d) = let g = rw (e, d) at (best.least unswallowed unswallowed_full) in absurd (omega (arith, g, full 1, full 2, full 3, full 5))

-- Theorem. EXACTNESS CANNOT BE DROPPED: variable 4 is an anchor, and no best completion, counted in quarters, of which each weight is a whole number, obeys the gradient value x0 = 0.
pub exactness_needed : IsBest 1072 swallowing (1 ∷ 0 ∷ 1 ∷ 0 ∷ 0 ∷ 1 ∷ []) × ((x : List ℕ) → IsBest 1072 swallowing x → Obeys swallowing (free swallowing) x → ⊥)
exactness_needed = (
  record { completion = unswallowed_full; least = λ y c. least_rate y c.full (zero_or_one (c.full 0)) (zero_or_one (c.full 4)) },
  λ x best o.
      let value = gradient_value (floats swallowing) (words swallowing) Inexact 0 closure_worked.0 (ap (λ (l : List ℕ). get_or l 0 0) closure_worked.1) in
      omega (arith, at_first x best, o.values 0 0 (omega arith) (omega arith) value),
)
