-- What follows of the anchors' choices at once (rule 9.9): a listed anchor has no value, and no record joins two. Assumes nothing.
use Prim.Native.Nat.{ℕ, zero, suc, ◌-◌, ◌<◌}
use mathlib.Core.Path.{◌≡◌, refl, ap, ◌∙◌}
use mathlib.Core.Logic.{◌≢◌}
use mathlib.Core.Bool.{Bool, true, false, cond}
use mathlib.Core.List.{List, [], ◌∷◌, Memᴰ}
use native.Mathlib.Omega.{arith}
use borrow.Author.Tests.{eq-eqb, ne_eqb}
use lib.Dec.{eqb}
use lib.ListN.{length, get_or}
use lib.Ieee.{Float}
use Rattle.meaning.specs.Kinds.{Pair}
use Rattle.meaning.specs.Records.{Record, pairs_in}
use Rattle.meaning.proofs.Sets.{some_pair, pair_small}
use Rattle.field.specs.declared.Grade.TheVariants as grade
use Rattle.field.specs.Field.{Field, variables}
use Rattle.field.specs.Grade.{unit_of, Serves}
use Rattle.field.proofs.Exact.{exact_means}
use Rattle.anchors.specs.Call.{anchors_call}
use Rattle.anchors.proofs.Demands.{fit, told}
use Rattle.together.specs.Found.{Leaves, Lists}
use Rattle.together.specs.Together.{AllAtOnce}
use Rattle.together.proofs.Obeying.{lists_fit}
use Rattle.together.proofs.Demands.{all_at_once}
use Rattle.field.specs.Answers.{counted_answer}

one_inside : (x : List ℕ) (i : ℕ) → get_or x i 0 ≡ 1 → i < length x
one_inside [] i h = omega arith
one_inside (v ∷ x) zero h = omega arith
one_inside (v ∷ x) (suc i) h = omega (arith, one_inside x i h)

module _ (F : Field) (s : List ℕ) (least : ℕ) (list : List ℕ) (f : List Float) (u : List ℕ) (k : ℕ) (e : (anchors_call F s least list f u).answer ≡ counted_answer grade.Exact k) where
  unit_serves : Serves (unit_of F) F
  unit_serves = (exact_means F (fit F s least list f u _ k e).shaped.rows_long).0 (told F s least list f u _ k e).0

  -- a listed anchor is a variable, since some completion has 1 there
  anchor_below : (j : ℕ) → j < k → get_or (anchors_call F s least list f u).lent.list j 0 < variables F
  anchor_below j h =
      let T = all_at_once F s least list f u k e unit_serves (λ i. 1) (λ i g. omega arith) in
      let long : length T.completion ≡ variables F = T.best.completion.extends.as_long ∙ (fit F s least list f u _ k e).start.long in
      omega (arith, long, one_inside T.completion (get_or (anchors_call F s least list f u).lent.list j 0) (T.chosen j h))

  -- Theorem. No listed anchor has a gradient or a probe value: the other choice would break it.
  pub anchor_unvalued : (j : ℕ) → j < k → (v : ℕ) → v < 2 → Leaves F s (get_or (anchors_call F s least list f u).lent.list j 0) v → ⊥
  anchor_unvalued j h v few found =
      let T = all_at_once F s least list f u k e unit_serves (λ i. 1 - v) (λ i g. omega arith) in
      omega (arith, T.chosen j h, T.obeys.values _ v (anchor_below j h) few found)

  -- Theorem. No record joins two listed anchors: the choice of a pair that it forbids would break it.
  pub anchors_unjoined : (r : Record) → Lists F s r → (i j : ℕ) → i < k → j < k
      → r.lower ≡ get_or (anchors_call F s least list f u).lent.list i 0 → r.higher ≡ get_or (anchors_call F s least list f u).lent.list j 0 → ⊥
  anchors_unjoined r found i j hi hj lower higher = T.obeys.records r found (rw (at_lower, at_higher) forbidden.1)
    where
      forbidden : (p : Pair) × Memᴰ p (pairs_in r.set)
      forbidden = some_pair r.set (lists_fit found).proper.some (lists_fit found).proper.four

      value : Bool → ℕ
      value b = cond b forbidden.0.first forbidden.0.second

      few : (b : Bool) → value b < 2
      few true = (pair_small r.set forbidden.1).first
      few false = (pair_small r.set forbidden.1).second

      T : AllAtOnce (unit_of F) F s (anchors_call F s least list f u).lent.list k (λ n. value (eqb n i))
      T = all_at_once F s least list f u k e unit_serves (λ n. value (eqb n i)) (λ n h. few (eqb n i))

      other : j ≢ i
      other z = omega (arith, (lists_fit found).rising, lower, rw z at higher)

      at_lower : get_or T.completion r.lower 0 ≡ forbidden.0.first
      at_lower = ap (λ (n : ℕ). get_or T.completion n 0) lower ∙ T.chosen i hi ∙ ap value (eq-eqb i i refl)

      at_higher : get_or T.completion r.higher 0 ≡ forbidden.0.second
      at_higher = ap (λ (n : ℕ). get_or T.completion n 0) higher ∙ T.chosen j hj ∙ ap value (ne_eqb j i other)
