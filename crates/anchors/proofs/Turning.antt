-- On an exact field either value of an anchor stands in some best completion. Assumes nothing.
use Prim.Native.Nat.{ℕ, zero, suc, ◌<◌}
use mathlib.Core.Path.{◌≡◌, refl, sym, ◌∙◌}
use mathlib.Core.Logic.{◌⊎◌, inl, inr}
use mathlib.Core.Bool.{Bool, true, false}
use mathlib.Core.List.{List, []}
use native.Mathlib.Omega.{arith}
use lib.ListN.{length, get_or, set}
use lib.Ieee.{ne}
use Rattle.whole.specs.Whole.{Zero}
use Rattle.weights.specs.Worth.{zero64}
use Rattle.meaning.specs.Symmetry.{Symmetric}
use Rattle.meaning.specs.Part.{Safe}
use Rattle.meaning.proofs.Theorems.{symmetric_stands}
use Rattle.expansion.proofs.Exact.{zero_test}
use Rattle.field.specs.Field.{Field, variables, entries, row_end, column_end, quad_of, Shaped, StartFor}
use Rattle.field.specs.Grade.{ExactIn}
use Rattle.field.specs.Reading.{whole_of}
use Rattle.field.proofs.Reading.{quad_worth, whole_within}
use Rattle.parts.specs.Walk.{opened, components}
use Rattle.parts.specs.Part.{has, Open, Joined, Reaches, here, there, Component}
use Rattle.parts.proofs.Going.{bool_cases, open_below}
use Rattle.parts.proofs.Marks.{opened_long, opened_all}
use Rattle.parts.proofs.Rest.{joined_back}
use Rattle.parts.proofs.Theorems.{components_found}
use Rattle.anchors.specs.Rule.{Leads, Turns, AnchorsOf, no_part, anchored, passed_over}
use Rattle.anchors.proofs.Balance.{balanced_is}

-- ---- a component of all variables

same_tests : (a b : Bool) → (a ≡ true → b ≡ true) → (b ≡ true → a ≡ true) → a ≡ b
same_tests true b f g = sym (f refl)
same_tests false true f g = g refl
same_tests false false f g = refl

reaches_open : {F : Field} {zeros : Bool} {marks : List ℕ} {start i : ℕ} → Reaches F zeros marks start i → Open marks i
reaches_open (here e o) = rw e o
reaches_open (there r J o) = o

module _ {u : ℕ} {F : Field} (S : Shaped F) (x : ExactIn u F) {s : List ℕ} (st : StartFor (variables F) s) {start : ℕ} {K : List ℕ} (C : Component F false (opened true s) start K) where
  joined_same : {i j : ℕ} → Joined F false i j → Open (opened true s) i → Open (opened true s) j → has K i ≡ has K j
  joined_same {i} {j} J oi oj = same_tests (has K i) (has K j) (λ h. C.all j (there (C.reached i h) J oj)) (λ h. C.all i (there (C.reached j h) (joined_back J) oi))

  -- an entry that leaves it weighs nothing
  inward : (k : ℕ) → k < entries F → (has K (row_end F k) ≡ has K (column_end F k)) ⊎ Zero ((whole_of u F).weight k)
  inward k h =
      bool_cases (ne (quad_of F k) zero64)
      (λ e. inl (joined_same (record { entry = k; below = h; joining = e; ends = inl (refl, refl) }) (opened_all s (row_end F k) (omega (arith, S.row_below k h, st.long)))
      (opened_all s (column_end F k) (omega (arith, S.column_below k h, st.long)))))
      (λ e. inr ((zero_test (quad_worth x k h)).0 e))

  member_below : (i : ℕ) → has K i ≡ true → i < variables F
  member_below i h = omega (arith, open_below (opened true s) i (reaches_open (C.reached i h)), opened_long true s, st.long)

  pub symmetric : {least : ℕ} → Turns F s least K → Symmetric (whole_of u F) s (has K)
  symmetric t = record { free = t.free; inward = inward; balanced = λ i h. (balanced_is S x i (member_below i h)).0 (t.symmetric i h) }

-- ---- the part that an anchor leads

pub record Owner (F : Field) (s : List ℕ) (least : ℕ) (Ks : List (List ℕ)) (a : ℕ) : Type 0 where
  pub part : ℕ
  pub below : part < length Ks
  pub turns : Turns F s least (get_or Ks part [])
  pub leads : Leads F (get_or Ks part []) a

pub owner : {F : Field} {s : List ℕ} {least : ℕ} {Ks : List (List ℕ)} {l : List ℕ} → AnchorsOf F s least Ks l → (j : ℕ) → j < length l → Owner F s least Ks (get_or l j 0)
owner no_part j h = absurd (omega arith)
owner (anchored t d rest) zero h = record { part = 0; below = omega arith; turns = t; leads = d }
owner (anchored t d rest) (suc j) h = let o = owner rest j (omega arith) in record { part = suc o.part; below = omega (arith, o.below); turns = o.turns; leads = o.leads }
owner (passed_over n rest) j h = let o = owner rest j h in record { part = suc o.part; below = omega (arith, o.below); turns = o.turns; leads = o.leads }

-- EITHER VALUE STANDS
pub either_stands : {u : ℕ} {F : Field} → Shaped F → ExactIn u F → {s : List ℕ} → StartFor (variables F) s → {least : ℕ} {l : List ℕ} → AnchorsOf F s least (components F false (opened true s)) l
    → (j : ℕ) → j < length l → (v : ℕ) → v < 2 → Safe (whole_of u F) s (set s (get_or l j 0) v)
either_stands {u} {F} S x {s} st {l = l} A j h v small =
    let o = owner A j h in
    let C = ((components_found S false (opened true s) (opened_long true s ∙ st.long)).each o.part o.below).component in
    symmetric_stands (whole_of u F) st.small st.long (whole_within u S) (has (get_or (components F false (opened true s)) o.part [])) (symmetric S x st C o.turns)
    (get_or l j 0) o.leads.member v small
