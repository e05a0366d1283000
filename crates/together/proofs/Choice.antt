-- The choices at anchors, one component after another: each leaves the components after it free. Assumes nothing.
use Prim.Native.Nat.{ℕ, zero, suc, ◌<◌}
use mathlib.Core.Path.{◌≡◌, refl, sym, ◌∙◌}
use mathlib.Core.Logic.{◌≢◌, ⊎_elim}
use mathlib.Core.Bool.{Bool, true, false, true≢false}
use mathlib.Core.List.{List, [], ◌∷◌}
use native.Mathlib.Omega.{arith}
use lib.ListN.{length, get_or, set}
use lib.Seq.{get_or-set_same, get_or-set_other}
use Rattle.meaning.specs.Steps.{Valid}
use Rattle.meaning.specs.Field as whole
use Rattle.meaning.specs.Part.{Safe}
use Rattle.meaning.specs.Symmetry.{Symmetric}
use Rattle.meaning.proofs.Values.{inside, fixed, after_set, extends_refl}
use Rattle.meaning.proofs.Safe.{every_safe}
use Rattle.meaning.proofs.Theorems.{symmetric_stands, one_after_another}
use Rattle.field.specs.Field.{Field, variables, Shaped, StartFor}
use Rattle.field.specs.Grade.{ExactIn}
use Rattle.field.specs.Reading.{whole_of}
use Rattle.field.proofs.Reading.{whole_within}
use Rattle.parts.specs.Walk.{opened, components}
use Rattle.parts.specs.Part.{has, Component}
use Rattle.parts.proofs.Marks.{opened_long}
use Rattle.parts.proofs.Theorems.{components_found}
use Rattle.anchors.specs.Rule.{AnchorsOf, no_part, anchored, passed_over}
use Rattle.anchors.proofs.Turning.{owner, symmetric}

-- the variables of l have their choices in values that some best completion has, and all others are as they were
record Made (G : whole.Field) (s l : List ℕ) (choice : ℕ → ℕ) : Type 0 where
  values : List ℕ
  small : Valid values
  safe : Safe G s values
  chosen : (j : ℕ) → j < length l → get_or values (get_or l j 0) 0 ≡ choice j
  elsewhere : (i : ℕ) → ((j : ℕ) → j < length l → i ≢ get_or l j 0) → get_or values i 0 ≡ get_or s i 0

module _ {G : whole.Field} {s : List ℕ} (valid : Valid s) (long : length s ≡ G.n) (within : whole.Within G) where
  nothing_chosen : {choice : ℕ → ℕ} → Made G s [] choice
  nothing_chosen = record {
    values = s;
    small = valid;
    safe = every_safe G valid (extends_refl s) (λ x b. b.completion.extends);
    chosen = λ j h. absurd (omega arith);
    elsewhere = λ i h. refl;
  }

  -- a symmetric part that holds none of the variables chosen so far has either value at a
  one_more : {l : List ℕ} {choice : ℕ → ℕ} → Made G s l (λ j. choice (suc j)) → (K : ℕ → Bool) → Symmetric G s K → ((j : ℕ) → j < length l → K (get_or l j 0) ≡ false)
      → (a : ℕ) → K a ≡ true → choice 0 < 2 → Made G s (a ∷ l) choice
  one_more {l} {choice} m K sy others a mine few = record {
    values = set m.values a (choice 0);
    small = small;
    safe = one_after_another G m.safe (symmetric_stands G m.small long_now within K still a mine (choice 0) few);
    chosen = chosen;
    elsewhere = λ i h. get_or-set_other m.values a i (choice 0) 0 (h 0 (omega arith)) ∙ m.elsewhere i (λ j g. h (suc j) (omega arith));
  }
    where
      long_now : length m.values ≡ G.n
      long_now = m.safe.extends.as_long ∙ long

      not_chosen : (i : ℕ) → K i ≡ true → (j : ℕ) → j < length l → i ≢ get_or l j 0
      not_chosen i h j g e = true≢false (sym h ∙ rw e (others j g))

      free_now : (i : ℕ) → K i ≡ true → get_or m.values i 0 ≡ 2
      free_now i h = m.elsewhere i (not_chosen i h) ∙ sy.free i h

      still : Symmetric G m.values K
      still = record { free = free_now; inward = sy.inward; balanced = sy.balanced }

      below : a < length m.values
      below = inside m.values a (free_now a mine)

      small : Valid (set m.values a (choice 0))
      small i = ⊎_elim (λ z. omega (arith, z.1)) (λ z. omega (arith, z, m.small i)) (after_set m.values a (choice 0) below i)

      chosen : (j : ℕ) → j < suc (length l) → get_or (set m.values a (choice 0)) (get_or (a ∷ l) j 0) 0 ≡ choice j
      chosen zero h = get_or-set_same m.values a (choice 0) 0 below
      chosen (suc j) h = get_or-set_other m.values a (get_or l j 0) (choice 0) 0 (λ e. not_chosen a mine j (omega arith) (sym e)) ∙ m.chosen j (omega arith)

-- no variable is in two parts
abbrev Disjoint : List (List ℕ) → Type 0
Disjoint Ks = (p q i : ℕ) → p < length Ks → q < length Ks → has (get_or Ks p []) i ≡ true → has (get_or Ks q []) i ≡ true → p ≡ q

rest_disjoint : (K : List ℕ) (Ks : List (List ℕ)) → Disjoint (K ∷ Ks) → Disjoint Ks
rest_disjoint K Ks apart p q i hp hq e f = omega (arith, apart (suc p) (suc q) i (omega arith) (omega arith) e f)

module _ {u : ℕ} {F : Field} (S : Shaped F) (x : ExactIn u F) {s : List ℕ} (st : StartFor (variables F) s) where
  abbrev Components : List (List ℕ) → Type 0
  Components Ks = (p : ℕ) → p < length Ks → (start : ℕ) × Component F false (opened true s) start (get_or Ks p [])

  rest_components : (K : List ℕ) (Ks : List (List ℕ)) → Components (K ∷ Ks) → Components Ks
  rest_components K Ks each p h = each (suc p) (omega arith)

  each_made : {least : ℕ} {Ks : List (List ℕ)} {l : List ℕ} → AnchorsOf F s least Ks l → Components Ks → Disjoint Ks
      → (choice : ℕ → ℕ) → ((j : ℕ) → j < length l → choice j < 2) → Made (whole_of u F) s l choice
  each_made no_part each apart choice few = nothing_chosen st.small st.long (whole_within u S)
  each_made {Ks = K ∷ Ks} (passed_over n rest) each apart choice few = each_made rest (rest_components K Ks each) (rest_disjoint K Ks apart) choice few
  each_made {Ks = K ∷ Ks} {l = a ∷ l} (anchored t d rest) each apart choice few =
      one_more st.small st.long (whole_within u S)
      (each_made rest (rest_components K Ks each) (rest_disjoint K Ks apart) (λ j. choice (suc j)) (λ j h. few (suc j) (omega arith)))
      (has K) (symmetric S x st (each 0 (omega arith)).1 t) others a d.member (few 0 (omega arith))
    where
      others : (j : ℕ) → j < length l → has K (get_or l j 0) ≡ false
      others j h = by (has K (get_or l j 0)) refl
        where
          by : (b : Bool) → has K (get_or l j 0) ≡ b → has K (get_or l j 0) ≡ false
          by true e = let o = owner rest j h in absurd (omega (arith, apart 0 (suc o.part) (get_or l j 0) (omega arith) (omega (arith, o.below)) e o.leads.member))
          by false e = e

  -- THE CHOICE: some best completion has every choice at once
  pub choices_stand : {least : ℕ} {l : List ℕ} → AnchorsOf F s least (components F false (opened true s)) l → (choice : ℕ → ℕ) → ((j : ℕ) → j < length l → choice j < 2)
      → (y : List ℕ) × (whole.Best (whole_of u F) s y × ((j : ℕ) → j < length l → get_or y (get_or l j 0) 0 ≡ choice j))
  choices_stand A choice few =
      let P = components_found S false (opened true s) (opened_long true s ∙ st.long) in
      let m = each_made A (λ p h. ((P.each p h).start, (P.each p h).component)) P.disjoint choice few in
      (m.safe.witness, (m.safe.best, λ j h. fixed (m.safe.agrees.kept _) (omega (arith, m.chosen j h, few j h)) ∙ m.chosen j h))
