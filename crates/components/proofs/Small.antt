-- Each component of at most 10 free variables gets the values of the mask that wins at the start values, and all else is as it was. Assumes nothing.
use Prim.Native.Nat.{ℕ, zero, suc, ◌/◌, ◌%◌, ◌^◌, ◌<◌, ◌≤◌}
use mathlib.Core.Path.{◌≡◌, refl, ap, ◌∙◌}
use mathlib.Core.Logic.{◌≢◌}
use mathlib.Core.Bool.{Bool, true, false, cond}
use mathlib.Core.List.{List, [], ◌∷◌}
use native.Mathlib.Decide.{ℕ_discrete}
use native.Mathlib.Nat.{le_refl}
use native.Mathlib.Omega.{arith}
use borrow.Author.Tests.{le-leb, lt-leb}
use lib.Dec.{leb}
use lib.ListN.{length, get_or, take}
use Rattle.meaning.specs.Field.{Completion, twice_f}
use Rattle.field.specs.Field.{Field, variables, Shaped, StartFor}
use Rattle.field.specs.Grade.{ExactIn}
use Rattle.field.specs.Reading.{whole_of}
use Rattle.parts.specs.Walk.{components}
use Rattle.parts.specs.Part.{has, Open, Joined, Component, Partition}
use Rattle.parts.proofs.Going.{bool_cases, open_below}
use Rattle.parts.proofs.Listed.{has_at, at_has}
use Rattle.parts.proofs.Component.{reached_open, member_joined, component_closed, component_long}
use Rattle.parts.proofs.Theorems.{components_found}
use Rattle.masks.specs.Masks.{objective, Won, First, HasBits}
use Rattle.enumeration.specs.Terms.{terms_of, mask_of, put_to, solved}
use Rattle.enumeration.specs.Alone.{Alone}
use Rattle.enumeration.proofs.Bits.{put_at, put_other}
use Rattle.enumeration.proofs.Chosen.{mask_first}
use Rattle.enumeration.proofs.Local.{mask_alike}
use Rattle.enumeration.proofs.Bridge.{part_lowest}
use Rattle.components.specs.Small.{solved_part, solved_parts, small_parts}
use Rattle.components.proofs.Staging.{solved_long}

-- ---- parts one after another

module _ (F : Field) where
  small_part : (v members : List ℕ) → length members ≤ 10 → solved_part F v members ≡ put_to v members (mask_of F v members) (length members)
  unfolding solved_part solved
  small_part v members few = rw (le-leb (length members) 10 few)

  large_part : (v members : List ℕ) → 10 < length members → solved_part F v members ≡ v
  unfolding solved_part
  large_part v members many = rw (lt-leb (length members) 10 many)

  -- what holds of the values before, and after an enumeration, holds after a part
  part_either : (v members : List ℕ) (P : List ℕ → Type 0) → P (solved F v members) → P v → P (solved_part F v members)
  unfolding solved_part
  part_either v members P enumerated kept = by (leb (length members) 10)
    where
      by : (b : Bool) → P (cond b (solved F v members) v)
      by true = enumerated
      by false = kept

  parts_long : (v : List ℕ) (parts : List (List ℕ)) → length (solved_parts F v parts) ≡ length v
  unfolding solved_parts
  parts_long v [] = refl
  parts_long v (members ∷ more) = parts_long (solved_part F v members) more ∙ part_either v members (λ x. length x ≡ length v) (solved_long F v members) refl

  -- a variable of no part
  off_part : (v members : List ℕ) (i : ℕ) → has members i ≡ false → get_or (solved_part F v members) i 0 ≡ get_or v i 0
  unfolding solved
  off_part v members i e = part_either v members (λ x. get_or x i 0 ≡ get_or v i 0) (put_other v members (mask_of F v members) i e (length members) (le_refl _)) refl

  off_parts : (v : List ℕ) (parts : List (List ℕ)) (i : ℕ) → ((q : ℕ) → q < length parts → has (get_or parts q []) i ≡ false) → get_or (solved_parts F v parts) i 0 ≡ get_or v i 0
  unfolding solved_parts
  off_parts v [] i off = refl
  off_parts v (members ∷ more) i off = off_parts (solved_part F v members) more i (λ q h. off (suc q) (omega arith)) ∙ off_part v members i (off 0 (omega arith))

  -- of none of the first p parts
  off_first : (v : List ℕ) (parts : List (List ℕ)) (i p : ℕ) → ((q : ℕ) → q < p → q < length parts → has (get_or parts q []) i ≡ false)
      → get_or (solved_parts F v (take p parts)) i 0 ≡ get_or v i 0
  unfolding solved_parts
  off_first v parts i zero off = refl
  off_first v [] i (suc p) off = refl
  off_first v (members ∷ more) i (suc p) off =
      off_first (solved_part F v members) more i p (λ q h l. off (suc q) (omega arith) (omega arith)) ∙ off_part v members i (off 0 (omega arith) (omega arith))

  -- of none of the parts after part p
  at_part : (v : List ℕ) (parts : List (List ℕ)) (i p : ℕ) → p < length parts → ((q : ℕ) → p < q → q < length parts → has (get_or parts q []) i ≡ false)
      → get_or (solved_parts F v parts) i 0 ≡ get_or (solved_part F (solved_parts F v (take p parts)) (get_or parts p [])) i 0
  unfolding solved_parts
  at_part v [] i p h off = absurd (omega arith)
  at_part v (members ∷ more) i zero h off = off_parts (solved_part F v members) more i (λ q l. off (suc q) (omega arith) (omega arith))
  at_part v (members ∷ more) i (suc p) h off = at_part (solved_part F v members) more i p (omega arith) (λ q k l. off (suc q) (omega arith) (omega arith))

-- ---- the components

module _ {F : Field} (S : Shaped F) (s : List ℕ) (long : length s ≡ variables F) where
  parted : Partition F true s (components F true s)
  parted = components_found S true s long

  member_free : (q i : ℕ) → q < length (components F true s) → has (get_or (components F true s) q []) i ≡ true → Open s i
  member_free q i l h = reached_open ((parted.each q l).component.reached i h)

  given_off : (i : ℕ) → get_or s i 0 ≢ 2 → (q : ℕ) → q < length (components F true s) → has (get_or (components F true s) q []) i ≡ false
  given_off i n q l = bool_cases (has (get_or (components F true s) q []) i) (λ t. absurd (n (member_free q i l t))) (λ t. t)

  -- A given value stays.
  pub given_kept : (i : ℕ) → get_or s i 0 ≢ 2 → get_or (small_parts F s) i 0 ≡ get_or s i 0
  unfolding small_parts
  given_kept i n = off_parts F s (components F true s) i (given_off i n)

  -- one of them
  module _ (p : ℕ) (h : p < length (components F true s)) where
    abbrev members : List ℕ
    members = get_or (components F true s) p []

    component : Component F true s (parted.each p h).start members
    component = (parted.each p h).component

    only_here : (i : ℕ) → has members i ≡ true → (q : ℕ) → q < length (components F true s) → q ≢ p → has (get_or (components F true s) q []) i ≡ false
    only_here i e q l n = bool_cases (has (get_or (components F true s) q []) i) (λ t. absurd (n (parted.disjoint q p i l h t e))) (λ t. t)

    -- the values that those before it leave
    abbrev earlier : List ℕ
    earlier = solved_parts F s (take p (components F true s))

    earlier_same : (i : ℕ) → has members i ≡ true → get_or earlier i 0 ≡ get_or s i 0
    earlier_same i e = off_first F s (components F true s) i p (λ q l k. only_here i e q k (omega arith))

    -- no neighbour of a member is in another component
    neighbour_same : (i : ℕ) → has members i ≡ true → (j : ℕ) → Joined F true i j → get_or earlier j 0 ≡ get_or s j 0
    neighbour_same i e j J = elim (ℕ_discrete (get_or s j 0) 2) [
      | yes o ↦ earlier_same j (member_joined component e J o)
      | no n ↦ off_first F s (components F true s) j p (λ q l k. given_off j n q k)
    ]

    here : (i : ℕ) → has members i ≡ true → get_or (small_parts F s) i 0 ≡ get_or (solved_part F earlier members) i 0
    unfolding small_parts
    here i e = at_part F s (components F true s) i p h (λ q l k. only_here i e q k (omega arith))

    member_below : (b : ℕ) → b < length members → get_or members b 0 < variables F
    member_below b l = omega (arith, open_below s (get_or members b 0) (member_free p _ h (has_at members b l)), long)

    large_same : 10 < length members → (i : ℕ) → has members i ≡ true → get_or (small_parts F s) i 0 ≡ get_or s i 0
    large_same many i e = here i e ∙ ap (λ (v : List ℕ). get_or v i 0) (large_part F earlier members many) ∙ earlier_same i e

    module _ (few : length members ≤ 10) where
      pub has_bits : HasBits (small_parts F s) members (mask_of F s members)
      has_bits b l =
          here (get_or members b 0) (has_at members b l)
          ∙ ap (λ (v : List ℕ). get_or v (get_or members b 0) 0) (small_part F earlier members few)
          ∙ put_at earlier members (mask_of F earlier members) component.apart
          (λ c k. omega (arith, member_below c k, parts_long F s (take p (components F true s)), long)) (length members) b l (le_refl _)
          ∙ ap (λ (mask : ℕ). mask / 2 ^ b % 2) (mask_alike S s earlier members (λ c k. neighbour_same (get_or members c 0) (has_at members c k)))

      small_below : (i : ℕ) → has members i ≡ true → get_or (small_parts F s) i 0 < 2
      small_below i e = let a = at_has members i e in rw (← a.1.1, has_bits a.0 a.1.0) (omega arith)

      -- of equal sums the lowest mask wins: its bits, in pop order, are the values of a component of at most 10, whatever the sums are,
      pub lowest_first : (mask : ℕ) × (First (objective (terms_of F s members)) (2 ^ length members) mask × HasBits (small_parts F s) members mask)
      lowest_first = (mask_of F s members, (mask_first F s members, has_bits))

      alone : (u : ℕ) → Alone u F s members
      alone u = record {
        once = component.apart;
        below = member_below;
        free = λ i e. member_free p i h e;
        separate = λ k l. component_closed component k l refl;
      }

      -- and on an exact field it is the lowest of least objective, whatever completion the values of a mask are put into.
      pub lowest_of_best : {u : ℕ} → u ≤ 2044 → ExactIn u F → StartFor (variables F) s
          → (mask : ℕ) × (((x : List ℕ) → Completion s x → Won (λ m. twice_f (whole_of u F) (put_to x members m (length members))) (2 ^ length members) mask) × HasBits (small_parts F s) members mask)
      lowest_of_best {u} unit exact valid = (mask_of F s members, ((λ x C. part_lowest unit S exact valid (alone u) few C), has_bits))

  -- ---- a free variable, by what its component is

  module _ {i : ℕ} (free : Open s i) {mine : List ℕ} (C : Component F true s i mine) where
    -- a variable of a component of at most 10 has a value,
    pub small_valued : length mine ≤ 10 → get_or (small_parts F s) i 0 < 2
    small_valued few =
        let p = parted.one i free in
        small_below p.0 p.1.0 (omega (arith, component_long (parted.each p.0 p.1.0).component p.1.1 C)) i p.1.1

    -- and one of a larger component is still free.
    pub large_kept : 10 < length mine → get_or (small_parts F s) i 0 ≡ 2
    large_kept many =
        let p = parted.one i free in
        large_same p.0 p.1.0 (omega (arith, component_long (parted.each p.0 p.1.0).component p.1.1 C)) i p.1.1 ∙ free
