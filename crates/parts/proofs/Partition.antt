-- From each lowest start: the components found are all there are, and no variable is in two. Assumes nothing.
use Prim.Native.Nat.{ℕ, zero, suc, ◌+◌, ◌<◌}
use mathlib.Core.Path.{◌≡◌, refl, sym, ◌∙◌}
use mathlib.Core.Logic.{◌≢◌}
use mathlib.Core.Bool.{Bool, true}
use mathlib.Core.List.{List, [], ◌∷◌, ◌++◌}
use native.Mathlib.Decide.{ℕ_discrete, dec_lt}
use native.Mathlib.Omega.{arith}
use borrow.Author.Tests.{eq-eqb, ne_eqb}
use lib.ListN.{length, get_or, length-append, get_or-append}
use lib.Seq.{get_or_at}
use Rattle.field.specs.Field.{Field, Shaped, variables}
use Rattle.parts.specs.Walk.{members_from, marks_from, Parts, part_at, parts_to, components}
use Rattle.parts.specs.Part.{has, Open, Rest, Found, Partition}
use Rattle.parts.proofs.Going.{bool_cases, open_below}
use Rattle.parts.proofs.Walking.{walk_taken, walk_other, closed_member, member_open, start_member, walk_first}
use Rattle.parts.proofs.Rest.{rest_start, rest_walk, rest_component}

-- where the starts below i have been tried
pub record Parting (F : Field) (zeros : Bool) (marks₀ : List ℕ) (i : ℕ) (p : Parts) : Type 0 where
  pub rest : Rest F zeros marks₀ p.marks
  pub tried : (j : ℕ) → j < i → get_or p.marks j 0 ≢ 2
  pub each : (x : ℕ) → x < length p.found → Found F zeros marks₀ (get_or p.found x [])
  pub gone : (x j : ℕ) → x < length p.found → has (get_or p.found x []) j ≡ true → get_or p.marks j 0 ≢ 2
  pub one : (j : ℕ) → Open marks₀ j → get_or p.marks j 0 ≢ 2 → (x : ℕ) × ((x < length p.found) × (has (get_or p.found x []) j ≡ true))
  pub disjoint : (x y j : ℕ) → x < length p.found → y < length p.found → has (get_or p.found x []) j ≡ true → has (get_or p.found y []) j ≡ true → x ≡ y
  pub below : (x : ℕ) → x < length p.found → get_or (get_or p.found x []) 0 0 < i
  pub rising : (x y : ℕ) → x < y → y < length p.found → get_or (get_or p.found x []) 0 0 < get_or (get_or p.found y []) 0 0

module _ {F : Field} (S : Shaped F) {zeros : Bool} {marks₀ : List ℕ} where
  -- a start that is not open
  skip : {i : ℕ} {p : Parts} → Parting F zeros marks₀ i p → get_or p.marks i 0 ≢ 2 → Parting F zeros marks₀ (suc i) p
  skip {i} P ne = record {
    rest = P.rest;
    tried = λ j h. elim (ℕ_discrete j i) [ yes e ↦ rw e ne | no other ↦ P.tried j (omega arith) ];
    each = P.each;
    gone = P.gone;
    one = P.one;
    disjoint = P.disjoint;
    below = λ x h. omega (arith, P.below x h);
    rising = P.rising;
  }

  -- an open one
  module _ {i : ℕ} {p : Parts} (P : Parting F zeros marks₀ i p) (o : Open p.marks i) where
    abbrev members : List ℕ
    members = members_from F zeros p.marks i

    abbrev marks : List ℕ
    marks = marks_from F zeros p.marks i

    abbrev more : List (List ℕ)
    more = p.found ++ (members ∷ [])

    more_long : length more ≡ length p.found + 1
    more_long = length-append p.found (members ∷ [])

    at_last : get_or more (length p.found) [] ≡ members
    at_last = get_or_at p.found members [] [] (length p.found) refl

    at_old : (x : ℕ) → x < length p.found → get_or more x [] ≡ get_or p.found x []
    at_old x h = get_or-append p.found (members ∷ []) [] x h

    -- what holds of the components so far and of the new one holds of all
    each_more : (Q : ℕ → List ℕ → Type 0) → ((x : ℕ) → x < length p.found → Q x (get_or p.found x [])) → Q (length p.found) members
        → (x : ℕ) → x < length more → Q x (get_or more x [])
    each_more Q old new x h = elim (dec_lt x (length p.found)) [
      | yes l ↦ rw (at_old x l) (old x l)
      | no l ↦ (let e : x ≡ length p.found = omega (arith, more_long) in rw (e, at_last) new)
    ]

    closed : (j : ℕ) → get_or p.marks j 0 ≢ 2 → get_or marks j 0 ≢ 2
    closed j ne k = bool_cases (has members j)
        (λ h. omega (arith, k, (walk_taken S zeros p.marks P.rest.long i j h).marked))
        (λ h. ne (sym (walk_other S zeros p.marks P.rest.long i j h) ∙ k))

    member_gone : (j : ℕ) → has members j ≡ true → get_or marks j 0 ≢ 2
    member_gone j h k = omega (arith, k, (walk_taken S zeros p.marks P.rest.long i j h).marked)

    first_is : get_or members 0 0 ≡ i
    first_is = walk_first S zeros p.marks P.rest.long i o

    found_new : Found F zeros marks₀ members
    found_new = record {
      start = i;
      opens = P.rest.fewer i o;
      component = rest_component S P.rest i o;
      lowest = λ j h. elim (dec_lt j i) [ yes l ↦ absurd (P.tried j l (member_open S zeros p.marks P.rest.long i j h)) | no l ↦ omega arith ];
      first = first_is;
    }

    -- a member was in no component before
    new_only : (x j : ℕ) → x < length p.found → has (get_or p.found x []) j ≡ true → has members j ≡ true → ⊥
    new_only x j l h k = P.gone x j l h (member_open S zeros p.marks P.rest.long i j k)

    walk_one : Parting F zeros marks₀ (suc i) (record { marks = marks; found = more })
    walk_one = record {
      rest = rest_walk S P.rest i;
      tried = λ j h. elim (ℕ_discrete j i) [ yes e ↦ rw e (member_gone i (start_member S zeros p.marks P.rest.long i o)) | no other ↦ closed j (P.tried j (omega arith)) ];
      each = each_more (λ x l. Found F zeros marks₀ l) P.each found_new;
      gone = λ x j l. each_more (λ x l. has l j ≡ true → get_or marks j 0 ≢ 2) (λ x l h. closed j (P.gone x j l h)) (member_gone j) x l;
      one = λ j k ne. elim (ℕ_discrete (get_or p.marks j 0) 2) [
        | yes e ↦ (length p.found, (omega (arith, more_long), rw at_last (closed_member S zeros p.marks P.rest.long i j e ne)))
        | no q ↦ (let f = P.one j k q in (f.0, (omega (arith, more_long, f.1.0), rw (at_old f.0 f.1.0) f.1.1)))
      ];
      disjoint = λ x y j lx ly. each_more (λ x l. has l j ≡ true → has (get_or more y []) j ≡ true → x ≡ y)
          (λ x l h. each_more (λ y m. has m j ≡ true → x ≡ y) (λ y k g. P.disjoint x y j l k h g) (λ g. absurd (new_only x j l h g)) y ly)
          (λ h. each_more (λ y m. has m j ≡ true → length p.found ≡ y) (λ y k g. absurd (new_only y j k g h)) (λ g. refl) y ly)
          x lx;
      below = each_more (λ x l. get_or l 0 0 < suc i) (λ x h. omega (arith, P.below x h)) (rw first_is (omega arith));
      rising = λ x y l ly. each_more (λ y m. x < y → get_or (get_or more x []) 0 0 < get_or m 0 0)
          (λ y h k. rw (at_old x (omega arith)) (P.rising x y k h))
          (λ k. rw (at_old x k, first_is) (P.below x k))
          y ly l;
    }

  part_turn : {i : ℕ} {p : Parts} → Parting F zeros marks₀ i p → Parting F zeros marks₀ (suc i) (part_at F zeros p i)
  unfolding part_at
  part_turn {i} {p} P = elim (ℕ_discrete (get_or p.marks i 0) 2) [
    | yes e ↦ rw (eq-eqb (get_or p.marks i 0) 2 e) (walk_one P e)
    | no ne ↦ rw (ne_eqb (get_or p.marks i 0) 2 ne) (skip P ne)
  ]

  module _ (long : length marks₀ ≡ variables F) where
    parting : (i : ℕ) → Parting F zeros marks₀ i (parts_to F zeros marks₀ i)
    unfolding parts_to
    parting zero = record {
      rest = rest_start long;
      tried = λ j h. absurd (omega arith);
      each = λ x h. absurd (omega arith);
      gone = λ x j h. absurd (omega arith);
      one = λ j o ne. absurd (ne o);
      disjoint = λ x y j h. absurd (omega arith);
      below = λ x h. absurd (omega arith);
      rising = λ x y l h. absurd (omega arith);
    }
    parting (suc i) = part_turn (parting i)

    pub rest_parts : (i : ℕ) → Rest F zeros marks₀ (parts_to F zeros marks₀ i).marks
    rest_parts i = (parting i).rest

    pub components_partition : Partition F zeros marks₀ (components F zeros marks₀)
    unfolding components
    components_partition =
        let P = parting (variables F) in
        record { each = P.each; one = λ j o. P.one j o (P.tried j (omega (arith, open_below marks₀ j o))); disjoint = P.disjoint; rising = P.rising }
