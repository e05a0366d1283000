-- Walks one after another: each finds a component of the marks that the first one started from. Assumes nothing.
use Prim.Native.Nat.{ℕ, ◌<◌}
use mathlib.Core.Path.{◌≡◌, refl, sym, ◌∙◌}
use mathlib.Core.Logic.{◌≢◌, ◌⊎◌, inl, inr, ⊎_elim}
use mathlib.Core.Bool.{Bool, true, false}
use mathlib.Core.List.{List}
use native.Mathlib.Decide.{ℕ_discrete}
use native.Mathlib.Omega.{arith}
use lib.ListN.{length, get_or}
use Rattle.field.specs.Field.{Field, Shaped, variables, entries, row_end, column_end}
use Rattle.parts.specs.Walk.{joins, members_from, marks_from}
use Rattle.parts.specs.Part.{has, Open, Joined, Reaches, here, there, Component, Rest}
use Rattle.parts.proofs.Going.{bool_cases}
use Rattle.parts.proofs.Walking.{walk_component, walk_long, walk_taken, walk_other, closed_member, member_open, start_member}

pub joined_back : {F : Field} {zeros : Bool} {i j : ℕ} → Joined F zeros i j → Joined F zeros j i
joined_back J = record { entry = J.entry; below = J.below; joining = J.joining; ends = ⊎_elim (λ a. inr a) (λ b. inl b) J.ends }

same_tests : (a b : Bool) → (a ≡ true → b ≡ true) → (b ≡ true → a ≡ true) → a ≡ b
same_tests true b f g = sym (f refl)
same_tests false true f g = g refl
same_tests false false f g = refl

-- members that each entry that joins leads from to open ones: it has both ends among them or none, or an end that is not open
pub both_ends : {F : Field} {zeros : Bool} (marks : List ℕ) (K : ℕ → Bool) → ((i j : ℕ) → Joined F zeros i j → Open marks j → K i ≡ true → K j ≡ true)
    → (k : ℕ) → k < entries F → joins F zeros k ≡ true → (K (row_end F k) ≡ K (column_end F k)) ⊎ ((get_or marks (row_end F k) 0 ≢ 2) ⊎ (get_or marks (column_end F k) 0 ≢ 2))
both_ends {F} {zeros} marks K on k h e =
    let J : Joined F zeros (row_end F k) (column_end F k) = record { entry = k; below = h; joining = e; ends = inl (refl, refl) } in
    elim (ℕ_discrete (get_or marks (row_end F k) 0) 2) [
      | no ne ↦ inr (inl ne)
      | yes r ↦ elim (ℕ_discrete (get_or marks (column_end F k) 0) 2) [
        | no ne ↦ inr (inr ne)
        | yes c ↦ inl (same_tests _ _ (on _ _ J c) (on _ _ (joined_back J) r))
      ]
    ]

pub rest_start : {F : Field} {zeros : Bool} {marks : List ℕ} → length marks ≡ variables F → Rest F zeros marks marks
rest_start long = record { long = long; fewer = λ i o. o; shut = λ i j J o ne p. absurd (ne o) }

module _ {F : Field} (S : Shaped F) {zeros : Bool} {marks₀ marks : List ℕ} (R : Rest F zeros marks₀ marks) (start : ℕ) where
  abbrev members : List ℕ
  members = members_from F zeros marks start

  -- an entry that joins leads from a member to a member, or to a variable that was not open at first
  closed_one : (i j : ℕ) → Joined F zeros i j → Open marks₀ j → has members i ≡ true → has members j ≡ true
  closed_one i j J o h =
      let K = walk_component S zeros marks R.long start in
      let open-i = member_open S zeros marks R.long start i h in
      K.all j (there (K.reached i h) J (elim (ℕ_discrete (get_or marks j 0) 2) [
        | yes e ↦ e
        | no ne ↦ absurd (R.shut j i (joined_back J) o ne (R.fewer i open-i) open-i)
      ]))

  pub rest_closed : (k : ℕ) → k < entries F → joins F zeros k ≡ true
      → (has members (row_end F k) ≡ has members (column_end F k)) ⊎ ((get_or marks₀ (row_end F k) 0 ≢ 2) ⊎ (get_or marks₀ (column_end F k) 0 ≢ 2))
  rest_closed = both_ends marks₀ (has members) closed_one

  earlier : {i : ℕ} → Reaches F zeros marks start i → Reaches F zeros marks₀ start i
  earlier (here e o) = here e (R.fewer start o)
  earlier (there {j = j} r J o) = there (earlier r) J (R.fewer j o)

  pub rest_component : Open marks start → Component F zeros marks₀ start members
  rest_component o = record {
    apart = (walk_component S zeros marks R.long start).apart;
    reached = λ i h. earlier ((walk_component S zeros marks R.long start).reached i h);
    all = every;
  }
    where
      every : (i : ℕ) → Reaches F zeros marks₀ start i → has members i ≡ true
      every i (here e p) = rw e (start_member S zeros marks R.long start o)
      every i (there r J p) = closed_one _ i J p (every _ r)

  pub rest_walk : Rest F zeros marks₀ (marks_from F zeros marks start)
  rest_walk = record { long = walk_long S zeros marks R.long start; fewer = λ i o. R.fewer i (still_open i o); shut = λ i j J oi ni oj o. shut i j J oi ni (still_open j o) o }
    where
      still_open : (i : ℕ) → Open (marks_from F zeros marks start) i → Open marks i
      still_open i o = bool_cases (has members i)
          (λ h. absurd (omega (arith, o, (walk_taken S zeros marks R.long start i h).marked)))
          (λ h. sym (walk_other S zeros marks R.long start i h) ∙ o)

      shut : (i j : ℕ) → Joined F zeros i j → Open marks₀ i → get_or (marks_from F zeros marks start) i 0 ≢ 2 → Open marks j → Open (marks_from F zeros marks start) j → ⊥
      shut i j J oi ni oj o = elim (ℕ_discrete (get_or marks i 0) 2) [
        | no ne ↦ R.shut i j J oi ne (R.fewer j oj) oj
        | yes e ↦ (let h = closed_one i j J (R.fewer j oj) (closed_member S zeros marks R.long start i e ni) in
            omega (arith, o, (walk_taken S zeros marks R.long start j h).marked))
      ]
