-- Components by their meaning alone: what joins a member is a member, and each member has the same component, however it is listed. Assumes nothing.
use Prim.Native.Nat.{ℕ, ◌<◌, ◌≤◌}
use mathlib.Core.Path.{◌≡◌, refl, sym, ap, ◌∙◌}
use mathlib.Core.Logic.{◌≢◌, ◌⊎◌, ⊎_elim}
use mathlib.Core.Bool.{Bool, true, false≢true}
use mathlib.Core.List.{List, [], ◌∷◌, ◌++◌}
use native.Mathlib.Omega.{arith}
use borrow.Author.Tests.{eq-eqb, eqb-true}
use lib.Dec.{eqb}
use lib.ListN.{length, get_or, length-append}
use Rattle.field.specs.Field.{Field, entries, row_end, column_end}
use Rattle.parts.specs.Walk.{joins}
use Rattle.parts.specs.Part.{has, Apart, Open, Joined, Reaches, here, there, Component}
use Rattle.parts.proofs.Listed.{either, second, has_else}
use Rattle.parts.proofs.Rest.{joined_back, both_ends}

-- ---- reaching goes on, and back

module _ {F : Field} {zeros : Bool} {marks : List ℕ} where
  pub reached_open : {start i : ℕ} → Reaches F zeros marks start i → Open marks i
  reached_open (here e o) = rw e o
  reached_open (there r J o) = o

  reaches_on : {start i j : ℕ} → Reaches F zeros marks start i → Reaches F zeros marks i j → Reaches F zeros marks start j
  reaches_on r (here e o) = rw e r
  reaches_on r (there s J o) = there (reaches_on r s) J o

  reaches_back : {start i : ℕ} → Reaches F zeros marks start i → Reaches F zeros marks i start
  reaches_back (here e o) = here (sym e) (rw e o)
  reaches_back (there r J o) = reaches_on (there (here refl o) (joined_back J) (reached_open r)) (reaches_back r)

-- ---- what joins a member

module _ {F : Field} {zeros : Bool} {marks : List ℕ} {start : ℕ} {members : List ℕ} (K : Component F zeros marks start members) where
  pub member_joined : {i j : ℕ} → has members i ≡ true → Joined F zeros i j → Open marks j → has members j ≡ true
  member_joined h J o = K.all _ (there (K.reached _ h) J o)

  -- an entry that joins has both ends among the members or none, or an end that is not open
  pub component_closed : (k : ℕ) → k < entries F → joins F zeros k ≡ true
      → (has members (row_end F k) ≡ has members (column_end F k)) ⊎ ((get_or marks (row_end F k) 0 ≢ 2) ⊎ (get_or marks (column_end F k) 0 ≢ 2))
  component_closed = both_ends marks (has members) (λ i j J o h. member_joined h J o)

-- ---- a list without repeats is no longer than one that has all its members

split_at : (l : List ℕ) (j : ℕ) → has l j ≡ true → (before : List ℕ) × ((after : List ℕ) × (l ≡ before ++ (j ∷ after)))
unfolding has
split_at [] j h = absurd (false≢true h)
split_at (x ∷ l) j h = ⊎_elim
    (λ e. ([], (l, ap (λ (k : ℕ). k ∷ l) (eqb-true x j e))))
    (λ e. let s = split_at l j e in (x ∷ s.0, (s.1.0, ap (λ (k : List ℕ). x ∷ k) s.1.1)))
    (either (eqb x j) (has l j) h)

no_longer : (l m : List ℕ) → Apart l → ((i : ℕ) → has l i ≡ true → has m i ≡ true) → length l ≤ length m
unfolding has Apart
no_longer [] m a all = omega arith
no_longer (j ∷ l) m a all =
    omega (arith, no_longer l (s.0 ++ s.1.0) a.1 others, ap length s.1.1, length-append s.0 (j ∷ s.1.0), length-append s.0 s.1.0)
  where
    s : (before : List ℕ) × ((after : List ℕ) × (m ≡ before ++ (j ∷ after)))
    s = split_at m j (all j (rw (eq-eqb j j refl)))

    others : (i : ℕ) → has l i ≡ true → has (s.0 ++ s.1.0) i ≡ true
    others i h =
        sym (has_else s.0 s.1.0 j i (λ e. false≢true (sym a.0 ∙ ap (has l) (sym e) ∙ h)))
        ∙ ap (λ (k : List ℕ). has k i) (sym s.1.1)
        ∙ all i (second (eqb j i) (has l i) h)

-- the component of a start, and that of one of its members, are as long
pub component_long : {F : Field} {zeros : Bool} {marks : List ℕ} {start i : ℕ} {members mine : List ℕ}
    → Component F zeros marks start members → has members i ≡ true → Component F zeros marks i mine → length members ≡ length mine
component_long {i = i} {members = members} {mine = mine} K h M =
    let r = K.reached i h in
    let a = no_longer members mine K.apart (λ j g. M.all j (reaches_on (reaches_back r) (K.reached j g))) in
    let b = no_longer mine members M.apart (λ j g. K.all j (reaches_on r (M.reached j g))) in
    omega arith
