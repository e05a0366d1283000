-- Assignments that have what the implications give: they are those that meet every record, and have all that a literal of theirs reaches. Assumes nothing.
use mathlib.Core.Path.{◌≡◌, refl}
use mathlib.Core.Logic.{⊎_elim}
use mathlib.Core.List.{List, Memᴰ}
use Prim.Native.Nat.{ℕ, ◌-◌, ◌<◌}
use native.Mathlib.Decide.{ℕ_discrete}
use native.Mathlib.Omega.{arith}
use lib.ListN.{length, get_or}
use Rattle.meaning.specs.Kinds.{Pair, pair}
use Rattle.meaning.specs.Literal.{Implication}
use Rattle.meaning.specs.Records.{Record, pairs_in, rules_of, Bans}
use Rattle.meaning.proofs.Bans.{bans_of}
use Rattle.meaning.proofs.Sets.{pair_small}
use Rattle.meaning.proofs.Records.{RuleOf, ahead, backward, rule_of, of_rule}
use Rattle.meaning.proofs.Values.{zero_or_one}
use Rattle.reaching.specs.Reach.{Reach, here, onward, Contradictory, MeetsAll}

-- x gives each of n variables 0 or 1, and has what each implication gives
pub record Allows (E : List Implication) (n : ℕ) (x : List ℕ) : Type 0 where
  pub as_long : length x ≡ n
  pub small : (i : ℕ) → get_or x i 0 < 2
  pub obeys : (e : Implication) → Memᴰ e E → get_or x e.from 0 ≡ e.when → get_or x e.to 0 ≡ e.gives

-- an assignment that has a literal has all that it reaches
pub reach_sound : {E : List Implication} {n : ℕ} {y : List ℕ} → Allows E n y → {i v j w : ℕ} → Reach E i v j w → get_or y i 0 ≡ v → get_or y j 0 ≡ w
reach_sound a here h = h
reach_sound a (onward {e = e} m q) h = a.obeys e m (reach_sound a q h)

-- where each literal of a variable reaches the other there is none
pub contradictory_none : {E : List Implication} {n : ℕ} {y : List ℕ} {i : ℕ} → Contradictory E i → Allows E n y → ⊥
contradictory_none {i = i} b a =
    ⊎_elim
    (λ z. omega (arith, reach_sound a b.up z))
    (λ z. omega (arith, reach_sound a b.down z))
    (zero_or_one (a.small i))

module _ {l : List Record} {n : ℕ} {x : List ℕ} where
  pub allows_meets : Allows (rules_of l) n x → MeetsAll l n x
  allows_meets a = record { as_long = a.as_long; small = a.small; meets = meets }
    where
      meets : (r : Record) → Memᴰ r l → Memᴰ (pair (get_or x r.lower 0) (get_or x r.higher 0)) (pairs_in r.set) → ⊥
      meets r m q =
          let s = pair_small r.set q in
          let z : get_or x r.higher 0 ≡ 1 - get_or x r.higher 0 = a.obeys _ (of_rule (ahead r.lower r.higher _ (bans_of m q) refl)) refl in
          omega arith

  pub meets_allows : MeetsAll l n x → Allows (rules_of l) n x
  meets_allows h = record { as_long = h.as_long; small = h.small; obeys = λ e m. go (rule_of l m) }
    where
      other : {a b : ℕ} → a < 2 → b < 2 → (a ≡ b → ⊥) → a ≡ 1 - b
      other {a} {b} ha hb n = elim (ℕ_discrete a b) [ yes z ↦ absurd (n z) | no z ↦ omega arith ]

      apart : {i j : ℕ} {p : Pair} → Bans l i j p → get_or x i 0 ≡ p.first → get_or x j 0 ≡ p.second → ⊥
      apart f a b = h.meets f.by f.among (rw (f.is_lower, f.is_higher, a, b) f.forbids)

      go : {e : Implication} → RuleOf l e → get_or x e.from 0 ≡ e.when → get_or x e.to 0 ≡ e.gives
      go (ahead i j p f d) =
          let s = pair_small f.by.set f.forbids in
          rw d (λ a. other (h.small j) s.second (apart f a))
      go (backward i j p f d) =
          let s = pair_small f.by.set f.forbids in
          rw d (λ b. other (h.small i) s.first (λ a. apart f a b))
