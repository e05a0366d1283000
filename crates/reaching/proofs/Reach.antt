-- Reaching is transitive, and turns round where the implications do, as those of records. Assumes nothing.
use mathlib.Core.Path.{◌≡◌, refl}
use mathlib.Core.List.{List, Memᴰ}
use Prim.Native.Nat.{ℕ, ◌-◌, ◌<◌}
use native.Mathlib.Omega.{arith}
use Rattle.meaning.specs.Literal.{Implication}
use Rattle.meaning.specs.Records.{Record, rules_of}
use Rattle.meaning.proofs.Literal.{Fits}
use Rattle.meaning.proofs.Sets.{pair_small}
use Rattle.meaning.proofs.Records.{RuleOf, ahead, backward, rule_of, of_rule}
use Rattle.reaching.specs.Reach.{Reach, here, onward}

pub reach_trans : {E : List Implication} {i v j w k u : ℕ} → Reach E i v j w → Reach E j w k u → Reach E i v k u
reach_trans p here = p
reach_trans p (onward m q) = onward m (reach_trans p q)

-- one implication
pub reach_one : {E : List Implication} (e : Implication) → Memᴰ e E → Reach E e.from e.when e.to e.gives
reach_one e m = onward m here

-- what is reached from a value 0 or 1 is a value 0 or 1, and a variable from a variable
pub reach_small : {E : List Implication} {n : ℕ} → Fits n E → {i v j w : ℕ} → v < 2 → Reach E i v j w → w < 2
reach_small fits h here = h
reach_small fits h (onward {e = e} m q) = (fits e m).gives

pub reach_below : {E : List Implication} {n : ℕ} → Fits n E → {i v j w : ℕ} → i < n → Reach E i v j w → j < n
reach_below fits h here = h
reach_below fits h (onward {e = e} m q) = (fits e m).to

-- ---- contraposition

abbrev pub contraposed : Implication → Implication
contraposed e = record { from = e.to; when = 1 - e.gives; to = e.from; gives = 1 - e.when }

-- E has the contraposition of each of its implications
abbrev pub Turns : List Implication → Type 0
Turns E = (e : Implication) → Memᴰ e E → Memᴰ (contraposed e) E

pub reach_turned : {E : List Implication} {n : ℕ} → Fits n E → Turns E → {i v j w : ℕ} → v < 2 → Reach E i v j w → Reach E j (1 - w) i (1 - v)
reach_turned fits turns h here = here
reach_turned fits turns h (onward {e = e} m q) = reach_trans (reach_one (contraposed e) (turns e m)) (reach_turned fits turns h q)

-- the two implications of a forbidden pair are each other's
pub rules_turn : (l : List Record) → Turns (rules_of l)
rules_turn l e m = go (rule_of l m)
  where
    go : RuleOf l e → Memᴰ (contraposed e) (rules_of l)
    go (ahead i j p f d) =
        let s = pair_small f.by.set f.forbids in
        let g : 1 - (1 - p.second) ≡ p.second = omega arith in
        rw (d, g) (of_rule (backward i j p f refl))
    go (backward i j p f d) =
        let s = pair_small f.by.set f.forbids in
        let g : 1 - (1 - p.first) ≡ p.first = omega arith in
        rw (d, g) (of_rule (ahead i j p f refl))
