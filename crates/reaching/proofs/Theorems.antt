-- The theorems about reaching, over records between n variables. Assumes nothing.
use mathlib.Core.Path.{◌≡◌, refl}
use mathlib.Core.Logic.{◌↔◌}
use mathlib.Core.Bool.{true}
use mathlib.Core.List.{List}
use Prim.Native.Nat.{ℕ, ◌<◌}
use native.Mathlib.Decide.{dec_lt}
use native.Mathlib.Omega.{arith}
use lib.ListN.{get_or}
use Rattle.meaning.specs.Records.{Record, Ends, rules_of}
use Rattle.meaning.proofs.Implications.{rules_fit}
use Rattle.reaching.specs.Reach.{Reach, Contradictory, MeetsAll, SameBelow, Least}
use Rattle.reaching.specs.Via.{literal, reaches, first_contradictory}
use Rattle.reaching.proofs.Meets.{contradictory_none, meets_allows}
use Rattle.reaching.proofs.Choice.{least_unique}
use Rattle.reaching.proofs.Via.{reaches_exactly}
use Rattle.reaching.proofs.Picked.{first_within, named_both, picked_least}

module _ (l : List Record) {n : ℕ} (ends : Ends n l) where
  -- Theorem. After a stage for each literal the rows say exactly which literal reaches which.
  pub rows_reach : (i v j w : ℕ) → v < 2 → w < 2 → (reaches (rules_of l) n (literal i v) (literal j w) ≡ true) ↔ Reach (rules_of l) i v j w
  rows_reach = reaches_exactly (rules_fit l ends)

  -- Theorem. Some assignment meets every record exactly if no variable has literals that reach each other.
  pub allowed_exactly : ((x : List ℕ) × MeetsAll l n x) ↔ ((i : ℕ) → i < n → Contradictory (rules_of l) i → ⊥)
  allowed_exactly = (λ s i h b. contradictory_none b (meets_allows s.1), λ never. go never (dec_lt (first_contradictory (reaches (rules_of l) n) n) n))
    where
      go : ((i : ℕ) → i < n → Contradictory (rules_of l) i → ⊥) → Dec (first_contradictory (reaches (rules_of l) n) n < n) → (x : List ℕ) × MeetsAll l n x
      go never (yes h) = absurd (never _ h (named_both l ends h))
      go never (no h) = (_, (picked_least l ends (omega (arith, first_within (reaches (rules_of l) n) n))).meets_all)

-- A least assignment has 0 exactly where some assignment with its earlier choices has 0,
pub least_zero : {l : List Record} {n : ℕ} {x : List ℕ} → Least l n x → (i : ℕ) → i < n → (get_or x i 0 ≡ 0) ↔ ((y : List ℕ) × (MeetsAll l n y × (SameBelow i x y × (get_or y i 0 ≡ 0))))
least_zero {x = x} p i h = (λ e. (x, (p.meets_all, (λ j s. refl, e))), λ s. p.zero i h s.0 s.1.0 s.1.1.0 s.1.1.1)

-- and there is one only.
pub least_one : {l : List Record} {n : ℕ} {x y : List ℕ} → Least l n x → Least l n y → x ≡ y
least_one = least_unique
