-- The theorems about the meaning's definitions, each in one statement. Assumes nothing.
use mathlib.Core.Path.{◌≡◌, subst}
use mathlib.Core.Logic.{◌≢◌, ◌↔◌}
use mathlib.Core.Bool.{Bool, true, not}
use mathlib.Core.List.{List, map, Memᴰ}
use Prim.Native.Nat.{ℕ, ◌<◌}
use lib.Count.{ones}
use lib.ListN.{length, get_or, set}
use Rattle.whole.specs.Whole.{Whole, nothing, ◌⊖◌, ◌≈◌}
use Rattle.meaning.specs.Steps.{Valid, Extends, Agrees, Closure}
use Rattle.meaning.specs.Passes.{closure}
use Rattle.meaning.specs.Field.{Field, Standard, Within, Completion, Best}
use Rattle.meaning.specs.Gradient.{View, view, Lags, Forced, Forces, verdict}
use Rattle.meaning.specs.Kinds.{Kind, Forbids, Constraint, Meets, Apart}
use Rattle.meaning.specs.Probe.{Probed, Found}
use Rattle.meaning.specs.Literal.{implications, Holds, BothWays, Settled, done, clash, propagate}
use Rattle.meaning.specs.Records.{Record, record_on, pairs_in, AllProper, Ends, MeetsRecord, rules_of, record_of, Excludes, SameBans}
use Rattle.meaning.specs.Rising.{Rising, merged_list}
use Rattle.meaning.specs.Part.{mix, Separate, LeastOn, Safe, NoEffect}
use Rattle.meaning.specs.Symmetry.{Symmetric}
use Rattle.meaning.specs.Pair.{margin, greatest, Tolerance, Always, dominated}
use Rattle.meaning.proofs.Order.{steps_extend, closure_unique, closure_keeps}
use Rattle.meaning.proofs.Passes.{closure_is}
use Rattle.meaning.proofs.Gradient.{forced_on, forces_lawful, forces_single, verdict_decides}
use Rattle.meaning.proofs.Sound.{best_has_closure}
use Rattle.meaning.proofs.Exists.{best_exists}
use Rattle.meaning.proofs.Probe.{probe_value, probe_constraint}
use Rattle.meaning.proofs.Literal.{propagate_clash, propagate_done}
use Rattle.meaning.proofs.Sets.{ones_count}
use Rattle.meaning.proofs.Bans.{same_refl}
use Rattle.meaning.proofs.Rising.{merged_bans, merged_rising, rising_same}
use Rattle.meaning.proofs.Records.{record_meets, one_meaning, one_pair_meaning, rules_covered, records_imply, implied_by_records}
use Rattle.meaning.proofs.Implications.{rules_fit, holds_in, holds_among, propagate_same}
use Rattle.meaning.proofs.Part.{part_safe}
use Rattle.meaning.proofs.Safe.{safe_trans, every_safe, no_effect_safe}
use Rattle.meaning.proofs.Symmetry.{either_safe}
use Rattle.meaning.proofs.Margin.{margin_exact, dominated_holds, margin_rises, greatest_is}

-- ---- the gradient closure

-- Theorem. There is a closure, and n passes over the variables compute it.
pub closure_exists : (F : Field) (s : List ℕ) → Closure (Forces F) s (closure (verdict F) s)
closure_exists F s = closure_is (forces_lawful F) (verdict_decides F) s

-- Theorem. Any order of steps gives the same.
pub closure_any_order : (F : Field) {s t t' : List ℕ} → Closure (Forces F) s t → Closure (Forces F) s t' → t ≡ t'
closure_any_order F c c' = closure_unique (forces_lawful F) (forces_single F) c c'

-- Theorem. Every best completion has each value of the closure.
pub closure_obeyed : (F : Field) {s t x : List ℕ} → Standard F → length s ≡ F.n → Closure (Forces F) s t → Best F s x → Extends t x
closure_obeyed F st long c b = best_has_closure st long c.reached b

-- Theorem. Further start values that contradict none of its values keep each of them.
pub closure_persists : (F : Field) {s s' t t' : List ℕ} → Closure (Forces F) s t → Closure (Forces F) s' t' → Extends s s' → Agrees s' t → Extends t t'
closure_persists F c c' p a = closure_keeps (forces_lawful F) (forces_single F) c c' p a

-- Theorem. There is a best completion.
pub best_completion_exists : (F : Field) (s : List ℕ) → Valid s → (x : List ℕ) × Best F s x
best_completion_exists = best_exists

-- Theorem. What is forced at a view that lags behind the values is forced at the values.
pub lagging_forces : (F : Field) (w : View) (s : List ℕ) → Lags w s → {i v : ℕ} → Forced F w i v → Forces F s i v
lagging_forces F w s lags f = forced_on w (view s) lags F f

-- ---- the probe

-- Theorem. Where both probes of a free variable give j one value, every best completion has it.
pub probe_values_hold : {F : Field} {s x t₀ t₁ : List ℕ} → Standard F → length s ≡ F.n → Best F s x → (i : ℕ) → get_or s i 0 ≡ 2 → Probed F s i 0 t₀ → Probed F s i 1 t₁
    → (j v : ℕ) → v < 2 → get_or t₀ j 0 ≡ v → get_or t₁ j 0 ≡ v → get_or x j 0 ≡ v
probe_values_hold st long b i free p₀ p₁ j = probe_value st long b i free p₀ p₁ j

-- Theorem. No best completion has a pair of values that a constraint found by the probes forbids, whichever of the six it is.
pub probe_constraints_hold : {F : Field} {s x t₀ t₁ : List ℕ} → Standard F → length s ≡ F.n → Best F s x → (i : ℕ) → get_or s i 0 ≡ 2 → Probed F s i 0 t₀ → Probed F s i 1 t₁
    → (j : ℕ) {k : Kind} → Found (get_or t₀ j 0) (get_or t₁ j 0) k → Forbids k (get_or x i 0) (get_or x j 0) → ⊥
probe_constraints_hold st long b i free p₀ p₁ j f = probe_constraint st long b i free p₀ p₁ j f

-- ---- pair dominance, for all four patterns at once

-- Theorem. f at a pattern less f at the opposite is above the tolerance for all values of the other free variables exactly if the margin is.
pub pair_margin_exact : (F : Field) (s : List ℕ) → Standard F → Within F → Valid s → length s ≡ F.n
    → (a b : Bool) (i j : ℕ) → i < F.n → j < F.n → i ≢ j → (P : Whole → Type 0) → Tolerance P
    → Always P a b F s i j ↔ P (margin a b F s i j)
pair_margin_exact F s st fits valid long a b i j hi hj ne P tol = margin_exact F st fits s valid long a b i j hi hj ne P tol

-- Theorem. Then no best completion has the pattern, which the constraint given for it forbids.
pub pair_constraint_holds : (F : Field) (s : List ℕ) → Standard F → Within F → Valid s → length s ≡ F.n
    → (a b : Bool) (i j : ℕ) → i < F.n → j < F.n → i ≢ j → (P : Whole → Type 0) → Tolerance P
    → get_or s i 0 ≡ 2 → get_or s j 0 ≡ 2 → P (margin a b F s i j) → (x : List ℕ) → Best F s x → Forbids (dominated a b) (get_or x i 0) (get_or x j 0) → ⊥
pair_constraint_holds F s st fits valid long a b i j hi hj ne P tol fi fj h x best =
    dominated_holds F st fits s valid long a b i j hi hj ne P tol fi fj h x best

-- Theorem. It stays when further values are fixed.
pub pair_constraint_stays : (F : Field) {s t : List ℕ} → Extends s t → (a b : Bool) (i j : ℕ) (P : Whole → Type 0) → Tolerance P → P (margin a b F s i j) → P (margin a b F t i j)
pair_constraint_stays F p a b i j P tol h = tol.rises (margin_rises a b F p i j) h

-- Theorem. The greatest of f at a pattern less f at the opposite is the margin of the opposite, turned: that it is below the tolerance's negative is that margin above the tolerance.
pub pair_greatest : (F : Field) (s : List ℕ) (a b : Bool) (i j : ℕ) → greatest a b F s i j ≈ nothing ⊖ margin (not a) (not b) F s i j
pair_greatest F s a b i j = greatest_is a b F s i j

-- ---- records

-- Theorem. Values meet a constraint exactly if they meet its record.
pub record_says : (x : List ℕ) (c : Constraint) → c.first ≢ c.second → Meets x c ↔ MeetsRecord x (record_of c)
record_says = record_meets

-- Theorem. Two constraints forbid the same pairs of values of the same variables exactly if they have one record.
pub equal_records : (c d : Constraint) → c.first ≢ c.second → d.first ≢ d.second → ((i a j b : ℕ) → Excludes c i a j b ↔ Excludes d i a j b) ↔ (record_of c ≡ record_of d)
equal_records = one_meaning

-- Theorem. On one pair of variables, two sets that the same values meet are one.
pub equal_sets : (i j S T : ℕ) → i ≢ j → S < 16 → T < 16 → ((x : List ℕ) → MeetsRecord x (record_on i j S) ↔ MeetsRecord x (record_on i j T)) → S ≡ T
equal_sets = one_pair_meaning

-- Theorem. Two rising lists of proper records forbid the same exactly if they are one list.
pub equal_lists : (l m : List Record) → AllProper l → AllProper m → Rising l → Rising m → SameBans l m ↔ (l ≡ m)
equal_lists l m a b r s = (rising_same l m a b r s, λ e. subst (SameBans l) e (same_refl l))

-- Theorem. A merged list rises, and forbids what the list does.
pub merged_rises : (l : List Record) → Rising (merged_list l)
merged_rises = merged_rising

-- Theorem. A merged list forbids exactly the pairs of values that the list forbids.
pub merged_says : (l : List Record) → SameBans (merged_list l) l
merged_says = merged_bans

-- Theorem. The number of forbidden pairs is the number of ones in the set.
pub pairs_counted : (S : ℕ) → S < 16 → ones S ≡ length (pairs_in S)
pairs_counted = ones_count

-- ---- propagation

-- Theorem. Propagation answers a clash exactly if literal closure holds some variable both ways.
pub propagation_clash : (l : List Record) (s : List ℕ) → Ends (length s) l → Valid s → (propagate (rules_of l) s ≡ clash) ↔ BothWays (rules_of l) s
propagation_clash l s ends valid = propagate_clash (rules_of l) s (rules_fit l ends) valid

-- Theorem. It answers t otherwise, exactly if t has just the literals that hold.
pub propagation_done : (l : List Record) (s : List ℕ) → Ends (length s) l → Valid s → (t : List ℕ) → (propagate (rules_of l) s ≡ done t) ↔ Settled (rules_of l) s t
propagation_done l s ends valid t = propagate_done (rules_of l) s (rules_fit l ends) valid t

-- Theorem. A completion that meets every record has every literal that holds.
pub literals_hold : (l : List Record) {s x : List ℕ} → Completion s x → ((r : Record) → Memᴰ r l → MeetsRecord x r) → {i v : ℕ} → Holds (rules_of l) s i v → get_or x i 0 ≡ v
literals_hold l full meets h = holds_in full l meets h

-- Theorem. Lists of equal meaning hold the same literals, in whatever order, merged or not.
pub same_literals : {l m : List Record} → SameBans l m → {s : List ℕ} {i v : ℕ} → Holds (rules_of l) s i v ↔ Holds (rules_of m) s i v
same_literals h = (holds_among (rules_covered h.to), holds_among (rules_covered h.from))

-- Theorem. Lists of equal meaning give the same answer of propagation.
pub same_answer : (l m : List Record) (s : List ℕ) → Ends (length s) m → Valid s → SameBans l m → propagate (rules_of l) s ≡ propagate (rules_of m) s
same_answer l m s ends valid h = propagate_same (rules_of l) (rules_of m) s (rules_fit m ends) valid (rules_covered h.to) (rules_covered h.from)

-- Theorem. The records of constraints hold exactly the literals that the constraints hold.
pub constraint_literals : (cs : List Constraint) → Apart cs → {s : List ℕ} {i v : ℕ} → Holds (implications cs) s i v ↔ Holds (rules_of (map record_of cs)) s i v
constraint_literals cs apart = (holds_among (records_imply cs apart), holds_among (implied_by_records cs apart))

-- ---- values that stand in some best completion

-- Theorem. The values of the closure do.
pub closure_stands : (F : Field) {s t : List ℕ} → Valid s → Standard F → length s ≡ F.n → Closure (Forces F) s t → Safe F s t
closure_stands F valid st long c = every_safe F valid (steps_extend (forces_lawful F) c.reached) (λ x b. closure_obeyed F st long c b)

-- Theorem. So do the least values of a separate part.
pub part_stands : (F : Field) {s y : List ℕ} → Valid s → (K : ℕ → Bool) → Separate F s K → LeastOn F s K y → Safe F s (mix K y s)
part_stands F {s = s} valid K sep l = part_safe K sep l (best_exists F s valid).1

-- Theorem. So does either value of a variable of no effect.
pub no_effect_stands : (F : Field) {s : List ℕ} → Valid s → (i v : ℕ) → get_or s i 0 ≡ 2 → v < 2 → NoEffect F i → Safe F s (set s i v)
no_effect_stands F valid i v free small none = no_effect_safe valid i v free small none

-- Theorem. So does either value of a variable of a symmetric part.
pub symmetric_stands : (F : Field) {s : List ℕ} → Valid s → length s ≡ F.n → Within F → (K : ℕ → Bool) → Symmetric F s K → (i : ℕ) → K i ≡ true → (v : ℕ) → v < 2 → Safe F s (set s i v)
symmetric_stands F {s = s} valid long fits K sy i e v small = either_safe sy long fits (best_exists F s valid).1 i e v small

-- Theorem. And so do values found so one after another.
pub one_after_another : (F : Field) {s t u : List ℕ} → Safe F s t → Safe F t u → Safe F s u
one_after_another F p q = safe_trans p q
