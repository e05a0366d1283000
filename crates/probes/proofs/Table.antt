-- What is found of a variable: by the table of rule 7.4, of a free variable other than the probed one. Assumes nothing.
use Prim.Native.Nat.{ℕ, zero, suc, ◌<◌, ◌≤◌}
use mathlib.Core.Path.{◌≡◌, refl, sym, ◌∙◌, ap}
use mathlib.Core.Logic.{◌≢◌}
use mathlib.Core.Bool.{Bool, true, false, cond}
use mathlib.Core.List.{List}
use native.Mathlib.Omega.{arith}
use native.Mathlib.Decide.{ℕ_discrete}
use borrow.Author.Tests.{eq-eqb, ne_eqb}
use lib.Dec.{eqb}
use lib.ListN.{get_or, set}
use Rattle.meaning.specs.Kinds.{Kind, at_least_one, exactly_one, no_more_than_one, greater_than, less_than, equal, Constraint, joining}
use Rattle.meaning.specs.Probe.{Found, both_equal, both_differ, zero_gives_0, zero_gives_1, one_gives_0, one_gives_1}
use Rattle.field.specs.Field.{Field}
use Rattle.run.specs.Run.{closure}
use Rattle.probe.specs.Call.{new_at}
use Rattle.probe.specs.Found.{Finding, nothing, value, constraint, found}
use Rattle.probe.proofs.Found.{none_constraint}
use Rattle.finding.specs.Finds.{gives_at, finding_of, finding, finding_by}
use Rattle.probes.specs.Rule.{Tabled}

-- ---- the executable table is that of rule 7.4

same_constraint : {c d : Constraint} → constraint c ≡ constraint d → c ≡ d
same_constraint e = cc

value_constraint : {w : ℕ} {c : Constraint} {A : Type 0} → value w ≡ constraint c → A
value_constraint e = let z : ◌≡◌ {A = ℕ} 0 1 = cc in absurd (omega arith)

-- Theorem. Every constraint that two values of a variable give by the program's table is one of the meaning's.
pub tabled : (i j a b : ℕ) → a ≤ 2 → b ≤ 2 → {c : Constraint} → found i j a b ≡ constraint c → Tabled i j a b c
unfolding found
tabled i j zero zero l m e = value_constraint e
tabled i j zero (suc zero) l m e = record { kind = equal; finds = both_equal; is = sym (same_constraint e) }
tabled i j zero (suc (suc b)) l m e = let z : suc (suc b) ≡ 2 = omega arith in record { kind = greater_than; finds = rw z zero_gives_0; is = sym (same_constraint e) }
tabled i j (suc zero) zero l m e = record { kind = exactly_one; finds = both_differ; is = sym (same_constraint e) }
tabled i j (suc zero) (suc zero) l m e = value_constraint e
tabled i j (suc zero) (suc (suc b)) l m e = let z : suc (suc b) ≡ 2 = omega arith in record { kind = at_least_one; finds = rw z zero_gives_1; is = sym (same_constraint e) }
tabled i j (suc (suc a)) zero l m e = let z : suc (suc a) ≡ 2 = omega arith in record { kind = no_more_than_one; finds = rw z one_gives_0; is = sym (same_constraint e) }
tabled i j (suc (suc a)) (suc zero) l m e = let z : suc (suc a) ≡ 2 = omega arith in record { kind = less_than; finds = rw z one_gives_1; is = sym (same_constraint e) }
tabled i j (suc (suc a)) (suc (suc b)) l m e = none_constraint e

-- Theorem. Every line of the meaning's table is one of the program's: the two values give just that constraint.
pub table_finds : (i j : ℕ) {a b : ℕ} {k : Kind} → Found a b k → found i j a b ≡ constraint (joining k i j)
unfolding found
table_finds i j both_equal = refl
table_finds i j both_differ = refl
table_finds i j zero_gives_0 = refl
table_finds i j zero_gives_1 = refl
table_finds i j one_gives_0 = refl
table_finds i j one_gives_1 = refl

pub value_found : (i j w : ℕ) → w < 2 → found i j w w ≡ value w
unfolding found
value_found i j zero h = refl
value_found i j (suc zero) h = refl
value_found i j (suc (suc w)) h = absurd (omega arith)

-- ---- what is found is found of a free variable other than the probed one

-- what the two probes leave at j
abbrev pub left : Field → List ℕ → ℕ → ℕ → ℕ → ℕ
left F s i v j = get_or (closure F (set s i v)) j 0

pub found_of : (F : Field) (s : List ℕ) (i j : ℕ) → i ≢ j → get_or s j 0 ≡ 2 → finding F s i j ≡ found i j (left F s i 0 j) (left F s i 1 j)
unfolding finding_by finding_of gives_at new_at
found_of F s i j other free = rw (ne_eqb i j other, eq-eqb (get_or s j 0) 2 free)

none_own : (F : Field) (s : List ℕ) (i j : ℕ) → i ≡ j → finding F s i j ≡ nothing
unfolding finding_by finding_of gives_at found
none_own F s i j e = rw (eq-eqb i j e)

none_start : (F : Field) (s : List ℕ) (i j : ℕ) → get_or s j 0 ≢ 2 → finding F s i j ≡ nothing
unfolding finding_by finding_of gives_at new_at found
none_start F s i j n = go (eqb i j)
  where
    go : (b : Bool) → found i j (cond b 2 (new_at (get_or s j 0) (left F s i 0 j))) (cond b 2 (new_at (get_or s j 0) (left F s i 1 j))) ≡ nothing
    go true = refl
    go false = rw (ne_eqb (get_or s j 0) 2 n)

pub record Looked (F : Field) (s : List ℕ) (i j : ℕ) (d : Finding) : Type 0 where
  pub other : i ≢ j
  pub free : get_or s j 0 ≡ 2
  pub finds : found i j (left F s i 0 j) (left F s i 1 j) ≡ d

pub looked : (F : Field) (s : List ℕ) (i j : ℕ) {d : Finding} → (nothing ≡ d → ⊥) → finding F s i j ≡ d → Looked F s i j d
looked F s i j {d} some e = go (ℕ_discrete i j) (ℕ_discrete (get_or s j 0) 2)
  where
    go : Dec (i ≡ j) → Dec (get_or s j 0 ≡ 2) → Looked F s i j d
    go (yes q) f = absurd (some (sym (none_own F s i j q) ∙ e))
    go (no n) (no f) = absurd (some (sym (none_start F s i j f) ∙ e))
    go (no n) (yes f) = record { other = n; free = f; finds = sym (found_of F s i j n f) ∙ e }

-- ---- its ends are the two variables

pub record Between (i j : ℕ) (c : Constraint) : Type 0 where
  pub from : c.first ≡ i
  pub to : c.second ≡ j

joins : {i j : ℕ} (k : Kind) {c : Constraint} → constraint (joining k i j) ≡ constraint c → Between i j c
joins k e = let q = sym (same_constraint e) in record { from = ap (λ (c : Constraint). c.first) q; to = ap (λ (c : Constraint). c.second) q }

pub found_between : (i j a b : ℕ) {c : Constraint} → found i j a b ≡ constraint c → Between i j c
unfolding found
found_between i j zero zero e = value_constraint e
found_between i j zero (suc zero) e = joins equal e
found_between i j zero (suc (suc b)) e = joins greater_than e
found_between i j (suc zero) zero e = joins exactly_one e
found_between i j (suc zero) (suc zero) e = value_constraint e
found_between i j (suc zero) (suc (suc b)) e = joins at_least_one e
found_between i j (suc (suc a)) zero e = joins no_more_than_one e
found_between i j (suc (suc a)) (suc zero) e = joins less_than e
found_between i j (suc (suc a)) (suc (suc b)) e = none_constraint e
