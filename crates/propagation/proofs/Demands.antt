-- What propagation shows, over the promise of the call `propagate` alone. Assumes nothing.
use Prim.Native.Nat.{ℕ, ◌<◌}
use mathlib.Core.Path.{◌≡◌, refl, sym, ap, ◌∙◌}
use mathlib.Core.Logic.{◌≢◌, ◌⊎◌, inl, inr, ⊎_elim, ◌↔◌}
use mathlib.Core.Bool.{true, false}
use mathlib.Core.List.{List, map, Memᴰ}
use native.Mathlib.Decide.{dec_lt}
use native.Mathlib.Omega.{arith}
use lib.ListN.{length, get_or, get_or-eq_default}
use Rattle.scratch.specs.Cleared.{cleared}
use Rattle.meaning.specs.Steps.{Extends}
use Rattle.meaning.specs.Field.{Completion}
use Rattle.meaning.specs.Kinds.{Constraint, Apart}
use Rattle.meaning.specs.Records.{Record, MeetsRecord, record_of, SameBans}
use Rattle.meaning.specs.Literal.{implications, Holds, BothWays, Settled, Answer, done, clash, propagate}
use Rattle.meaning.proofs.Theorems.{propagation_clash, propagation_done, literals_hold, same_literals, same_answer, constraint_literals}
use Rattle.field.specs.declared.Refusal.{Refusal}
use Rattle.field.specs.declared.Refusal.TheVariants.{Clash}
use Rattle.field.specs.Table.{FirstToFail}
use Rattle.field.proofs.Table.{group_is, last_is}
use Rattle.calls.specs.Call.{table, no_stage}
use Rattle.calls.proofs.Answers.{same_refused, done_apart}
use Rattle.calls.proofs.Call as any
use Rattle.calls.proofs.Usual as usual
use Rattle.calls.proofs.Usual.{this_stage, other_stage}
use Rattle.constraints.specs.Record.{records}
use Rattle.literals.specs.Listed.{Ready}
use Rattle.propagation.specs.Tests.{propagation_tests}
use Rattle.literals.specs.Ends.{rules}
use Rattle.propagation.specs.Call.{Left, left, agrees, values_in, propagation_table, propagate_call}
use Rattle.literals.proofs.Rules.{listed_ends}
use Rattle.propagation.proofs.Means.{ready_is}
use Rattle.propagation.proofs.Laws.{never_clash}
use Rattle.field.specs.Answers.{passed}
use Rattle.std.specs.Prelude.{Err}

-- Theorem. Any two results that the promise permits are equal.
pub one_result : (s list u : List ℕ) (x y : Left) → x ≡ propagate_call s list u → y ≡ propagate_call s list u → x ≡ y
one_result s list u = any.one_result (propagate_call s list u)

-- what propagation answers is a clash, or values
clashes : (a : Answer) → agrees a ≡ false → a ≡ clash
clashes clash e = refl
clashes (done t) e = let z : ◌≡◌ {A = ℕ} 0 1 = cc in absurd (omega arith)

gives : (s : List ℕ) (a : Answer) → agrees a ≡ true → a ≡ done (values_in s a)
gives s (done t) e = refl
gives s clash e = let z : ◌≡◌ {A = ℕ} 0 1 = cc in absurd (omega arith)

module _ (s list u : List ℕ) where
  -- Theorem. It is refused with r exactly if the tests before r's own pass, and its own fails: 10 is the last.
  pub refused_when : (r : Refusal) → ((propagate_call s list u).answer ≡ Err r) ↔ FirstToFail (propagation_table s list (length u)) r
  unfolding propagate_call table
  refused_when = usual.refused_when Err _ _ _ _ same_refused done_apart refl

  -- Theorem. One of 1 to 8 changes nothing lent.
  pub refused_leaves : (r : Refusal) → r ≢ Clash → (propagate_call s list u).answer ≡ Err r → propagate_call s list u ≡ left (Err r) s u
  unfolding propagate_call
  refused_leaves r n e = usual.refused_leaves Err _ _ _ _ same_refused done_apart r (other_stage n no_stage) e

  -- Theorem. It answers 10 exactly if all tests pass and literal closure holds some variable both ways.
  pub clash_when : ((propagate_call s list u).answer ≡ Err Clash) ↔ (Ready s list (length u) × BothWays (rules list) s)
  unfolding propagate_call
  clash_when =
      let t = usual.last_when Err _ _ Clash _ _ same_refused done_apart (never_clash s list (length u)) (agrees (propagate (rules list) s)) in (
        λ e. let p = t.0 e in let r = (ready_is s list (length u)).0 p.0 in (r, (propagation_clash (records list) s (listed_ends r.listed) r.small).0 (clashes _ p.1)),
        λ h. t.1 ((ready_is s list (length u)).1 h.0, ap agrees ((propagation_clash (records list) s (listed_ends h.0.listed) h.0.small).1 h.1)),
      )

  -- Theorem. That leaves the start values as they were, and zeros in all of the scratch.
  pub clash_leaves : (propagate_call s list u).answer ≡ Err Clash → propagate_call s list u ≡ left (Err Clash) s (cleared 0 u)
  unfolding propagate_call
  clash_leaves e = usual.later_leaves Err _ _ _ _ same_refused done_apart Clash _ (never_clash s list (length u)) (this_stage no_stage) e

  -- Theorem. Then no completion of the start values meets every record.
  pub clash_means : (propagate_call s list u).answer ≡ Err Clash → {x : List ℕ} → Completion s x → ((r : Record) → Memᴰ r (records list) → MeetsRecord x r) → ⊥
  clash_means e full meets =
      let b = (clash_when.0 e).1 in
      omega (arith, literals_hold (records list) full meets b.zero, literals_hold (records list) full meets b.one)

  -- all stages pass
  passed_when : ((propagate_call s list u).answer ≡ passed) ↔ (Ready s list (length u) × (agrees (propagate (rules list) s) ≡ true))
  unfolding propagate_call table
  passed_when =
      usual.done_when Err _ _ _ _ same_refused done_apart
      (group_is (propagation_tests s list (length u)) _ (ready_is s list (length u)) (last_is Clash _ ((λ e. e), λ e. e)))

  module _ (e : (propagate_call s list u).answer ≡ passed) where
    -- Otherwise all tests pass,
    pub done_ready : Ready s list (length u)
    done_ready = (passed_when.0 e).0

    leaves_all : propagate_call s list u ≡ left passed (values_in s (propagate (rules list) s)) (cleared 0 u)
    unfolding propagate_call
    leaves_all = usual.done_leaves Err _ _ _ _ same_refused done_apart (λ r z. done_apart r (sym e ∙ z))

    -- Theorem. When it is done, the scratch is all zeros.
    pub done_leaves : propagate_call s list u ≡ left passed (propagate_call s list u).lent.values (cleared 0 u)
    done_leaves = rw leaves_all

    -- Theorem. When it is done, the values are exactly the literals that hold.
    pub values_settle : Settled (rules list) s (propagate_call s list u).lent.values
    values_settle =
        rw leaves_all
        ((propagation_done (records list) s (listed_ends done_ready.listed) done_ready.small (values_in s (propagate (rules list) s))).0 (gives s _ (passed_when.0 e).1))

    -- Theorem. A completion of the start values that meets every record has every value that it gives.
    pub completion_has : {x : List ℕ} → Completion s x → ((r : Record) → Memᴰ r (records list) → MeetsRecord x r) → Extends (propagate_call s list u).lent.values x
    completion_has {x} full meets = record { as_long = long; kept = λ i. kept i (dec_lt i (length (propagate_call s list u).lent.values)) }
      where
        long : length x ≡ length (propagate_call s list u).lent.values
        long = full.extends.as_long ∙ sym values_settle.as_long

        kept : (i : ℕ) → Dec (i < length (propagate_call s list u).lent.values) → (get_or (propagate_call s list u).lent.values i 0 ≡ 2) ⊎ (get_or x i 0 ≡ get_or (propagate_call s list u).lent.values i 0)
        kept i (yes h) = ⊎_elim inl (λ z. inr (literals_hold (records list) full meets z)) (values_settle.only i h)
        kept i (no h) =
            inr (get_or-eq_default x 0 {n = i} (omega (arith, long)) ∙ sym (get_or-eq_default (propagate_call s list u).lent.values 0 {n = i} (omega arith)))

  -- Theorem. It is done exactly if all tests pass and no variable is held both ways.
  pub done_when : ((propagate_call s list u).answer ≡ passed) ↔ (Ready s list (length u) × (BothWays (rules list) s → ⊥))
  done_when = (
    λ e. (done_ready e, λ b. done_apart Clash (sym e ∙ clash_when.1 (done_ready e, b))),
    λ h. passed_when.1 (h.0, free (propagate (rules list) s) (λ z. h.1 ((propagation_clash (records list) s (listed_ends h.0.listed) h.0.small).0 z))),
  )
    where
      free : (a : Answer) → (a ≡ clash → ⊥) → agrees a ≡ true
      free clash n = absurd (n refl)
      free (done t) n = refl

-- Theorem. Two lists of equal meaning, in whatever order, merged or not, get one answer and leave the same.
pub same_meaning : (s list list' u : List ℕ) → Ready s list (length u) → Ready s list' (length u) → SameBans (records list) (records list') → propagate_call s list u ≡ propagate_call s list' u
same_meaning s list list' u r r' h = go (propagate (rules list) s) refl
  where
    same : propagate (rules list) s ≡ propagate (rules list') s
    same = same_answer (records list) (records list') s (listed_ends r'.listed) r'.small h

    refuses : (l : List ℕ) → Ready s l (length u) → propagate (rules l) s ≡ clash → propagate_call s l u ≡ left (Err Clash) s (cleared 0 u)
    refuses l k e = clash_leaves s l u ((clash_when s l u).1 (k, (propagation_clash (records l) s (listed_ends k.listed) k.small).0 e))

    gives_all : (l t : List ℕ) → Ready s l (length u) → propagate (rules l) s ≡ done t → propagate_call s l u ≡ left passed t (cleared 0 u)
    gives_all l t k e = leaves_all s l u ((passed_when s l u).1 (k, ap agrees e)) ∙ ap (λ (a : Answer). left passed (values_in s a) (cleared 0 u)) e

    go : (a : Answer) → propagate (rules list) s ≡ a → propagate_call s list u ≡ propagate_call s list' u
    go clash e = refuses list r e ∙ sym (refuses list' r' (sym same ∙ e))
    go (done t) e = gives_all list t r e ∙ sym (gives_all list' t r' (sym same ∙ e))

-- Theorem. The literals that hold are exactly those of the constraints whose records the list has, merged or not.
pub constraints_hold : (s list : List ℕ) (cs : List Constraint) → Apart cs → SameBans (records list) (map record_of cs) → (i v : ℕ) → Holds (rules list) s i v ↔ Holds (implications cs) s i v
constraints_hold s list cs apart h i v =
    let a = same_literals h {s = s} {i = i} {v = v} in
    let b = constraint_literals cs apart {s = s} {i = i} {v = v} in
    ((λ p. b.1 (a.0 p)), λ p. a.1 (b.0 p))
