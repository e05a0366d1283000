-- Demands 1 to 3 for a single probe, over the promise of the call `probe_one` alone. Assumes nothing.
use Prim.Native.Nat.{ℕ, ◌<◌}
use mathlib.Core.Path.{◌≡◌, refl, sym, ap, ◌∙◌}
use mathlib.Core.Logic.{◌≢◌, ◌↔◌, ⊎_elim}
use mathlib.Core.List.{List}
use native.Mathlib.Decide.{ℕ_discrete}
use native.Mathlib.Omega.{arith}
use borrow.Author.Tests.{eq-eqb, ne_eqb, eqb-false}
use lib.Dec.{eqb}
use lib.ListN.{length, get_or, set, length-set}
use lib.Seq.{get_or-set_same}
use lib.Ieee.{Float}
use Rattle.weights.specs.Worth.{zero64}
use Rattle.scratch.specs.Cleared.{cleared}
use Rattle.scratch.proofs.Means.{eq_is}
use Rattle.meaning.specs.Steps.{Extends}
use Rattle.meaning.specs.Field.{Best}
use Rattle.meaning.proofs.Values.{inside, after_set, fixed}
use Rattle.meaning.proofs.Probe.{best_has_probe}
use Rattle.field.specs.declared.Grade.{Grade}
use Rattle.field.specs.declared.Grade.TheVariants.{Exact}
use Rattle.field.specs.declared.Refusal.{Refusal}
use Rattle.field.specs.declared.Refusal.TheVariants.{Room}
use Rattle.field.specs.Field.{Field, variables, Shaped, StartFor}
use Rattle.field.specs.Table.{FirstToFail}
use Rattle.field.specs.Grade.{grade_of, unit_of, Serves}
use Rattle.field.specs.Reading.{whole_of}
use Rattle.field.proofs.Table.{group_is, last_is}
use Rattle.field.proofs.Exact.{exact_means}
use Rattle.calls.specs.Call.{table, no_stage}
use Rattle.calls.proofs.Answers.{same_refused, done_apart}
use Rattle.calls.proofs.Call as any
use Rattle.calls.proofs.Usual as usual
use Rattle.calls.proofs.Usual.{this_stage, other_stage}
use Rattle.rows.proofs.Upto.{get_d_up_to}
use Rattle.run.specs.Run.{closure}
use Rattle.run.proofs.Theorems as run
use Rattle.probe.specs.Call.{probe_tests, probe_table, Probable, new_at, new_only, probe_one, given_by, Gives, Left, left, probe_one_call, probe_one_by}
use Rattle.probe.proofs.Laws.{probe_passes, never_room}
use Rattle.std.specs.Prelude.{Ok, Err}

-- Theorem. Any two results that the promise permits are equal.
pub one_result : (F : Field) (s : List ℕ) (i v : ℕ) (t : List ℕ) (f : List Float) (u : List ℕ) (x y : Left)
    → x ≡ probe_one_call F s i v t f u → y ≡ probe_one_call F s i v t f u → x ≡ y
one_result F s i v t f u = any.one_result (probe_one_call F s i v t f u)

module _ (F : Field) (s : List ℕ) (i v : ℕ) (t : List ℕ) (f : List Float) (u : List ℕ) where
  -- ---- DEMAND 1

  -- Theorem. The call is refused with r exactly if the tests before r's own pass, and its own fails.
  pub refused_when : (r : Refusal) → ((probe_one_call F s i v t f u).answer ≡ Err r) ↔ FirstToFail (probe_table F s i v t (length f) (length u)) r
  unfolding probe_one_by probe_table table
  refused_when = usual.refused_when Err _ _ _ _ same_refused done_apart refl

  -- Theorem. A refusal from 1 to 8 changes nothing lent.
  pub refused_leaves : (r : Refusal) → r ≢ Room → (probe_one_call F s i v t f u).answer ≡ Err r → probe_one_call F s i v t f u ≡ left (Err r) t f u
  unfolding probe_one_by
  refused_leaves r n e = usual.refused_leaves Err _ _ _ _ same_refused done_apart r (other_stage n no_stage) e

  -- Theorem. Refusal 9 is given exactly if those tests pass and the list is not n long.
  pub room_when : ((probe_one_call F s i v t f u).answer ≡ Err Room) ↔ (Probable F s i v (length f) (length u) × (length t ≢ variables F))
  unfolding probe_one_by
  room_when =
      let w = usual.last_when Err _ _ Room _ _ same_refused done_apart (never_room F s i v (length f) (length u)) (eqb (length t) (variables F)) in
      let p = probe_passes F s i v (length f) (length u) in
      ((λ e. (p.0 (w.0 e).0, eqb-false _ _ (w.0 e).1)), λ h. w.1 (p.1 h.0, ne_eqb _ _ h.1))

  -- Theorem. On 9 the list and both scratches are all zeros.
  pub room_leaves : (probe_one_call F s i v t f u).answer ≡ Err Room → probe_one_call F s i v t f u ≡ left (Err Room) (cleared 0 t) (cleared zero64 f) (cleared 0 u)
  unfolding probe_one_by
  room_leaves e = usual.later_leaves Err _ _ _ _ same_refused done_apart Room _ (never_room F s i v (length f) (length u)) (this_stage no_stage) e

  -- Theorem. It is done exactly if the field, the start values, the variable, the value, both scratches and the list are as the table asks, and then gives the grade.
  pub done_when : ((probe_one_call F s i v t f u).answer ≡ Ok (grade_of F)) ↔ (Probable F s i v (length f) (length u) × (length t ≡ variables F))
  unfolding probe_one_by table
  done_when =
      usual.done_when Err _ _ _ _ same_refused done_apart
      (group_is (probe_tests F s i v (length f) (length u)) _ (probe_passes F s i v (length f) (length u)) (last_is Room _ (eq_is (length t) (variables F))))

  module _ (g : Grade) (e : (probe_one_call F s i v t f u).answer ≡ Ok g) where
    -- Theorem. Then the probe is in the list, and both scratches are all zeros.
    pub done_leaves : probe_one_call F s i v t f u ≡ left (Ok (grade_of F)) (probe_one F s i v) (cleared zero64 f) (cleared 0 u)
    unfolding probe_one_by
    done_leaves = usual.done_leaves Err _ _ _ _ same_refused done_apart (λ r z. done_apart r (sym e ∙ z))

    answered : Ok (grade_of F) ≡ (probe_one_call F s i v t f u).answer
    answered = ap (λ (l : Left). l.answer) (sym done_leaves)

    pub probable : Probable F s i v (length f) (length u)
    probable = (done_when.0 (sym answered)).0

    graded : grade_of F ≡ g
    graded = let a : Ok (grade_of F) ≡ Ok g = answered ∙ e in let z : grade_of F ≡ g = cc in z

    values_are : (probe_one_call F s i v t f u).lent.values ≡ probe_one F s i v
    values_are = ap (λ (l : Left). l.lent.values) done_leaves

    -- the start values with the one value added are start values
    pub start_with : StartFor (variables F) (set s i v)
    start_with =
        let p = probable in
        let start = p.ready.sound.start in
        record {
          long = length-set s i v ∙ start.long;
          small = λ j. ⊎_elim (λ z. omega (arith, z.1, p.small)) (λ z. omega (arith, start.small j)) (after_set s i v (inside s i p.free) j);
        }

    at : (j : ℕ) → j < variables F → get_or (probe_one_call F s i v t f u).lent.values j 0 ≡ new_at (get_or s j 0) (get_or (closure F (set s i v)) j 0)
    unfolding given_by new_only
    at j l =
        ap (λ (x : List ℕ). get_or x j 0) values_are
        ∙ get_d_up_to (λ j. new_at (get_or s j 0) (get_or (closure F (set s i v)) j 0)) (length s) j 0 (omega (arith, probable.ready.sound.start.long))

    -- Theorem. The list is n long; where the start value is not free it has 2; elsewhere it has the value of the closure of the start values with
    -- the one value added, which at the probed variable is the probed value.
    pub start_left_out : (j : ℕ) → j < variables F → get_or s j 0 ≢ 2 → get_or (probe_one_call F s i v t f u).lent.values j 0 ≡ 2
    unfolding new_at
    start_left_out j l n = at j l ∙ rw (ne_eqb _ 2 n)

    -- Theorem. At each free variable the list has the value of the closure of the start values with the one value added.
    pub found_at : (j : ℕ) → j < variables F → get_or s j 0 ≡ 2 → get_or (probe_one_call F s i v t f u).lent.values j 0 ≡ get_or (closure F (set s i v)) j 0
    unfolding new_at
    found_at j l h = at j l ∙ rw (eq-eqb _ 2 h)

    -- Theorem. At the probed variable the list has the probed value.
    pub probed_has_value : get_or (probe_one_call F s i v t f u).lent.values i 0 ≡ v
    probed_has_value =
        let p = probable in
        let own = get_or-set_same s i v 0 (inside s i p.free) in
        found_at i p.below p.free
        ∙ fixed ((run.closure_extends F start_with).kept i) (omega (arith, own, p.small)) ∙ own

-- ---- DEMAND 2. On an exact field it is the whole-number closure of the start values with the one value added.

pub exact_field : (F : Field) (s : List ℕ) (i v : ℕ) (t : List ℕ) (f : List Float) (u : List ℕ) → (probe_one_call F s i v t f u).answer ≡ Ok Exact → Shaped F × Serves (unit_of F) F
exact_field F s i v t f u e =
    let shaped = (probable F s i v t f u Exact e).ready.sound.shaped in
    (shaped, (exact_means F shaped.rows_long).0 (graded F s i v t f u Exact e))

module _ (F : Field) (s : List ℕ) (i v : ℕ) (t : List ℕ) (f : List Float) (u : List ℕ) (e : (probe_one_call F s i v t f u).answer ≡ Ok Exact) where
  -- Theorem. The list is the closure over whole numbers, without the start values.
  pub probe_closes : {unit : ℕ} → Serves unit F → Gives (whole_of unit F) s i v (probe_one_call F s i v t f u).lent.values
  unfolding given_by
  probe_closes serving = let x = exact_field F s i v t f u e in record {
    closed = closure F (set s i v);
    is_closure = run.closure_is_closure x.0 serving.exact (start_with F s i v t f u Exact e);
    without = values_are F s i v t f u Exact e;
  }

  -- Theorem. DEMAND 3. Every best completion of the start values that has the probed value obeys every value of the list.
  pub best_obeys : {unit : ℕ} → Serves unit F → {x : List ℕ} → Best (whole_of unit F) s x → get_or x i 0 ≡ v → (j : ℕ) → j < variables F
      → get_or (probe_one_call F s i v t f u).lent.values j 0 < 2 → get_or x j 0 ≡ get_or (probe_one_call F s i v t f u).lent.values j 0
  best_obeys serving {x} b h j l small = go (ℕ_discrete (get_or s j 0) 2)
    where
      p : Probable F s i v (length f) (length u)
      p = probable F s i v t f u Exact e

      obeyed : Extends (closure F (set s i v)) x
      obeyed = let y = exact_field F s i v t f u e in
          best_has_probe serving.exact.standard p.ready.sound.start.long b i p.free v (run.closure_is_closure y.0 serving.exact (start_with F s i v t f u Exact e)) h

      go : Dec (get_or s j 0 ≡ 2) → get_or x j 0 ≡ get_or (probe_one_call F s i v t f u).lent.values j 0
      go (yes free) = let z = found_at F s i v t f u Exact e j l free in fixed (obeyed.kept j) (omega (arith, z)) ∙ sym z
      go (no n) = absurd (omega (arith, start_left_out F s i v t f u Exact e j l n))
