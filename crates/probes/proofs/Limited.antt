-- The ranks are the free variables, so that a limit of at least their number finds the records of the full probe. Assumes nothing.
use Prim.Native.Nat.{ℕ, ◌≤◌}
use mathlib.Core.Path.{◌≡◌, refl, ap, ◌∙◌}
use mathlib.Core.Logic.{⊎_elim}
use mathlib.Core.Bool.{Bool, true, false, cond}
use mathlib.Core.List.{List, [], ◌∷◌, Memᴰ}
use native.Mathlib.Omega.{arith}
use lib.ListN.{length, take}
use lib.Seq.{take_all}
use lib.Ieee.{Float}
use Rattle.meaning.specs.Free.{free_to}
use Rattle.field.specs.Field.{Field, variables}
use Rattle.field.specs.Table.{tested}
use Rattle.field.specs.Tests.{ready_tests}
use Rattle.calls.specs.Call.{run}
use Rattle.ranking.specs.Ranking.{mass_of, ahead, insert, ordered, ranks}
use Rattle.ranking.proofs.Ordered.{Every, every_from, ordered_every, ordered_length}
use Rattle.probes.specs.Call.{all_records, fits, fits_by, candidates_call}
use Rattle.probes.specs.Says.{SameButValues}
use Rattle.probes.specs.Standing.{settled}
use Rattle.probes.proofs.Members.{at_in, every_in}
use Rattle.probes.proofs.Gathered.{same_candidates}
use Rattle.probes.proofs.Answers.{refused_call, settled_call}
use Rattle.field.specs.Answers.{Answer}
use Rattle.std.specs.Prelude.{Err, Ok}

-- ---- the ranks are the free variables

insert_in : (first : ℕ → ℕ → Bool) (x : ℕ) (l : List ℕ) {i : ℕ} → Memᴰ i (x ∷ l) → Memᴰ i (insert first x l)
unfolding insert
insert_in first x [] m = m
insert_in first x (y ∷ l) {i} m = go (first y x) (λ n. insert_in first x l n)
  where
    go : (b : Bool) → (Memᴰ i (x ∷ l) → Memᴰ i (insert first x l)) → Memᴰ i (cond b (y ∷ insert first x l) (x ∷ y ∷ l))
    go true rest = ⊎_elim (λ e. mathlib.Core.List.Memᴰ.tail (rest (mathlib.Core.List.Memᴰ.head e))) (λ r. ⊎_elim (λ e. mathlib.Core.List.Memᴰ.head e) (λ q. mathlib.Core.List.Memᴰ.tail (rest (mathlib.Core.List.Memᴰ.tail q))) (mathlib.Core.List.Memᴰ.cases_cons r)) (mathlib.Core.List.Memᴰ.cases_cons m)
    go false rest = m

ordered_in : (first : ℕ → ℕ → Bool) (l : List ℕ) {i : ℕ} → Memᴰ i l → Memᴰ i (ordered first l)
unfolding ordered
ordered_in first [] m = m
ordered_in first (x ∷ l) m =
    insert_in first x (ordered first l) (⊎_elim (λ e. mathlib.Core.List.Memᴰ.head e) (λ r. mathlib.Core.List.Memᴰ.tail (ordered_in first l r)) (mathlib.Core.List.Memᴰ.cases_cons m))

module _ (F : Field) (s : List ℕ) where
  pub ranks_free : (i : ℕ) → Memᴰ i (ranks F s) → Memᴰ i (free_to s (variables F))
  unfolding ranks
  ranks_free i m =
      let all = free_to s (variables F) in
      let each : Every (λ i. Memᴰ i all) all = every_from (λ i. Memᴰ i all) all (at_in all) in
      every_in (λ i. Memᴰ i all) (ranks F s) (ordered_every (ahead (mass_of F s)) (λ i. Memᴰ i all) (free_to s (variables F)) each) m

  pub free_ranks : (i : ℕ) → Memᴰ i (free_to s (variables F)) → Memᴰ i (ranks F s)
  unfolding ranks
  free_ranks i m = ordered_in (ahead (mass_of F s)) (free_to s (variables F)) m

  ranks_long : length (ranks F s) ≡ length (free_to s (variables F))
  unfolding ranks
  ranks_long = ordered_length (ahead (mass_of F s)) (free_to s (variables F))

  -- a limit of at least their number finds the same records as the full probe
  pub limit_all : (limit : ℕ) → length (free_to s (variables F)) ≤ limit → all_records F s (take limit (ranks F s)) ≡ all_records F s (free_to s (variables F))
  limit_all limit h = ap (all_records F s) (take_all limit (ranks F s) (omega (arith, ranks_long, h))) ∙ same_candidates F s (ranks F s) (free_to s (variables F)) (λ i. (ranks_free i, free_ranks i))

-- calls that find the same records agree but for the probe values
settled_same : (b : Bool) (F : Field) (s cands other t k : List ℕ) (f : List Float) (u : List ℕ) → fits F s other t k ≡ b → all_records F s cands ≡ all_records F s other
    → SameButValues (settled F s cands t k f u) (settled F s other t k f u)
unfolding run fits_by
settled_same true F s cands other t k f u w e = rw (e, w) (record { answers = refl; lists = refl; both_floats = refl; both_words = refl })
settled_same false F s cands other t k f u w e = rw (e, w) (record { answers = refl; lists = refl; both_floats = refl; both_words = refl })

pub calls_same : (x : Answer Unit) (F : Field) (s cands other t k : List ℕ) (f : List Float) (u : List ℕ) → x ≡ tested (ready_tests F s (length f) (length u))
    → all_records F s cands ≡ all_records F s other → SameButValues (candidates_call F s cands t k f u) (candidates_call F s other t k f u)
calls_same (Ok _) F s cands other t k f u is e =
    rw (← settled_call F s cands t k f u is refl refl, ← settled_call F s other t k f u is refl refl) (settled_same (fits F s other t k) F s cands other t k f u refl e)
calls_same (Err r) F s cands other t k f u is e =
    rw (← refused_call F s cands t k f u is refl, ← refused_call F s other t k f u is refl) (record { answers = refl; lists = refl; both_floats = refl; both_words = refl })
