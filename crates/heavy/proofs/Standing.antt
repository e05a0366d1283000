-- From the workspace to the walk over all free variables, and to the values that it leaves. Assumes nothing.
use Prim.Native.Nat.{ℕ, ◌+◌, ◌<◌, ◌≤◌}
use mathlib.Core.Path.{◌≡◌, sym, ap, ◌∙◌}
use mathlib.Core.List.{List}
use native.Mathlib.Nat.{add_assoc}
use native.Mathlib.Omega.{arith}
use lib.Ieee.{Float}
use lib.ListN.{length, get_or, take}
use lib.Seq.{ext_get_or, take-take}
use Rattle.scratch.specs.Region.{region}
use Rattle.scratch.proofs.Region.{length_region, region_at}
use Rattle.meaning.specs.Free.{free_to}
use Rattle.meaning.proofs.Free.{free_at}
use Rattle.field.specs.Field.{Field, variables}
use Rattle.field.specs.Tests.{Ready}
use Rattle.probing.specs.declared.Known.{Known}
use Rattle.probing.specs.Remembered.{Remembers}
use Rattle.finding.specs.Finds.{values_of}
use Rattle.twin.specs.Twin.{first_at}
use Rattle.twin.proofs.Framed.{remembers_front}
use Rattle.walking.specs.Walk.{candidates_at, gather_at, Walkable}
use Rattle.ranking.specs.Listed.{Listed}
use Rattle.probes.specs.Call.{all_values_by}
use Rattle.probes.specs.Standing.{Noned}
use Rattle.heavy.specs.Rounds.{probe_values}

-- room for the walk
pub walk_room : {F : Field} {s : List ℕ} {floats words : ℕ} → Ready F s floats words → {k : ℕ} → k ≡ words → gather_at F + variables F ≤ k
walk_room R e = omega (arith, R.words_room, R.sound.shaped.rows_long)

module _ {F : Field} {s : List ℕ} {f : List Float} {u u₁ u₂ : List ℕ} {known : Known} {count : ℕ} (R : Remembers F s f u known) (space : gather_at F + variables F ≤ length u)
    (L : Listed s (candidates_at F) (length s) u u₁ count) (N : Noned (first_at F) (variables F + variables F) u₁ u₂) where
  few : count ≤ variables F
  few = omega (arith, L.few, R.start.long)

  long : length u₂ ≡ length u
  long = N.long ∙ L.long

  front : take (first_at F) u₂ ≡ take (first_at F) u
  front =
      N.front
      ∙ sym (take-take (first_at F) (candidates_at F) u₁ (omega arith)) ∙ ap (take (first_at F)) L.front ∙ take-take (first_at F) (candidates_at F) u (omega arith)

  -- the candidates are the free variables
  candidates : region (candidates_at F) count u₂ ≡ free_to s (variables F)
  candidates =
      let a : length (region (candidates_at F) count u₂) ≡ count = length_region (candidates_at F) count u₂ (omega (arith, few, long, space)) in
      ext_get_or 0 (region (candidates_at F) count u₂) (region (candidates_at F) count u₁) (a ∙ sym (length_region (candidates_at F) count u₁ (omega (arith, few, L.long, space))))
      (λ h l. let k : h < count = omega (arith, a) in
      region_at (candidates_at F) count u₂ h 0 k ∙ N.behind (candidates_at F + h) (omega arith) ∙ sym (region_at (candidates_at F) count u₁ h 0 k))
      ∙ L.is ∙ ap (free_to s) R.start.long

  candidate : (h : ℕ) → h < count → get_or s (get_or u₂ (candidates_at F + h) 0) 0 ≡ 2
  candidate h l =
      let a : length (free_to s (variables F)) ≡ count = ap length (sym candidates) ∙ length_region (candidates_at F) count u₂ (omega (arith, few, long, space)) in
      let e : get_or u₂ (candidates_at F + h) 0 ≡ get_or (free_to s (variables F)) h 0
      = sym (region_at (candidates_at F) count u₂ h 0 l) ∙ ap (λ (z : List ℕ). get_or z h 0) candidates in
      rw e (free_at s (variables F) h (omega arith)).1

  pub all_walkable : Walkable F s f u₂ known count
  all_walkable = record {
    remembers = remembers_front F u u₂ front long R;
    few = R.placed.shaped.few_variables;
    within = few;
    free = candidate;
    first = λ j l. N.none j (omega arith);
    none = λ j l. ap (λ (z : ℕ). get_or u₂ z 0) (add_assoc (first_at F) (variables F) j) ∙ N.none (variables F + j) (omega arith);
    space = omega (arith, space, long);
  }

  pub all_walked : {t : List ℕ} → t ≡ values_of F s (region (candidates_at F) count u₂) (length (region (candidates_at F) count u₂)) → t ≡ probe_values F s
  unfolding probe_values all_values_by
  all_walked e = e ∙ ap (λ (z : List ℕ). values_of F s z (length z)) candidates
