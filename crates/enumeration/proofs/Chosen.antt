-- From the lists of terms to the mask that wins. Assumes nothing.
use Prim.Native.Nat.{ℕ, ◌+◌, ◌^◌, ◌≤◌}
use mathlib.Core.Path.{◌≡◌}
use mathlib.Core.List.{List}
use native.Mathlib.Omega.{arith}
use lib.Pow.{pow_mono}
use lib.ListN.{length}
use Rattle.scratch.specs.Region.{region}
use Rattle.scratch.proofs.Region.{length_region}
use Rattle.field.specs.Field.{Field}
use Rattle.masks.specs.Masks.{objective, lowest, First}
use Rattle.masks.specs.Listed.{Lists, terms_on, Room, Listed}
use Rattle.masks.proofs.First.{lowest_first}
use Rattle.enumeration.specs.Terms.{linear_terms, pair_terms, terms_of, mask_of, put_to, solved}
use Rattle.enumeration.proofs.Filling.{linear_few, pairs_few}

pub size_most : {count size : ℕ} → count ≤ 10 → size ≡ 2 ^ count → size ≤ 1024
size_most few e = omega (arith, pow_mono few)

-- 110 places are enough for all terms
pub all_fit : (F : Field) (s u : List ℕ) (at count : ℕ) {L₀ L₁ L₂ : Lists} → count ≤ 10 → at + count ≤ length u → L₀.end ≡ 0 → Room 110 L₀.values L₀.required
    → Listed (linear_terms F s (region at count u) count) L₀ L₁ → Listed (pair_terms F (region at count u) count) L₁ L₂ → Room L₂.end L₂.values L₂.required
all_fit F s u at count few room e₀ R A B =
    let l = linear_few F (region at count u) s count in
    let p = pairs_few F u at count few room count in
    record {
      values_long = omega (arith, A.ends, B.ends, A.values_long, B.values_long, R.values_long);
      required_long = omega (arith, A.ends, B.ends, A.required_long, B.required_long, R.required_long);
    }

-- Theorem. The lowest mask of least objective by the linear terms and then those of pairs is the mask that wins.
pub chosen : (F : Field) (s u : List ℕ) (at count : ℕ) {L₀ L₁ L₂ : Lists} {size r : ℕ} → at + count ≤ length u → L₀.end ≡ 0
    → Listed (linear_terms F s (region at count u) count) L₀ L₁ → Listed (pair_terms F (region at count u) count) L₁ L₂ → size ≡ 2 ^ count
    → r ≡ lowest (objective (terms_on L₂.values L₂.required L₂.end)) size → r ≡ mask_of F s (region at count u)
unfolding mask_of terms_of terms_on
chosen F s u at count {L₀} room e₀ A B es er = rw (length_region at count u room) (rw (B.terms, A.terms, e₀, es) at er)

-- over any floats it is the lowest of least objective
pub mask_first : (F : Field) (s members : List ℕ) → First (objective (terms_of F s members)) (2 ^ length members) (mask_of F s members)
unfolding mask_of
mask_first F s members = lowest_first (objective (terms_of F s members)) (2 ^ length members)

pub solved_by : (F : Field) (s u : List ℕ) (at count : ℕ) {mask : ℕ} {s' : List ℕ} → at + count ≤ length u → mask ≡ mask_of F s (region at count u)
    → s' ≡ put_to s (region at count u) mask count → s' ≡ solved F s (region at count u)
unfolding solved
solved_by F s u at count room em es = rw (length_region at count u room, ← em) es
