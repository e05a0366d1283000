-- The mask that wins turns on the values at the neighbours of the members, and on no others. Assumes nothing.
use Prim.Native.Nat.{ℕ, zero, suc, ◌<◌, ◌≤◌}
use mathlib.Core.Path.{◌≡◌, refl}
use mathlib.Core.Bool.{true}
use mathlib.Core.List.{List, [], ◌∷◌}
use native.Mathlib.Nat.{le_refl}
use native.Mathlib.Omega.{arith}
use lib.ListN.{length, get_or}
use lib.Ieee.{Float}
use Rattle.field.specs.Field.{Field, Shaped, linear_of}
use Rattle.places.specs.Places.{places, other_end}
use Rattle.places.proofs.Places.{places_touch}
use Rattle.parts.specs.Part.{Joined}
use Rattle.parts.proofs.Listed.{other_ends}
use Rattle.enumeration.specs.Terms.{linear_at, linear_from, linear_part, linear_terms, terms_of, mask_of}

module _ {F : Field} (S : Shaped F) (s v : List ℕ) where
  from_alike : (i : ℕ) (ks : List ℕ) (sum : Float)
      → ((x : ℕ) → x < length ks → get_or v (other_end F.rows F.cols i (get_or ks x 0)) 0 ≡ get_or s (other_end F.rows F.cols i (get_or ks x 0)) 0)
      → linear_from F v i sum ks ≡ linear_from F s i sum ks
  unfolding linear_from linear_at
  from_alike i [] sum same = refl
  from_alike i (k ∷ ks) sum same = rw (same 0 (omega arith)) (from_alike i ks _ (λ x h. same (suc x) (omega arith)))

  -- the linear part of i
  part_alike : (i : ℕ) → ((j : ℕ) → Joined F true i j → get_or v j 0 ≡ get_or s j 0) → linear_part F v i ≡ linear_part F s i
  unfolding linear_part
  part_alike i same = from_alike i (places F.rows F.cols i) (linear_of F i) (λ x h. same _ (joined x h))
    where
      joined : (x : ℕ) → x < length (places F.rows F.cols i) → Joined F true i (other_end F.rows F.cols i (get_or (places F.rows F.cols i) x 0))
      joined x h =
          let t = places_touch F.rows F.cols i x h in
          record { entry = get_or (places F.rows F.cols i) x 0; below = omega (arith, t.0, S.rows_long); joining = refl; ends = other_ends F.rows F.cols i _ t.1 }

  module _ (members : List ℕ) (same : (b : ℕ) → b < length members → (j : ℕ) → Joined F true (get_or members b 0) j → get_or v j 0 ≡ get_or s j 0) where
    terms_alike : (c : ℕ) → c ≤ length members → linear_terms F v members c ≡ linear_terms F s members c
    unfolding linear_terms
    terms_alike zero h = refl
    terms_alike (suc c) h = rw (terms_alike c (omega arith), part_alike (get_or members c 0) (same c h))

    pub mask_alike : mask_of F v members ≡ mask_of F s members
    unfolding mask_of terms_of
    mask_alike = rw (terms_alike (length members) (le_refl _))
