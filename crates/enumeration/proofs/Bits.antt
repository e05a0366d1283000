-- The values of a mask at the members, and the mask of given values. Assumes nothing.
use Prim.Native.Nat.{ℕ, zero, suc, ◌+◌, ◌*◌, ◌/◌, ◌%◌, ◌^◌, ◌<◌, ◌≤◌}
use mathlib.Core.Path.{◌≡◌, refl, sym, ap, ◌∙◌}
use mathlib.Core.Bool.{false, true≢false}
use mathlib.Core.List.{List, [], ◌∷◌}
use native.Mathlib.Decide.{ℕ_discrete}
use native.Mathlib.Nat.{pow-suc}
use native.Mathlib.Omega.{arith}
use lib.Pow.{shr-shr}
use lib.ListN.{length, get_or}
use lib.Seq.{get_or-set_same, get_or-set_other}
use Rattle.parts.specs.Part.{has, Apart}
use Rattle.parts.proofs.Listed.{has_at, apart_at}
use Rattle.enumeration.specs.Terms.{put_to}
use Rattle.enumeration.proofs.Putting.{put_long}

-- ---- the values of a mask

module _ (s members : List ℕ) (mask : ℕ) where
  pub put_at : Apart members → ((b : ℕ) → b < length members → get_or members b 0 < length s) → (c b : ℕ) → b < c → c ≤ length members
      → get_or (put_to s members mask c) (get_or members b 0) 0 ≡ mask / 2 ^ b % 2
  unfolding put_to
  put_at A below zero b h k = absurd (omega arith)
  put_at A below (suc c) b h k =
      elim (ℕ_discrete b c) [
        | yes e ↦ rw e (get_or-set_same (put_to s members mask c) (get_or members c 0) (mask / 2 ^ c % 2) 0 (omega (arith, below c (omega arith), put_long s members mask c)))
        | no n ↦ get_or-set_other (put_to s members mask c) (get_or members c 0) (get_or members b 0) (mask / 2 ^ c % 2) 0 (apart_at members A b c (omega arith) (omega arith))
            ∙ put_at A below c b (omega arith) (omega arith)
      ]

  pub put_other : (i : ℕ) → has members i ≡ false → (c : ℕ) → c ≤ length members → get_or (put_to s members mask c) i 0 ≡ get_or s i 0
  unfolding put_to
  put_other i e zero h = refl
  put_other i e (suc c) h =
      get_or-set_other (put_to s members mask c) (get_or members c 0) i (mask / 2 ^ c % 2) 0 (λ q. true≢false (sym (has_at members c h) ∙ ap (has members) (sym q) ∙ e))
      ∙ put_other i e c (omega arith)

-- ---- the mask of values

pub mask_for : List ℕ → List ℕ → ℕ
mask_for z [] = 0
mask_for z (j ∷ l) = get_or z j 0 + mask_for z l * 2

module _ (z : List ℕ) (full : (i : ℕ) → get_or z i 0 < 2) where
  pub mask_below : (l : List ℕ) → mask_for z l < 2 ^ length l
  unfolding mask_for
  mask_below [] = omega arith
  mask_below (j ∷ l) = omega (arith, mask_below l, full j, pow-suc 2 (length l))

  pub mask_bits : (l : List ℕ) (b : ℕ) → b < length l → mask_for z l / 2 ^ b % 2 ≡ get_or z (get_or l b 0) 0
  unfolding mask_for
  mask_bits [] b h = absurd (omega arith)
  mask_bits (j ∷ l) zero h = omega (arith, full j)
  mask_bits (j ∷ l) (suc b) h =
      let half : (get_or z j 0 + mask_for z l * 2) / 2 ≡ mask_for z l = omega (arith, full j) in
      sym (ap (λ (x : ℕ). x % 2) (shr-shr (get_or z j 0 + mask_for z l * 2) 1 b ∙ ap (λ (k : ℕ). (get_or z j 0 + mask_for z l * 2) / 2 ^ k) (omega arith)))
      ∙ ap (λ (x : ℕ). x / 2 ^ b % 2) half
      ∙ mask_bits l b (omega arith)
