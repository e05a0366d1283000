-- The loop that gives the members the values of a mask. Assumes nothing.
use Prim.Native.Nat.{ℕ, zero, suc, ◌+◌, ◌/◌, ◌%◌, ◌^◌, ◌<◌, ◌≤◌}
use mathlib.Core.Path.{◌≡◌, refl, ap, ◌∙◌}
use mathlib.Core.List.{List}
use native.Mathlib.Numerals.{add-one}
use native.Mathlib.Omega.{arith}
use lib.ListN.{length, get_or, set, length-set}
use Rattle.scratch.specs.Region.{region}
use Rattle.scratch.proofs.Region.{region_at}
use Rattle.enumeration.specs.Held.{Small}
use Rattle.enumeration.specs.Terms.{put_to}

pub put_long : (s members : List ℕ) (mask b : ℕ) → length (put_to s members mask b) ≡ length s
unfolding put_to
put_long s members mask zero = refl
put_long s members mask (suc b) = simp length-set (put_long s members mask b)

-- the loop stands at bit b
pub record Putting (s u : List ℕ) (at count mask : ℕ) (values : List ℕ) (b : ℕ) : Type 0 where
  pub small : Small (length s) u at count
  pub within : b ≤ count
  pub so_far : values ≡ put_to s (region at count u) mask b

pub put_start : {s u : List ℕ} {at count : ℕ} (mask : ℕ) → Small (length s) u at count → Putting s u at count mask s 0
unfolding put_to
put_start mask S = record { small = S; within = omega arith; so_far = refl }

module _ {s u : List ℕ} {at count mask : ℕ} {values : List ℕ} {b : ℕ} (P : Putting s u at count mask values b) where
  pub put_same : length values ≡ length s
  put_same = ap length P.so_far ∙ put_long s (region at count u) mask b

  pub put_turn : {i v : ℕ} → b < count → i ≡ get_or u (at + b) 0 → v ≡ mask / 2 ^ b % 2 → Putting s u at count mask (set values i v) (b + 1)
  unfolding put_to
  put_turn l ei ev = record {
    small = P.small;
    within = omega arith;
    so_far = rw (add-one b, ev, P.so_far, ei, region_at at count u b 0 l) refl;
  }
