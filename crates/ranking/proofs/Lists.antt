-- One variable more is looked at. Assumes nothing.
use Prim.Native.Nat.{ℕ, ◌+◌, ◌<◌, ◌≤◌}
use mathlib.Core.Path.{◌≡◌, refl, sym, ap, ◌∙◌}
use mathlib.Core.Bool.{Bool, true, false, cond}
use mathlib.Core.List.{List, [], ◌∷◌, ◌++◌, append-nil}
use native.Mathlib.Nat.{le_refl, add-zero}
use native.Mathlib.Numerals.{add-one}
use native.Mathlib.Omega.{arith}
use lib.ListN.{length, get_or, set, length-set}
use lib.Seq.{take-set-le, get_or-set_other}
use Rattle.scratch.specs.Region.{region}
use Rattle.scratch.proofs.Region.{region_push, region_above}
use Rattle.meaning.specs.Free.{is_free, free_to}
use Rattle.ranking.specs.Listed.{step_of, Listed}

pub record Listing (s : List ℕ) (at j : ℕ) (u₀ u : List ℕ) (count : ℕ) : Type 0 where
  pub room : at + length s ≤ length u₀
  pub within : j ≤ length s
  pub listed : Listed s at j u₀ u count

pub listing_start : (s : List ℕ) (at : ℕ) (u : List ℕ) → at + length s ≤ length u → Listing s at 0 u u 0
unfolding free_to region
listing_start s at u h = record { room = h; within = omega arith; listed = record { few = omega arith; long = refl; front = refl; is = refl; behind = λ t l. refl } }

module _ {s u₀ u : List ℕ} {at j count : ℕ} (L : Listing s at j u₀ u count) where
  pub listing_room : j < length s → at + count < length u
  listing_room h = omega (arith, L.room, L.listed.few, L.listed.long)

  pub listing_turn : j < length s → {r : ℕ} → r ≡ step_of (get_or s j 0) → r ≤ 1 → Listing s at (j + 1) u₀ (set u (at + count) j) (count + r)
  unfolding free_to step_of
  listing_turn h e l = record {
    room = L.room;
    within = omega arith;
    listed = record {
      few = omega (arith, L.listed.few);
      long = length-set u (at + count) j ∙ L.listed.long;
      front = take-set-le at u (at + count) j (omega arith) ∙ L.listed.front;
      is = rw (e, add-one j) (go (is_free s j));
      behind = λ t g. get_or-set_other u (at + count) t j 0 (λ z. omega (arith, L.listed.few)) ∙ L.listed.behind t g;
    };
  }
    where
      go : (b : Bool) → region at (count + cond b 1 0) (set u (at + count) j) ≡ free_to s j ++ cond b (j ∷ []) []
      go true = region_push at count u j (listing_room h) ∙ ap (λ (z : List ℕ). z ++ j ∷ []) L.listed.is
      go false = rw (add-zero count) (region_above at count u (at + count) j (le_refl (at + count)) ∙ L.listed.is ∙ sym (append-nil (free_to s j)))

  pub listing_done : length s ≤ j → Listed s at (length s) u₀ u count
  listing_done h = let z : j ≡ length s = omega (arith, L.within) in rw z at L.listed
