-- Where the loop that lists the free variables stands. Assumes nothing.
use Prim.Native.Nat.{ℕ, ◌+◌, ◌<◌, ◌≤◌}
use mathlib.Core.Path.{◌≡◌, refl, sym, ap, ◌∙◌}
use mathlib.Core.Logic.{◌⊎◌, inl, inr}
use mathlib.Core.Bool.{Bool, true, false, cond}
use mathlib.Core.List.{List, [], ◌∷◌, ◌++◌, append-nil}
use native.Mathlib.Nat.{eq-or-lt_of_le}
use native.Mathlib.Numerals.{add-one}
use native.Mathlib.Omega.{arith}
use borrow.Author.Tests.{eq-eqb}
use lib.ListN.{length, get_or, set, length-set, length-append, get_or-append}
use lib.Seq.{get_or-set_same, get_or-set_other, take-set-le, get_or-append_seam}
use Rattle.meaning.specs.Free.{is_free, free_to}
use Rattle.meaning.proofs.Free.{free_few, free_at}
use Rattle.pairs.specs.Listing.{free_of}
use Rattle.pairs.specs.Walk.{Freed}

pub freed_start : (s : List ℕ) (base : ℕ) (u : List ℕ) → Freed s base 0 u u 0
unfolding free_to
freed_start s base u = record { long = refl; front = refl; many = refl; at = λ a h. absurd (omega arith) }

module _ {s : List ℕ} {base i count : ℕ} {u₀ u : List ℕ} (E : Freed s base i u₀ u count) (room : base + count < length u₀) where
  pub freed_turn : {w : ℕ} → w ≡ cond (is_free s i) 1 0 → Freed s base (i + 1) u₀ (set u (base + count) i) (count + w)
  unfolding free_to
  freed_turn {w} e = rw (add-one i) record {
    long = length-set u (base + count) i ∙ E.long;
    front = take-set-le base u (base + count) i (omega arith) ∙ E.front;
    many = omega (arith, E.many, length-append (free_to s i) (cond (is_free s i) (i ∷ []) []), e, bit (is_free s i));
    at = λ a h. elem a (is_free s i) refl (rw e at h);
  }
    where
      bit : (b : Bool) → length (cond b (i ∷ []) []) ≡ cond b 1 0
      bit true = refl
      bit false = refl

      old : (a : ℕ) → a < count → get_or (set u (base + count) i) (base + a) 0 ≡ get_or (free_to s i) a 0
      old a h = get_or-set_other u (base + count) (base + a) i 0 (λ z. omega arith) ∙ E.at a h

      elem : (a : ℕ) (b : Bool) → is_free s i ≡ b → a < count + cond (is_free s i) 1 0 → get_or (set u (base + count) i) (base + a) 0 ≡ get_or (free_to s i ++ cond (is_free s i) (i ∷ []) []) a 0
      elem a true eb h = rw eb (split (eq-or-lt_of_le (within (rw eb at h))))
        where
          within : a < count + 1 → a ≤ count
          within h = omega arith

          split : (a ≡ count) ⊎ (a < count) → get_or (set u (base + count) i) (base + a) 0 ≡ get_or (free_to s i ++ i ∷ []) a 0
          split (inl z) =
              rw z (get_or-set_same u (base + count) i 0 (omega (arith, E.long)) ∙ sym (ap (λ (y : ℕ). get_or (free_to s i ++ i ∷ []) y 0) E.many ∙ get_or-append_seam (free_to s i) i [] 0))
          split (inr z) = old a z ∙ sym (get_or-append (free_to s i) (i ∷ []) 0 a (omega (arith, E.many)))
      elem a false eb h = rw (eb, append-nil (free_to s i)) (old a (within (rw eb at h)))
        where
          within : a < count + 0 → a < count
          within h = omega arith

pub record Freeing (s : List ℕ) (base i : ℕ) (u₀ u : List ℕ) (count : ℕ) : Type 0 where
  pub within : i ≤ length s
  pub freed : Freed s base i u₀ u count

pub freeing_few : {s : List ℕ} {base i count : ℕ} {u₀ u : List ℕ} → Freeing s base i u₀ u count → count ≤ i
freeing_few {s} {base} {i} E = omega (arith, E.freed.many, free_few s i)

pub freeing_turn : {s : List ℕ} {base i count w : ℕ} {u₀ u : List ℕ} → Freeing s base i u₀ u count → i < length s → base + length s ≤ length u₀ → w ≡ cond (is_free s i) 1 0
    → Freeing s base (i + 1) u₀ (set u (base + count) i) (count + w)
freeing_turn E l room e = record { within = omega arith; freed = freed_turn E.freed (omega (arith, freeing_few E)) e }

-- what the walk reads
module _ {s : List ℕ} {base k : ℕ} {u₀ u : List ℕ} (E : Freed s base (length s) u₀ u k) {a i : ℕ} (h : a < k) (e : i ≡ get_or u (base + a) 0) where
  pub free_is : i ≡ get_or (free_of s) a 0
  free_is = e ∙ E.at a h

  pub free_in : (i < length s) × (is_free s i ≡ true)
  free_in = let z = free_at s (length s) a (omega (arith, E.many)) in rw free_is (z.0, eq-eqb _ 2 z.1)
