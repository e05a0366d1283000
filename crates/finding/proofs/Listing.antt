-- The findings of the variables of a list are entered one after the other. Assumes nothing.
use Prim.Native.Nat.{ℕ, zero, suc, ◌+◌, ◌-◌, ◌<◌, ◌≤◌}
use mathlib.Core.Path.{◌≡◌, refl, sym, ap, ◌∙◌}
use mathlib.Core.Logic.{◌⊎◌, inl, inr, ⊎_elim}
use mathlib.Core.Bool.{Bool, true, false}
use mathlib.Core.List.{List}
use native.Mathlib.Nat.{le_refl, add-zero, add-suc}
use native.Mathlib.Numerals.{add-one}
use native.Mathlib.Decide.{ℕ_discrete}
use native.Mathlib.Omega.{arith}
use borrow.Author.Tests.{ltb-true, le-ltb}
use lib.Dec.{ltb}
use lib.ListN.{length, get_or}
use Rattle.probe.specs.Found.{Finding}
use Rattle.finding.specs.Finds.{gives_at}
use Rattle.finding.specs.Emit.{Bench, bench, finding_in, emit_of, emit_to, chosen_to, Emits, Emittable}
use Rattle.finding.specs.Enters.{Enters}
use Rattle.finding.proofs.Emitted.{entered_end}
use Rattle.finding.proofs.Entered.{SmallFinding, found_small}
use Rattle.finding.proofs.Entering.{enters_none, enters_one, enters_then}

-- j is one of the first k variables of the list at `from`, and its value is not below `least`
pub record Listed (t : List ℕ) (least : ℕ) (u : List ℕ) (from k j : ℕ) : Type 0 where
  pub place : ℕ
  pub high : place < k
  pub holds : get_or u (from + place) 0 ≡ j
  pub enough : least ≤ get_or t j 0

chosen_step : (t : List ℕ) (least : ℕ) (u : List ℕ) (from k : ℕ) → chosen_to t least u from k ≤ chosen_to t least u from (suc k)
unfolding chosen_to
chosen_step t least u from k = omega arith

chosen_more : (t : List ℕ) (least : ℕ) (u : List ℕ) (from k d : ℕ) → chosen_to t least u from k ≤ chosen_to t least u from (k + d)
chosen_more t least u from k zero = rw (add-zero k) (le_refl (chosen_to t least u from k))
chosen_more t least u from k (suc d) = rw (add-suc k d) (omega (arith, chosen_more t least u from k d, chosen_step t least u from (k + d)))

pub finding_small : (s t : List ℕ) (i first : ℕ) (u : List ℕ) (j : ℕ) → i < 4096 → j < 4096 → SmallFinding (finding_in s t i first u j)
unfolding finding_in
finding_small s t i first u j a b = found_small i j a b (gives_at i j (get_or s j 0) (get_or u (first + j) 0)) (gives_at i j (get_or s j 0) (get_or t j 0))

pub finding_same : (s t : List ℕ) (i first : ℕ) (u u' : List ℕ) (j : ℕ) → get_or u' (first + j) 0 ≡ get_or u (first + j) 0 → finding_in s t i first u' j ≡ finding_in s t i first u j
unfolding finding_in
finding_same s t i first u u' j e = rw e

module _ {s t u : List ℕ} {i from count least first at end : ℕ} (E : Emittable s t u i from count least first at end) where
  abbrev pub to : ℕ → Bench
  to k = emit_to s t i from least first at (bench u end) k

  abbrev pub d : ℕ → Finding
  d = finding_in s t i first u

  -- k variables are done, and no more numbers are gathered than were chosen
  pub record Done (k : ℕ) : Type 0 where
    pub enters : Enters d (length s) at (Listed t least u from k) (bench u end) (to k)
    pub most : (to k).end ≤ end + chosen_to t least u from k

  module _ {k : ℕ} (D : Done k) (more : k < count) where
    none : (j : ℕ) → ⊥ → ⊥
    none j x = x

    here : get_or (to k).words (from + k) 0 ≡ get_or u (from + k) 0
    here = D.enters.others (from + k) (omega (arith, E.list_room)) (E.apart k more)

    last_or_before : {j : ℕ} → Listed t least u from (suc k) j → Listed t least u from k j ⊎ ((j ≡ get_or u (from + k) 0) × (least ≤ get_or t j 0))
    last_or_before L = elim (ℕ_discrete L.place k) [
      | yes e ↦ inr ((sym L.holds ∙ ap (λ z. get_or u (from + z) 0) e), L.enough)
      | no ne ↦ inl record { place = L.place; high = omega (arith, ne, L.high); holds = L.holds; enough = L.enough }
    ]

    chosen_one : ltb (get_or t (get_or u (from + k) 0) 0) least ≡ false → chosen_to t least u from (suc k) ≡ chosen_to t least u from k + 1
    unfolding chosen_to
    chosen_one e = rw e

    chosen_room : ltb (get_or t (get_or u (from + k) 0) 0) least ≡ false → (to k).end < length (to k).words
    chosen_room e =
        let x : suc k + (count - suc k) ≡ count = omega arith in
        let z = rw x at (chosen_more t least u from (suc k) (count - suc k)) in
        omega (arith, D.most, D.enters.long, E.end_room, z, chosen_one e)

    next : (b : Bool) → ltb (get_or t (get_or u (from + k) 0) 0) least ≡ b → Done (suc k)
    unfolding emit_to emit_of
    next true e = record {
      enters = rw (here, e) (enters_then D.enters (enters_none d (length s) at (to k) none)
          (λ j L. ⊎_elim inl (λ q. absurd (omega (arith, ltb-true (get_or t (get_or u (from + k) 0) 0) least e, q.1, ap (λ z. get_or t z 0) q.0))) (last_or_before {j = j} L)));
      most = rw (here, e) (omega (arith, D.most, chosen_step t least u from k));
    }
    next false e =
        let j = get_or u (from + k) 0 in
        let h : j < length s = E.below k more in
        let q : finding_in s t i first (to k).words j ≡ d j = finding_same s t i first u (to k).words j
        (D.enters.others (first + j) (omega (arith, E.first_room, E.value_room)) (λ x l z. absurd (omega (arith, E.first_room)))) in record {
          enters = rw (here, e, q) (enters_then D.enters (enters_one d (length s) at (to k) j h (omega (arith, E.value_room, D.enters.low)) (chosen_room e)
              (finding_small s t i first u j E.small_i (omega (arith, E.few))))
              (λ x L. ⊎_elim inl (λ q. inr q.0) (last_or_before {j = x} L)));
          most = rw (here, e, q) (omega (arith, D.most, chosen_one e, entered_end (d j) (at + j) (to k)));
        }

  pub emit_done : (k : ℕ) → k ≤ count → Done k
  unfolding emit_to
  emit_done zero h = record { enters = enters_none d (length s) at (bench u end) (λ j L. absurd (omega (arith, L.high))); most = omega arith }
  emit_done (suc k) h = next (emit_done k (omega arith)) (omega arith) (ltb (get_or t (get_or u (from + k) 0) 0) least) refl

  -- after the whole list
  module _ {b : Bench} (e : b ≡ to count) where
    pub emit_enters : Enters d (length s) at (Listed t least u from count) (bench u end) b
    emit_enters = rw e (emit_done count (le_refl count)).enters

    pub emit_most : b.end ≤ end + chosen_to t least u from count
    emit_most = rw e (emit_done count (le_refl count)).most

-- ---- the loop

pub record Emitting (s t : List ℕ) (i from count least first at end : ℕ) (u₀ u : List ℕ) (last k : ℕ) : Type 0 where
  pub asks : Emittable s t u₀ i from count least first at end
  pub within : k ≤ count
  pub is : bench u last ≡ emit_to s t i from least first at (bench u₀ end) k

pub emitting_start : {s t u : List ℕ} {i from count least first at end : ℕ} → Emittable s t u i from count least first at end
    → Emitting s t i from count least first at end u u end 0
unfolding emit_to
emitting_start E = record { asks = E; within = omega arith; is = refl }

module _ {s t u₀ u : List ℕ} {i from count least first at end last k : ℕ} (E : Emitting s t i from count least first at end u₀ u last k) where
  done : Done E.asks k
  done = emit_done E.asks k E.within

  pub emitting_long : length u ≡ length u₀
  emitting_long = ap (λ (b : Bench). length b.words) E.is ∙ done.enters.long

  pub emitting_read : k < count → from + k < length u
  emitting_read h = omega (arith, E.asks.list_room, E.asks.end_room, emitting_long)

  module _ (h : k < count) {j : ℕ} (e : j ≡ get_or u (from + k) 0) where
    listed_here : j ≡ get_or u₀ (from + k) 0
    listed_here = e ∙ ap (λ (b : Bench). get_or b.words (from + k) 0) E.is ∙ here E.asks done h

    inside : j < length s
    inside = rw listed_here (E.asks.below k h)

    pub emitting_asks : Emits s t u i j first at × (least ≤ get_or t j 0 → last < length u)
    emitting_asks = (
      record {
        small_i = E.asks.small_i;
        small_j = omega (arith, inside, E.asks.few);
        start = inside;
        value = omega (arith, inside, E.asks.long);
        first_in = omega (arith, inside, E.asks.first_room, E.asks.value_room, E.asks.end_room, emitting_long);
        value_in = omega (arith, inside, E.asks.value_room, E.asks.end_room, emitting_long);
      },
      λ l. rw (ap (λ (b : Bench). b.end) E.is, ap (λ (b : Bench). length b.words) E.is) (chosen_room E.asks done h (le-ltb _ least (rw listed_here at l))),
    )

    pub emitting_turn : {u' : List ℕ} {r : ℕ} → bench u' r ≡ emit_of s t i least first at (bench u last) j → Emitting s t i from count least first at end u₀ u' r (k + 1)
    unfolding emit_to
    emitting_turn q = record {
      asks = E.asks;
      within = omega arith;
      is = rw (add-one k) (q ∙ ap (emit_of s t i least first at (bench u last)) e ∙ ap (λ (b : Bench). emit_of s t i least first at b (get_or b.words (from + k) 0)) E.is);
    }

  pub emitting_done : count ≤ k → bench u last ≡ emit_to s t i from least first at (bench u₀ end) count
  emitting_done h = let z : k ≡ count = omega (arith, E.within) in rw z at E.is
