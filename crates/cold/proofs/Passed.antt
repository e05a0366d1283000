-- The pass over all variables enters the finding of each. Assumes nothing.
use Prim.Native.Nat.{ℕ, zero, suc, ◌+◌, ◌<◌, ◌≤◌}
use mathlib.Core.Path.{◌≡◌, refl, ap, ◌∙◌}
use mathlib.Core.List.{List}
use native.Mathlib.Numerals.{add-one}
use native.Mathlib.Nat.{le_refl}
use native.Mathlib.Omega.{arith}
use lib.ListN.{length}
use Rattle.meaning.proofs.Values.{below_or_at}
use Rattle.probe.specs.Found.{Finding}
use Rattle.finding.specs.Emit.{Bench, bench, finding_in, emit_at, Emits}
use Rattle.finding.specs.Enters.{Enters}
use Rattle.finding.proofs.Emitted.{entered_end}
use Rattle.finding.proofs.Entering.{enters_none, enters_one, enters_then}
use Rattle.finding.proofs.Listing.{finding_small, finding_same}
use Rattle.cold.specs.Afresh.{pass_to, Passable}

module _ {s t u : List ℕ} {i first at end : ℕ} (E : Passable s t u i first at end) where
  abbrev to : ℕ → Bench
  to k = pass_to s t i first at (bench u end) k

  abbrev d : ℕ → Finding
  d = finding_in s t i first u

  -- k variables are done, and no more numbers are gathered than variables
  record Done (k : ℕ) : Type 0 where
    enters : Enters d (length s) at (λ j. j < k) (bench u end) (to k)
    most : (to k).end ≤ end + k

  next : (k : ℕ) → k < length s → Done k → Done (suc k)
  unfolding pass_to
  next k h D =
      let q : finding_in s t i first (to k).words k ≡ d k = finding_same s t i first u (to k).words k
      (D.enters.others (first + k) (omega (arith, E.first_room, E.value_room)) (λ j l z. absurd (omega (arith, E.first_room)))) in record {
        enters = rw q (enters_then D.enters (enters_one d (length s) at (to k) k h (omega (arith, E.value_room, D.enters.low))
            (omega (arith, D.most, D.enters.long, E.end_room)) (finding_small s t i first u k E.small (omega (arith, E.few)))) (λ j l. below_or_at l));
        most = rw q (omega (arith, D.most, entered_end (d k) (at + k) (to k)));
      }

  pass_done : (k : ℕ) → k ≤ length s → Done k
  unfolding pass_to
  pass_done zero h = record { enters = enters_none d (length s) at (bench u end) (λ j l. absurd (omega arith)); most = omega arith }
  pass_done (suc k) h = next k (omega arith) (pass_done k (omega arith))

  pub pass_enters : {b : Bench} → b ≡ to (length s) → Enters d (length s) at (λ j. j < length s) (bench u end) b
  pass_enters e = rw e (pass_done (length s) (le_refl (length s))).enters

-- ---- the loop

pub record Passing (s t : List ℕ) (i first at end : ℕ) (u₀ u : List ℕ) (last k : ℕ) : Type 0 where
  pub asks : Passable s t u₀ i first at end
  pub within : k ≤ length s
  pub is : bench u last ≡ pass_to s t i first at (bench u₀ end) k

pub passing_start : {s t u : List ℕ} {i first at end : ℕ} → Passable s t u i first at end → Passing s t i first at end u u end 0
unfolding pass_to
passing_start E = record { asks = E; within = omega arith; is = refl }

module _ {s t u₀ u : List ℕ} {i first at end last k : ℕ} (E : Passing s t i first at end u₀ u last k) where
  done : Done E.asks k
  done = pass_done E.asks k E.within

  pub passing_long : length u ≡ length u₀
  passing_long = ap (λ (b : Bench). length b.words) E.is ∙ done.enters.long

  module _ (h : k < length s) where
    pub passing_asks : Emits s t u i k first at × (last < length u)
    passing_asks = (
      record {
        small_i = E.asks.small;
        small_j = omega (arith, E.asks.few);
        start = h;
        value = omega (arith, E.asks.same);
        first_in = omega (arith, E.asks.first_room, E.asks.value_room, E.asks.end_room, passing_long);
        value_in = omega (arith, E.asks.value_room, E.asks.end_room, passing_long);
      },
      omega (arith, ap (λ (b : Bench). b.end) E.is, done.most, E.asks.end_room, passing_long),
    )

    pub passing_turn : {u' : List ℕ} {r : ℕ} → bench u' r ≡ emit_at s t i first at (bench u last) k → Passing s t i first at end u₀ u' r (k + 1)
    unfolding pass_to
    passing_turn q = record {
      asks = E.asks;
      within = omega arith;
      is = rw (add-one k) (q ∙ ap (λ (b : Bench). emit_at s t i first at b k) E.is);
    }

  pub passing_done : length s ≤ k → bench u last ≡ pass_to s t i first at (bench u₀ end) (length s)
  passing_done h = let z : k ≡ length s = omega (arith, E.within) in rw z at E.is
