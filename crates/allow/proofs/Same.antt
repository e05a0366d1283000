-- What is read off closed rows is what is read off reaching. Assumes nothing.
use mathlib.Core.Path.{◌≡◌, refl, ap, ◌∙◌}
use mathlib.Core.Bool.{Bool}
use mathlib.Core.List.{List}
use Prim.Native.Nat.{ℕ, zero, suc, ◌*◌, ◌<◌, ◌≤◌}
use native.Mathlib.Omega.{arith}
use lib.ListN.{get_or, replicate}
use borrow.Author.Tests.{lt-ltb, le-ltb}
use Rattle.meaning.specs.Literal.{Implication}
use Rattle.meaning.proofs.Literal.{Fits}
use Rattle.scratch.specs.Over.{over}
use Rattle.reaching.specs.Via.{literal, reaches, choices_lead, must, picked, contradicts, first_contradictory, count_below}
use Rattle.reaching.proofs.Truth.{any_same}
use Rattle.reaching.proofs.Picked.{picked_small}
use Rattle.reaching.proofs.Counts.{count_same, count_literals}
use Rattle.bit_rows.specs.Rows.{bit_in}
use Rattle.arrows.specs.Marks.{Filled}
use Rattle.allow.specs.declared.Allowed.TheVariants.{Yes, No}
use Rattle.allow.specs.Answer.{named, allowed_of, assignment_of, counts_to, counts_of}
use Rattle.allow.specs.Choice.{Answered}

-- two relations that agree on the literals of n variables
module _ (r s : ℕ → ℕ → Bool) (n : ℕ) (few : n ≤ 1024) (h : (a b : ℕ) → a < 2 * n → b < 2048 → r a b ≡ s a b) where
  first_same : (k : ℕ) → k ≤ n → first_contradictory r k ≡ first_contradictory s k
  unfolding first_contradictory contradicts
  first_same zero l = refl
  first_same (suc k) l =
      rw (first_same k (omega arith), h (literal k 0) (literal k 1) (omega arith) (omega arith), h (literal k 1) (literal k 0) (omega arith) (omega arith)) refl

  must_same : (x : List ℕ) → ((j : ℕ) → get_or x j 0 < 2) → (i : ℕ) → i < n → must r x i ≡ must s x i
  unfolding must choices_lead
  must_same x small i l =
      rw (
        h (literal i 0) (literal i 1) (omega arith) (omega arith),
        any_same (λ j. r (literal j (get_or x j 0)) (literal i 1)) (λ j. s (literal j (get_or x j 0)) (literal i 1)) i (λ j k. h (literal j (get_or x j 0)) (literal i 1) (omega (arith, small j)) (omega arith)),
      ) refl

  picked_same : (k : ℕ) → k ≤ n → picked r k ≡ picked s k
  unfolding picked
  picked_same zero l = refl
  picked_same (suc k) l = rw (picked_same k (omega arith), must_same (picked s k) (picked_small s k) k (omega arith)) refl

-- counts of equal rows
counts_same : (r s : ℕ → ℕ → Bool) (m n : ℕ) (k : ℕ) → ((a : ℕ) → a < k → count_below (r a) m ≡ count_below (s a) n) → counts_to r m k ≡ counts_to s n k
unfolding counts_to
counts_same r s m n zero h = refl
counts_same r s m n (suc k) h = rw (counts_same r s m n k (λ a l. h a (omega arith)), h k (omega arith)) refl

-- ---- the answer

module _ {E : List Implication} {n : ℕ} (fits : Fits n E) (few : n ≤ 1024) {w₀ w : List ℕ} (f : Filled E n w₀ w) where
  name_is : first_contradictory (bit_in w) n ≡ named E n
  name_is = first_same (bit_in w) (reaches E n) n few f.rows n (omega arith)

  counts_are : counts_to (bit_in w) 2048 (2 * n) ≡ counts_of E n
  unfolding counts_of
  counts_are =
      counts_same (bit_in w) (reaches E n) 2048 (2 * n) (2 * n) (λ k l.
      count_same (bit_in w k) (reaches E n k) 2048 (λ b m. f.rows k b l m) ∙ count_literals fits 2048 (omega arith) k l)

  pub answer_yes : {a₀ c₀ a c : List ℕ} {i : ℕ} → c ≡ over (counts_to (bit_in w) 2048 (2 * n)) c₀ → i ≡ first_contradictory (bit_in w) n → n ≤ i → a ≡ over (picked (bit_in w) n) a₀ → Answered E n a₀ c₀ Yes a c
  unfolding allowed_of assignment_of
  answer_yes {a₀} {c₀} q e l p =
      let none = le-ltb (named E n) n (omega (arith, name_is)) in record {
        answer = rw none;
        assignment = rw none (p ∙ ap (λ (x : List ℕ). over x a₀) (picked_same (bit_in w) (reaches E n) n few f.rows n (omega arith)));
        counts = q ∙ ap (λ (x : List ℕ). over x c₀) counts_are;
      }

  pub answer_no : {a₀ c₀ a c : List ℕ} {i : ℕ} → c ≡ over (counts_to (bit_in w) 2048 (2 * n)) c₀ → i ≡ first_contradictory (bit_in w) n → i < n → a ≡ over (replicate n 2) a₀ → Answered E n a₀ c₀ (No i) a c
  unfolding allowed_of assignment_of
  answer_no {a₀} {c₀} q e l p =
      let some = lt-ltb (named E n) n (omega (arith, name_is)) in record { answer = rw some (ap No (e ∙ name_is)); assignment = rw some p; counts = q ∙ ap (λ (x : List ℕ). over x c₀) counts_are }
