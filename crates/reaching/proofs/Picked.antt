-- The choices and the lowest variable that goes both ways, computed from the closure, are those of reaching. Assumes nothing.
use mathlib.Core.Path.{◌≡◌, refl, sym, ◌∙◌}
use mathlib.Core.Logic.{⊎_elim, ◌↔◌}
use mathlib.Core.Bool.{Bool, true, false, cond}
use mathlib.Core.List.{List, [], ◌∷◌, ◌++◌}
use Prim.Native.Nat.{ℕ, zero, suc, ◌+◌, ◌<◌, ◌≤◌}
use native.Mathlib.Omega.{arith}
use lib.ListN.{length, get_or, length-append, get_or-append}
use lib.Seq.{get_or_at}
use lib.Dec.{ltb}
use borrow.Author.Tests.{ltb-true, ltb-false, lt-ltb, le-ltb}
use Rattle.scratch.proofs.All.{both}
use Rattle.meaning.specs.Literal.{Implication}
use Rattle.meaning.specs.Records.{Record, Ends, rules_of}
use Rattle.meaning.proofs.Implications.{rules_fit}
use Rattle.meaning.proofs.Values.{below_or_at}
use Rattle.reaching.specs.Reach.{Reach, Contradictory, MeetsAll, Least}
use Rattle.reaching.specs.Via.{literal, bit, reaches, choices_lead, must, picked, contradicts, first_contradictory}
use Rattle.reaching.proofs.Truth.{not_both, or_left, or_right, or_cases, and_true, true_or_false, any_at, any_found}
use Rattle.reaching.proofs.Meets.{contradictory_none, meets_allows}
use Rattle.reaching.proofs.Choice.{MustBeOne, alone, after, Greedy, greedy_least}
use Rattle.reaching.proofs.Via.{reaches_exactly}

-- ---- the list of choices, of any relation

bit_small : (b : Bool) → bit b < 2
bit_small true = omega arith
bit_small false = omega arith

small_more : (xs : List ℕ) (v : ℕ) → v < 2 → ((i : ℕ) → get_or xs i 0 < 2) → (i : ℕ) → get_or (xs ++ (v ∷ [])) i 0 < 2
small_more [] v h f zero = h
small_more [] v h f (suc i) = omega arith
small_more (x ∷ xs) v h f zero = f zero
small_more (x ∷ xs) v h f (suc i) = small_more xs v h (λ j. f (suc j)) i

module _ (r : ℕ → ℕ → Bool) where
  pub picked_length : (n : ℕ) → length (picked r n) ≡ n
  unfolding picked
  picked_length zero = refl
  picked_length (suc n) = omega (arith, length-append (picked r n) (bit (must r (picked r n) n) ∷ []), picked_length n)

  pub picked_small : (n i : ℕ) → get_or (picked r n) i 0 < 2
  unfolding picked
  picked_small zero i = omega arith
  picked_small (suc n) i = small_more (picked r n) (bit (must r (picked r n) n)) (bit_small (must r (picked r n) n)) (picked_small n) i

  pub picked_at : (n i : ℕ) → i < n → get_or (picked r n) i 0 ≡ bit (must r (picked r i) i)
  unfolding picked
  picked_at zero i h = absurd (omega arith)
  picked_at (suc n) i h =
      ⊎_elim
      (λ l. get_or-append (picked r n) (bit (must r (picked r n) n) ∷ []) 0 i (omega (arith, picked_length n)) ∙ picked_at n i l)
      (λ e. rw e (get_or_at (picked r n) (bit (must r (picked r n) n)) [] 0 n (picked_length n)))
      (below_or_at h)

  -- the first i choices stay
  pub picked_kept : (n i j : ℕ) → i ≤ n → j < i → get_or (picked r i) j 0 ≡ get_or (picked r n) j 0
  picked_kept n i j h l = picked_at i j l ∙ sym (picked_at n j (omega arith))

  -- ---- the lowest variable that goes both ways

  pub first_within : (n : ℕ) → first_contradictory r n ≤ n
  unfolding first_contradictory
  first_within zero = omega arith
  first_within (suc n) = go (ltb (first_contradictory r n) n) (contradicts r n) (first_within n)
    where
      go : (a b : Bool) → first_contradictory r n ≤ n → cond a (first_contradictory r n) (cond b n (suc n)) ≤ suc n
      go true b h = omega arith
      go false true h = omega arith
      go false false h = omega arith

  -- no lower one does
  pub first_none : (n i : ℕ) → i < first_contradictory r n → contradicts r i ≡ false
  unfolding first_contradictory
  first_none zero i h = absurd (omega arith)
  first_none (suc n) i h = go (ltb (first_contradictory r n) n) (contradicts r n) refl refl (first_none n i) h
    where
      go : (a b : Bool) → ltb (first_contradictory r n) n ≡ a → contradicts r n ≡ b → (i < first_contradictory r n → contradicts r i ≡ false) → i < cond a (first_contradictory r n) (cond b n (suc n)) → contradicts r i ≡ false
      go true b p q low l = low l
      go false true p q low l = low (omega (arith, ltb-false (first_contradictory r n) n p))
      go false false p q low l = ⊎_elim (λ z. low (omega (arith, ltb-false (first_contradictory r n) n p))) (λ z. rw z q) (below_or_at l)

  -- and it does
  pub first_both : (n : ℕ) → first_contradictory r n < n → contradicts r (first_contradictory r n) ≡ true
  unfolding first_contradictory
  first_both zero h = absurd (omega arith)
  first_both (suc n) h = go (ltb (first_contradictory r n) n) (contradicts r n) refl refl (first_both n) h
    where
      go : (a b : Bool) → ltb (first_contradictory r n) n ≡ a → contradicts r n ≡ b → (first_contradictory r n < n → contradicts r (first_contradictory r n) ≡ true)
          → cond a (first_contradictory r n) (cond b n (suc n)) < suc n → contradicts r (cond a (first_contradictory r n) (cond b n (suc n))) ≡ true
      go true b p q low l = low (ltb-true (first_contradictory r n) n p)
      go false true p q low l = q
      go false false p q low l = absurd (omega arith)

  -- once it is found it stays
  pub first_stays : (m n : ℕ) → first_contradictory r m < m → m ≤ n → first_contradictory r n ≡ first_contradictory r m
  unfolding first_contradictory
  first_stays m zero h l = absurd (omega arith)
  first_stays m (suc n) h l =
      let g : m < suc (suc n) = omega arith in
      ⊎_elim (λ s. let e = first_stays m n h (omega arith) in rw (lt-ltb (first_contradictory r n) n (omega arith)) e) (λ e. rw e refl) (below_or_at g)

  -- none so far, and then this one, or not
  pub first_here : (i : ℕ) → first_contradictory r i ≡ i → contradicts r i ≡ true → first_contradictory r (suc i) ≡ i
  unfolding first_contradictory
  first_here i e b = rw (le-ltb (first_contradictory r i) i (omega arith), b) refl

  pub first_not : (i : ℕ) → first_contradictory r i ≡ i → contradicts r i ≡ false → first_contradictory r (suc i) ≡ suc i
  unfolding first_contradictory
  first_not i e b = rw (le-ltb (first_contradictory r i) i (omega arith), b) refl

-- ---- of the closure

module _ (l : List Record) {n : ℕ} (ends : Ends n l) where
  abbrev E : List Implication
  E = rules_of l

  abbrev r : ℕ → ℕ → Bool
  r = reaches E n

  to_reach : (i v j w : ℕ) → v < 2 → w < 2 → r (literal i v) (literal j w) ≡ true → Reach E i v j w
  to_reach i v j w hv hw = (reaches_exactly (rules_fit l ends) i v j w hv hw).0

  of_reach : (i v j w : ℕ) → v < 2 → w < 2 → Reach E i v j w → r (literal i v) (literal j w) ≡ true
  of_reach i v j w hv hw = (reaches_exactly (rules_fit l ends) i v j w hv hw).1

  must_forced : (i : ℕ) → i < n → must r (picked r i) i ≡ true → MustBeOne E (picked r n) i
  unfolding must choices_lead
  must_forced i h e = ⊎_elim (λ z. alone (to_reach i 0 i 1 (omega arith) (omega arith) z)) (λ z. by_choice (any_found _ i z)) (or_cases (r (literal i 0) (literal i 1)) _ e)
    where
      by_choice : (j : ℕ) × (j < i) × (r (literal j (get_or (picked r i) j 0)) (literal i 1) ≡ true) → MustBeOne E (picked r n) i
      by_choice z = after z.0 z.1 (rw (picked_kept r n i z.0 (omega arith) z.1) at (to_reach z.0 (get_or (picked r i) z.0 0) i 1 (picked_small r i z.0) (omega arith) z.2))

  forced_must : (i : ℕ) → i < n → MustBeOne E (picked r n) i → must r (picked r i) i ≡ true
  unfolding must choices_lead
  forced_must i h (alone q) = or_left _ (of_reach i 0 i 1 (omega arith) (omega arith) q)
  forced_must i h (after j l q) =
      or_right (r (literal i 0) (literal i 1))
      (any_at (λ k. r (literal k (get_or (picked r i) k 0)) (literal i 1)) i j l
      (rw (picked_kept r n i j (omega arith) l) (of_reach j (get_or (picked r n) j 0) i 1 (picked_small r n j) (omega arith) q)))

  pub picked_greedy : Greedy E n (picked r n)
  picked_greedy = record { as_long = picked_length r n; small = picked_small r n; zero = none; one = some }
    where
      none : (i : ℕ) → i < n → get_or (picked r n) i 0 ≡ 0 → MustBeOne E (picked r n) i → ⊥
      none i h e f = let z : bit (must r (picked r i) i) ≡ 0 = sym (picked_at r n i h) ∙ e in let m = forced_must i h f in let o : ◌≡◌ {A = ℕ} 1 0 = rw m at z in omega arith

      some : (i : ℕ) → i < n → get_or (picked r n) i 0 ≡ 1 → MustBeOne E (picked r n) i
      some i h e = ⊎_elim (must_forced i h) (λ m. let z : bit (must r (picked r i) i) ≡ 1 = sym (picked_at r n i h) ∙ e in let o : ◌≡◌ {A = ℕ} 0 1 = rw m at z in absurd (omega arith)) (true_or_false (must r (picked r i) i))

  both_exactly : (i : ℕ) → (contradicts r i ≡ true) ↔ Contradictory E i
  unfolding contradicts
  both_exactly i = (
    λ e. let z = both (r (literal i 0) (literal i 1)) (r (literal i 1) (literal i 0)) e in
        record { up = to_reach i 0 i 1 (omega arith) (omega arith) z.0; down = to_reach i 1 i 0 (omega arith) (omega arith) z.1 },
    λ b. and_true (of_reach i 0 i 1 (omega arith) (omega arith) b.up) (of_reach i 1 i 0 (omega arith) (omega arith) b.down),
  )

  -- the lowest variable each of whose literals reaches the other
  pub named_both : first_contradictory r n < n → Contradictory E (first_contradictory r n)
  named_both h = (both_exactly (first_contradictory r n)).0 (first_both r n h)

  pub named_lowest : (i : ℕ) → i < first_contradictory r n → Contradictory E i → ⊥
  named_lowest i h b = not_both ((both_exactly i).1 b) (first_none r n i h)

  -- where there is one, no assignment meets every record
  pub named_none : first_contradictory r n < n → (y : List ℕ) → MeetsAll l n y → ⊥
  named_none h y a = contradictory_none (named_both h) (meets_allows a)

  -- where there is none, the choices are the least that do
  pub picked_least : first_contradictory r n ≡ n → Least l n (picked r n)
  picked_least e = greedy_least l ends (λ i h. named_lowest i (omega arith)) picked_greedy
