-- What the call `allow` does, over its promise alone. Assumes nothing.
use Prim.Native.Nat.{ℕ, ◌+◌, ◌*◌, ◌/◌, ◌%◌, ◌<◌, ◌≤◌}
use mathlib.Core.Path.{◌≡◌, refl, sym, ap, ◌∙◌}
use mathlib.Core.Logic.{◌≢◌, ◌⊎◌, inl, inr, ⊎_elim, ◌↔◌}
use mathlib.Core.Bool.{Bool, true, false, cond}
use mathlib.Core.List.{List}
use native.Mathlib.Decide.{dec_lt}
use native.Mathlib.Omega.{arith}
use borrow.Author.Tests.{ltb-true, ltb-false}
use lib.Dec.{ltb}
use lib.ListN.{length, get_or, take, drop, replicate, length-replicate}
use Rattle.scratch.specs.Cleared.{cleared}
use Rattle.scratch.specs.Over.{over}
use Rattle.scratch.proofs.Over.{over_front, over_at, over_rest}
use Rattle.field.specs.declared.Refusal.{Refusal}
use Rattle.field.specs.declared.Refusal.TheVariants.{Room}
use Rattle.field.specs.Table.{FirstToFail}
use Rattle.field.proofs.Table.{group_is, last_is}
use Rattle.calls.specs.Call.{table, no_stage}
use Rattle.calls.proofs.Call as any
use Rattle.calls.proofs.Usual as usual
use Rattle.calls.proofs.Usual.{this_stage, other_stage}
use Rattle.meaning.specs.Literal.{Implication}
use Rattle.meaning.specs.Records.{Ends}
use Rattle.meaning.proofs.Implications.{rules_fit}
use Rattle.constraints.specs.Record.{records}
use Rattle.literals.specs.Ends.{rules}
use Rattle.literals.proofs.Rules.{listed_ends}
use Rattle.reaching.specs.Reach.{Reach, Contradictory, MeetsAll, SameBelow, Least, CountIs}
use Rattle.reaching.specs.Via.{reaches, picked, count_below}
use Rattle.reaching.proofs.Picked.{picked_length, first_within, named_both, named_lowest, named_none, picked_least}
use Rattle.reaching.proofs.Counts.{count_reached}
use Rattle.reaching.proofs.Theorems.{allowed_exactly, least_zero, least_one}
use Rattle.allow.specs.declared.Allowed.{Allowed}
use Rattle.allow.specs.declared.Allowed.TheVariants.{Yes, No}
use Rattle.allow.specs.Answer.{named, allowed_of, assignment_of, counts_of}
use Rattle.allow.specs.Call.{Left, left, allow_tests, Ready, fits, allow_table, allow_call, assigned, count_at}
use Rattle.allow.proofs.Choosing.{counts_length}
use Rattle.allow.proofs.Counts.{counts_at}
use Rattle.std.specs.Prelude.{Ok, Err}
use Rattle.field.specs.Answers.{Answer}
use Rattle.calls.proofs.Answers.{same_refused, done_apart, same_done}
use Rattle.allow.proofs.Means.{ready_is, fits_is, short_is, never_room}

-- Theorem. Any two results that the promise permits are equal.
pub one_result : (n : ℕ) (list a c w u : List ℕ) (x y : Left) → x ≡ allow_call n list a c w u → y ≡ allow_call n list a c w u → x ≡ y
one_result n list a c w u = any.one_result (allow_call n list a c w u)

-- ---- answers

-- the answer when done, and the variable where it is no
data Answers (E : List Implication) (n : ℕ) : Allowed → List ℕ → Type 0 where
  is_yes : named E n ≡ n → Answers E n Yes (picked (reaches E n) n)
  is_no : named E n < n → Answers E n (No (named E n)) (replicate n 2)

answers : (E : List Implication) (n : ℕ) → Answers E n (allowed_of E n) (assignment_of E n)
unfolding allowed_of assignment_of
answers E n = go (ltb (named E n) n) refl
  where
    go : (b : Bool) → ltb (named E n) n ≡ b → Answers E n (cond b (No (named E n)) Yes) (cond b (replicate n 2) (picked (reaches E n) n))
    go true e = is_no (ltb-true (named E n) n e)
    go false e = is_yes (omega (arith, ltb-false (named E n) n e, first_within (reaches E n) n))

assigned_length : (E : List Implication) (n : ℕ) → length (assignment_of E n) ≡ n
assigned_length E n = go (answers E n)
  where
    go : {x : Allowed} {l : List ℕ} → Answers E n x l → length l ≡ n
    go (is_yes h) = picked_length (reaches E n) n
    go (is_no h) = length-replicate n 2

module _ (n : ℕ) (list a c w u : List ℕ) where
  -- Theorem. The call is refused with r exactly if the tests before r's own pass, and its own fails; 9 is tested last.
  pub refused_when : (r : Refusal) → ((allow_call n list a c w u).answer ≡ Err r) ↔ FirstToFail (allow_table n list (length a) (length c) (length w) (length u)) r
  unfolding allow_call allow_table table
  refused_when = usual.refused_when Err _ _ _ _ same_refused done_apart refl

  -- Theorem. A refusal before 9 changes nothing lent.
  pub refused_leaves : (r : Refusal) → r ≢ Room → (allow_call n list a c w u).answer ≡ Err r → allow_call n list a c w u ≡ left (Err r) a c w u
  unfolding allow_call
  refused_leaves r d e = usual.refused_leaves Err _ _ _ _ same_refused done_apart r (other_stage d no_stage) e

  -- Theorem. 9 is given exactly if the tests before it pass and an answer list is too short.
  pub room_when : ((allow_call n list a c w u).answer ≡ Err Room) ↔ (Ready n list (length w) (length u) × ((length a < n) ⊎ (length c < 2 * n)))
  unfolding allow_call
  room_when =
      let t = usual.last_when Err _ _ Room _ _ same_refused done_apart (never_room n list (length w) (length u)) (fits n (length a) (length c)) in
      let p = ready_is n list (length w) (length u) in
      let q = short_is n (length a) (length c) in
      ((λ e. (p.0 (t.0 e).0, q.0 (t.0 e).1)), λ h. t.1 (p.1 h.0, q.1 h.1))

  -- Theorem. On 9 both answer lists and both scratches are all zeros.
  pub room_leaves : (allow_call n list a c w u).answer ≡ Err Room → allow_call n list a c w u ≡ left (Err Room) (cleared 0 a) (cleared 0 c) (cleared 0 w) (cleared 0 u)
  unfolding allow_call
  room_leaves e = usual.later_leaves Err _ _ _ _ same_refused done_apart Room _ (never_room n list (length w) (length u)) (this_stage no_stage) e

  passed : ((allow_call n list a c w u).answer ≡ Ok (allowed_of (rules list) n)) ↔ (Ready n list (length w) (length u) × ((n ≤ length a) × (2 * n ≤ length c)))
  unfolding allow_call table
  passed =
      usual.done_when Err _ _ _ _ same_refused done_apart
      (group_is (allow_tests n list (length w) (length u)) _ (ready_is n list (length w) (length u)) (last_is Room _ (fits_is n (length a) (length c))))

  -- all stages pass, and what is left
  module _ (done : (r : Refusal) → (allow_call n list a c w u).answer ≡ Err r → ⊥) where
    all_left : allow_call n list a c w u ≡ left (Ok (allowed_of (rules list) n)) (over (assignment_of (rules list) n) a) (over (counts_of (rules list) n) c) (cleared 0 w) (cleared 0 u)
    unfolding allow_call
    all_left = usual.done_leaves Err _ _ _ _ same_refused done_apart done

    all_pass : Ready n list (length w) (length u) × ((n ≤ length a) × (2 * n ≤ length c))
    all_pass = passed.0 (ap (λ (x : Left). x.answer) all_left)

    pub ends : Ends n (records list)
    ends = listed_ends all_pass.0.listed

  -- Theorem. It is done exactly if the number of variables, the records and both scratches are as the table asks and both answer lists have room.
  pub done_when : ((r : Refusal) → (allow_call n list a c w u).answer ≡ Err r → ⊥) ↔ (Ready n list (length w) (length u) × ((n ≤ length a) × (2 * n ≤ length c)))
  done_when = (all_pass, λ h r e. done_apart r (sym (passed.1 h) ∙ e))

  module _ (done : (r : Refusal) → (allow_call n list a c w u).answer ≡ Err r → ⊥) where
    -- Theorem. When it is done, both scratches are all zeros.
    pub done_leaves : allow_call n list a c w u ≡ left (allow_call n list a c w u).answer (allow_call n list a c w u).lent.assignment (allow_call n list a c w u).lent.counts (cleared 0 w) (cleared 0 u)
    done_leaves = rw (all_left done)

    -- Theorem. What stands past the n values and the 2n counts is unchanged.
    pub past_unchanged : (drop n (allow_call n list a c w u).lent.assignment ≡ drop n a) × (drop (2 * n) (allow_call n list a c w u).lent.counts ≡ drop (2 * n) c)
    unfolding counts_of
    past_unchanged = rw (all_left done) (over_rest _ a (assigned_length (rules list) n), over_rest _ c (counts_length (reaches (rules list) n) (2 * n) (2 * n)))

    -- by number of literal:
    pub count_is : (i v : ℕ) → i < n → v < 2 → count_at n list a c w u i v ≡ count_below (reaches (rules list) n (2 * i + v)) (2 * n)
    unfolding counts_of
    count_is i v hi hv =
        ap (λ (x : Left). get_or x.lent.counts (2 * i + v) 0) (all_left done)
        ∙ over_at (counts_of (rules list) n) c (2 * i + v) 0 (omega (arith, counts_length (reaches (rules list) n) (2 * n) (2 * n)))
        ∙ counts_at (reaches (rules list) n) (2 * n) (2 * n) (2 * i + v) (omega arith)

    -- Theorem. The count of literal (i, v) is the number of literals that it reaches.
    pub counts_reached : (i v : ℕ) → i < n → v < 2 → CountIs (λ b. Reach (rules list) i v (b / 2) (b % 2)) (2 * n) (count_at n list a c w u i v)
    unfolding counts_of
    counts_reached i v hi hv =
        let p : (2 * i + v) / 2 ≡ i = omega arith in
        let q : (2 * i + v) % 2 ≡ v = omega arith in
        rw (count_is i v hi hv) (rw (p, q) at (count_reached (rules_fit (records list) (ends done)) (2 * i + v)))

  -- ---- yes and no

  -- what any answer but a refusal says
  module _ {x : Allowed} (e : (allow_call n list a c w u).answer ≡ Ok x) where
    done : (r : Refusal) → (allow_call n list a c w u).answer ≡ Err r → ⊥
    done r z = done_apart r (sym e ∙ z)

    answered : Answers (rules list) n x (assigned n list a c w u)
    answered =
        let p : allowed_of (rules list) n ≡ x = same_done (ap (λ (z : Left). z.answer) (sym (all_left done)) ∙ e) in
        let q : assigned n list a c w u ≡ assignment_of (rules list) n = ap (λ (z : Left). take n z.lent.assignment) (all_left done) ∙ over_front _ a (assigned_length (rules list) n) in
        rw (sym p, q) (answers (rules list) n)

  module _ (e : (allow_call n list a c w u).answer ≡ Ok Yes) where
    -- Theorem. Yes comes with the least assignment that meets every record:
    -- each variable, in rising order, is 0 wherever some assignment with the earlier choices still allows it.
    pub yes_least : Least (records list) n (assigned n list a c w u)
    yes_least = go (answered e)
      where
        go : {l : List ℕ} → Answers (rules list) n Yes l → Least (records list) n l
        go (is_yes h) = picked_least (records list) (ends (done e)) h

    -- Theorem. With yes, a variable is 0 exactly where some assignment with the earlier choices is 0 there.
    pub yes_zero : (i : ℕ) → i < n
        → (get_or (assigned n list a c w u) i 0 ≡ 0) ↔ ((y : List ℕ) × (MeetsAll (records list) n y × (SameBelow i (assigned n list a c w u) y × (get_or y i 0 ≡ 0))))
    yes_zero = least_zero yes_least

    -- Theorem. No other assignment is the least.
    pub yes_one : {x : List ℕ} → Least (records list) n x → x ≡ assigned n list a c w u
    yes_one h = least_one h yes_least

  module _ {i : ℕ} (e : (allow_call n list a c w u).answer ≡ Ok (No i)) where
    no_named : (i ≡ named (rules list) n) × (i < n) × (assigned n list a c w u ≡ replicate n 2)
    no_named = go (answered e)
      where
        go : {j : ℕ} {l : List ℕ} → Answers (rules list) n (No j) l → (j ≡ named (rules list) n) × (j < n) × (l ≡ replicate n 2)
        go (is_no h) = (refl, h, refl)

    -- Theorem. No names a variable each of whose literals reaches the other.
    pub no_contradictory : (i < n) × Contradictory (rules list) i
    no_contradictory = (no_named.1, rw no_named.0 (named_both (records list) (ends (done e)) (omega (arith, no_named.0, no_named.1))))

    -- Theorem. No variable below the one named has literals that reach each other.
    pub no_lowest : (j : ℕ) → j < i → Contradictory (rules list) j → ⊥
    no_lowest j h = named_lowest (records list) (ends (done e)) j (omega (arith, no_named.0))

    -- Theorem. No comes with 2 for every variable.
    pub no_twos : assigned n list a c w u ≡ replicate n 2
    no_twos = no_named.2

    -- Theorem. With no, no assignment meets every record.
    pub no_none : (x : List ℕ) → MeetsAll (records list) n x → ⊥
    no_none = named_none (records list) (ends (done e)) (omega (arith, no_named.0, no_named.1))

  -- Theorem. Yes is answered exactly if nothing is refused and some assignment meets every record.
  pub yes_when : ((allow_call n list a c w u).answer ≡ Ok Yes)
      ↔ (((r : Refusal) → (allow_call n list a c w u).answer ≡ Err r → ⊥) × ((x : List ℕ) × MeetsAll (records list) n x))
  yes_when = (λ e. (done e, (assigned n list a c w u, (yes_least e).meets_all)), λ h. go (allow_call n list a c w u).answer refl h.0 h.1)
    where
      go : (y : Answer Allowed) → (allow_call n list a c w u).answer ≡ y → ((r : Refusal) → (allow_call n list a c w u).answer ≡ Err r → ⊥) → (x : List ℕ) × MeetsAll (records list) n x → y ≡ Ok Yes
      go (Ok Yes) e d s = refl
      go (Ok (No i)) e d s = absurd (no_none e s.0 s.1)
      go (Err r) e d s = absurd (d r e)

  -- Theorem. Where nothing is refused and none does, it is no.
  pub no_when : ((r : Refusal) → (allow_call n list a c w u).answer ≡ Err r → ⊥) → ((x : List ℕ) → MeetsAll (records list) n x → ⊥) → (i : ℕ) × ((allow_call n list a c w u).answer ≡ Ok (No i))
  no_when d h = go (allow_call n list a c w u).answer refl
    where
      go : (y : Answer Allowed) → (allow_call n list a c w u).answer ≡ y → (i : ℕ) × (y ≡ Ok (No i))
      go (Ok Yes) e = absurd (h _ (yes_least e).meets_all)
      go (Ok (No i)) e = (i, refl)
      go (Err r) e = absurd (d r e)

  -- Theorem. Yes is answered exactly if nothing is refused and no variable has literals that reach each other.
  pub yes_never : ((allow_call n list a c w u).answer ≡ Ok Yes)
      ↔ (((r : Refusal) → (allow_call n list a c w u).answer ≡ Err r → ⊥) × ((i : ℕ) → i < n → Contradictory (rules list) i → ⊥))
  yes_never = (
    λ e. ((yes_when.0 e).0, (allowed_exactly (records list) (ends (done e))).0 (yes_when.0 e).1),
    λ h. yes_when.1 (h.0, (allowed_exactly (records list) (ends h.0)).1 h.1),
  )

  -- Theorem. No with i is answered exactly if nothing is refused and i is the lowest variable each of whose literals reaches the other.
  pub no_exactly : {i : ℕ} → ((allow_call n list a c w u).answer ≡ Ok (No i))
      ↔ (((r : Refusal) → (allow_call n list a c w u).answer ≡ Err r → ⊥) × ((i < n) × (Contradictory (rules list) i × ((j : ℕ) → j < i → Contradictory (rules list) j → ⊥))))
  no_exactly {i} = (
    λ e. (done e, ((no_contradictory e).0, ((no_contradictory e).1, no_lowest e))),
    λ h. go (allow_call n list a c w u).answer refl h.0 h.1.0 h.1.1.0 h.1.1.1,
  )
    where
      go : (y : Answer Allowed) → (allow_call n list a c w u).answer ≡ y → ((r : Refusal) → (allow_call n list a c w u).answer ≡ Err r → ⊥) → i < n → Contradictory (rules list) i
          → ((j : ℕ) → j < i → Contradictory (rules list) j → ⊥) → y ≡ Ok (No i)
      go (Ok Yes) e d h b low = absurd ((yes_never.0 e).1 i h b)
      go (Err r) e d h b low = absurd (d r e)
      go (Ok (No k)) e d h b low = ⊎_elim (λ p. absurd (no_lowest e i p b)) (λ p. ap (λ z. Ok (No z)) p) (split (dec_lt i k) (dec_lt k i))
        where
          split : Dec (i < k) → Dec (k < i) → (i < k) ⊎ (k ≡ i)
          split (yes p) q = inl p
          split (no p) (yes q) = absurd (low k q (no_contradictory e).1)
          split (no p) (no q) = inr (omega arith)
