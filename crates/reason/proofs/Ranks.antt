-- Reasons stand in an order: each listed variable's rank is below the variable's own. Assumes nothing.
use Prim.Native.Nat.{ℕ, zero, suc, ◌<◌, ◌≤◌}
use mathlib.Core.Path.{◌≡◌, refl, sym, ◌∙◌}
use mathlib.Core.Logic.{◌≢◌, ◌⊎◌, inl, inr}
use mathlib.Core.Bool.{Bool, true, false, cond}
use mathlib.Core.List.{List, [], ◌∷◌}
use native.Mathlib.Decide.{dec_lt}
use native.Mathlib.Omega.{arith}
use borrow.Author.Tests.{eqb-true, eq-eqb, ne_eqb}
use lib.ListN.{length, get_or}
use lib.Dec.{eqb}
use Rattle.meaning.specs.Free.{is_free}
use Rattle.field.specs.Field.{Field, variables, Shaped, StartFor}
use Rattle.field.specs.Grade.{ExactIn}
use Rattle.run.specs.Run.{closure_run, closure}
use Rattle.reason.specs.Until.{basis}
use Rattle.reason.specs.Listed.{listed_of}
use Rattle.reason.specs.Ground.{reason_list}
use Rattle.reason.specs.Rank.{place_of, rank, Ends, ends}
use Rattle.reason.proofs.Until.{closure_room}
use Rattle.reason.proofs.Listed.{listed_at, listed_fixed}
use Rattle.reason.proofs.Theorems.{Earlier, basis_value, reason_earlier}

-- ---- the place in a queue

place_most : (queue : List ℕ) (j p : ℕ) → p < length queue → get_or queue p 0 ≡ j → place_of queue j ≤ p
unfolding place_of
place_most [] j p l e = absurd (omega arith)
place_most (i ∷ queue) j zero l e = rw (eq-eqb i j e) (omega arith)
place_most (i ∷ queue) j (suc p) l e = go (eqb i j) (place_most queue j p (omega arith) e)
  where
    go : (b : Bool) → place_of queue j ≤ p → cond b 0 (suc (place_of queue j)) ≤ suc p
    go true h = omega arith
    go false h = omega arith

place_holds : (queue : List ℕ) (j : ℕ) → place_of queue j < length queue → get_or queue (place_of queue j) 0 ≡ j
unfolding place_of
place_holds [] j l = absurd (omega arith)
place_holds (i ∷ queue) j l = go (eqb i j) refl (place_holds queue j)
  where
    go : (b : Bool) → eqb i j ≡ b → (place_of queue j < length queue → get_or queue (place_of queue j) 0 ≡ j) → get_or (i ∷ queue) (cond (eqb i j) 0 (suc (place_of queue j))) 0 ≡ j
    go true e ih = rw e (eqb-true _ _ e)
    go false e ih = rw e (ih (let h : cond false 0 (suc (place_of queue j)) < length (i ∷ queue) = rw e at l in omega arith))

-- where no variable stands twice, one that stands earlier has the lower place
place_earlier : {queue : List ℕ} {j i : ℕ} → ((p q : ℕ) → p < q → q < length queue → get_or queue p 0 ≢ get_or queue q 0) → Earlier queue j i → place_of queue j < place_of queue i
place_earlier {queue} {j} {i} apart a =
    let low = place_most queue j a.from (omega (arith, a.before, a.inside)) a.first in
    let high = place_most queue i a.to a.inside a.second in
    elim (dec_lt (place_of queue i) a.to) [
      | yes b ↦ absurd (apart (place_of queue i) a.to b a.inside (place_holds queue i (omega (arith, a.inside)) ∙ sym a.second))
      | no b ↦ omega (arith, a.before)
    ]

-- ---- the rank

module _ {u : ℕ} {F : Field} (shaped : Shaped F) (exact : ExactIn u F) {s : List ℕ} (start : StartFor (variables F) s) where
  rank_earlier : {j i : ℕ} → get_or s i 0 ≡ 2 → (get_or s j 0 ≢ 2) ⊎ Earlier (closure_run F s).queue j i → rank F s j < rank F s i
  unfolding rank
  rank_earlier {j} {i} free (inl n) = rw (eq-eqb (get_or s i 0) 2 free, ne_eqb (get_or s j 0) 2 n) (omega arith)
  rank_earlier {j} {i} free (inr a) = rw (eq-eqb (get_or s i 0) 2 free) (go (is_free s j) (place_earlier (closure_room F start i).apart a))
    where
      go : (b : Bool) → place_of (closure_run F s).queue j < place_of (closure_run F s).queue i
          → cond b (suc (place_of (closure_run F s).queue j)) 0 < suc (place_of (closure_run F s).queue i)
      go true h = omega arith
      go false h = omega arith

  -- what is listed is a variable, has a value in the closure, and a lower rank
  pub listed_below : (i : ℕ) → get_or (closure F s) i 0 ≢ 2 → (t : ℕ) → t < length (reason_list F s i)
      → (get_or (reason_list F s i) t 0 < variables F) × ((get_or (closure F s) (get_or (reason_list F s i) t 0) 0 ≢ 2) × (rank F s (get_or (reason_list F s i) t 0) < rank F s i))
  unfolding reason_list listed_of
  listed_below i set t = go (is_free s i) refl
    where
      go : (b : Bool) → is_free s i ≡ b → t < length (cond b (listed_of F (basis F s i) i) [])
          → (get_or (cond b (listed_of F (basis F s i) i) []) t 0 < variables F)
          × ((get_or (closure F s) (get_or (cond b (listed_of F (basis F s i) i) []) t 0) 0 ≢ 2) × (rank F s (get_or (cond b (listed_of F (basis F s i) i) []) t 0) < rank F s i))
      go true e l =
          let j = get_or (listed_of F (basis F s i) i) t 0 in
          let at = listed_at F (basis F s i) i (variables F) t l in
          let n = listed_fixed F (basis F s i) i j at.1 in
          (at.0, ((λ z. n (sym (basis_value F start i j n) ∙ z)), rank_earlier (eqb-true _ _ e) (reason_earlier shaped exact start i (eqb-true _ _ e) set j n)))
      go false e l = absurd (omega arith)

  -- so following reasons ends
  ends_below : (n i : ℕ) → rank F s i < n → get_or (closure F s) i 0 ≢ 2 → Ends F s i
  ends_below zero i l set = absurd (omega arith)
  ends_below (suc n) i l set = ends (λ t b. let x = listed_below i set t b in ends_below n (get_or (reason_list F s i) t 0) (omega (arith, x.1.1)) x.1.0)

  pub ending : (i : ℕ) → get_or (closure F s) i 0 ≢ 2 → Ends F s i
  ending i set = ends_below (suc (rank F s i)) i (omega arith) set
