-- The candidates of both calls are free; those of the full call are all free variables, rising. Assumes nothing.
use Prim.Native.Nat.{ℕ, zero, suc, ◌<◌, ◌≤◌}
use mathlib.Core.Path.{◌≡◌, sym, ap, ◌∙◌, subst}
use mathlib.Core.Logic.{◌⊎◌, inl, inr, ⊎_elim, ◌↔◌}
use mathlib.Core.Bool.{cond}
use mathlib.Core.List.Memᴰ
use mathlib.Core.List.{List, [], ◌∷◌, ◌++◌, Memᴰ}
use native.Mathlib.Omega.{arith}
use native.Mathlib.Decide.{ℕ_discrete, dec_lt}
use borrow.Author.Tests.{eq-eqb}
use lib.ListN.{length, get_or, take}
use Rattle.meaning.specs.Free.{is_free, free_to}
use Rattle.meaning.proofs.Free.{free_at, free_rises}
use Rattle.meaning.proofs.Values.{below_or_at, inside}
use Rattle.meaning.specs.Records.{Covered}
use Rattle.field.specs.Field.{Field}
use Rattle.ranking.specs.Ranking.{ranks}
use Rattle.probes.specs.Call.{all_records}
use Rattle.probes.specs.Rule.{FreeCandidates, LastGives, NoneGives, GreatestGives, NoFreeGives}
use Rattle.probes.proofs.Members.{at_in, PlaceOf, in_at, every_in}
use Rattle.probes.proofs.Gathered.{more_candidates}
use Rattle.probes.proofs.Chosen.{Free, ranked_free}

-- ---- the candidates of the full call

-- each variable below n that is free is one
pub in_free : (s : List ℕ) (n i : ℕ) → i < n → get_or s i 0 ≡ 2 → Memᴰ i (free_to s n)
unfolding free_to
in_free s zero i h f = absurd (omega arith)
in_free s (suc n) i h f = go (below_or_at h) (λ b. in_free s n i b f)
  where
    go : (i < n) ⊎ (i ≡ n) → (i < n → Memᴰ i (free_to s n)) → Memᴰ i (free_to s n ++ cond (is_free s n) (n ∷ []) [])
    go (inl b) ih = Memᴰ.append_left (cond (is_free s n) (n ∷ []) []) (ih b)
    go (inr e) ih =
        let z : get_or s n 0 ≡ 2 = ap (λ (k : ℕ). get_or s k 0) (sym e) ∙ f in
        rw (eq-eqb (get_or s n 0) 2 z) (Memᴰ.append_right (free_to s n) (Memᴰ.head e))

-- Every candidate of the full call is free.
pub full_free : (s : List ℕ) (n : ℕ) → FreeCandidates s (free_to s n)
full_free s n i m = let p = in_at (free_to s n) m in rw p.is at (free_at s n p.at p.within).1

-- Every candidate of the limited call is free.
pub limited_free : (F : Field) (s : List ℕ) (limit : ℕ) → FreeCandidates s (take limit (ranks F s))
limited_free F s limit i m = every_in (Free s) (take limit (ranks F s)) (ranked_free F s limit) m

front_more : (a b : ℕ) (l : List ℕ) → a ≤ b → {i : ℕ} → Memᴰ i (take a l) → Memᴰ i (take b l)
front_more zero b l h m = absurd (Memᴰ.not-nil m)
front_more (suc a) zero l h m = absurd (omega arith)
front_more (suc a) (suc b) [] h m = m
front_more (suc a) (suc b) (x ∷ l) h m = ⊎_elim (λ e. Memᴰ.head e) (λ r. Memᴰ.tail (front_more a b l (omega arith) r)) (Memᴰ.cases_cons m)

-- more candidates, by a larger limit, forbid every pair that fewer forbid
pub larger_finds : (F : Field) (s : List ℕ) (limit more : ℕ) → limit ≤ more → Covered (all_records F s (take limit (ranks F s))) (all_records F s (take more (ranks F s)))
larger_finds F s limit more h = more_candidates F s (take limit (ranks F s)) (take more (ranks F s)) (λ i m. front_more limit more (ranks F s) h m)

-- ---- the later one is the greater one

module _ (s : List ℕ) (n : ℕ) (long : length s ≡ n) where
  abbrev all : List ℕ
  all = free_to s n

  place : (i : ℕ) → get_or s i 0 ≡ 2 → PlaceOf all i
  place i f = in_at all (in_free s n i (omega (arith, inside s i f, long)) f)

  -- a greater candidate stands at a later place
  later : (a b : ℕ) → a < length all → b < length all → get_or all a 0 < get_or all b 0 → a < b
  later a b la lb h = go (dec_lt a b) (ℕ_discrete a b)
    where
      go : Dec (a < b) → Dec (a ≡ b) → a < b
      go (yes l) d = l
      go (no l) (yes e) = absurd (omega (arith, ap (λ (k : ℕ). get_or all k 0) e))
      go (no l) (no d) = absurd (omega (arith, free_rises s n b a (omega (arith, l, d)) la))

  module _ {R : ℕ → ℕ → Type 0} where
    -- Of all free variables the last to give a value is the greatest that gives one.
    pub greatest_gives : (w : ℕ) → LastGives R (free_to s n) (length (free_to s n)) w ↔ GreatestGives R s w
    greatest_gives w = (to, from)
      where
        to : LastGives R all (length all) w → GreatestGives R s w
        to h = record {
          candidate = get_or all h.turn 0;
          free = full_free s n (get_or all h.turn 0) (at_in all h.turn h.within);
          gives = h.gives;
          later_none = λ i v l f r.
              let p = place i f in
              h.later_none p.at v (later h.turn p.at h.within p.within (omega (arith, p.is))) p.within (subst (λ (k : ℕ). R k v) (sym p.is) r);
        }

        from : GreatestGives R s w → LastGives R all (length all) w
        from h =
            let p = place h.candidate h.free in
            record {
              turn = p.at;
              within = p.within;
              gives = subst (λ (k : ℕ). R k w) (sym p.is) h.gives;
              later_none = λ k v l b r. h.later_none (get_or all k 0) v (omega (arith, p.is, free_rises s n p.at k l b)) (full_free s n (get_or all k 0) (at_in all k b)) r;
            }

    -- None of them gives any exactly if no free variable does.
    pub none_free_gives : NoneGives R (free_to s n) (length (free_to s n)) ↔ NoFreeGives R s
    none_free_gives = (to, from)
      where
        to : NoneGives R all (length all) → NoFreeGives R s
        to h = record { none = λ i v f r. let p = place i f in h.none p.at v p.within (subst (λ (k : ℕ). R k v) (sym p.is) r) }

        from : NoFreeGives R s → NoneGives R all (length all)
        from h = record { none = λ k v b r. h.none (get_or all k 0) v (full_free s n (get_or all k 0) (at_in all k b)) r }
