-- The record of a constraint forbids what the constraint excludes, the lower end first. Assumes nothing.
use Prim.Native.Nat.{ℕ, ◌<◌}
use mathlib.Core.Path.{◌≡◌, refl, sym, ap, ◌∙◌, subst}
use mathlib.Core.Logic.{◌≢◌, inl, ⊎_elim, ◌↔◌}
use mathlib.Core.List.{List, [], ◌∷◌, Memᴰ}
use native.Mathlib.Decide.{dec_lt}
use native.Mathlib.Omega.{arith}
use borrow.Author.Tests.{lt-ltb, le-ltb}
use lib.ListN.{get_or}
use Rattle.meaning.specs.Kinds.{Pair, Constraint, joining, Meets}
use Rattle.meaning.specs.Records.{Record, record_on, pairs_in, set_of, turned, record_of, Excludes, Bans}
use Rattle.meaning.proofs.Bans.{bans_at}
use Rattle.meaning.proofs.Records.{set_forbidden, one_meaning}

-- ---- one constraint

-- c excludes that i and j, the lower first, have the values p
abbrev pub Rises : Constraint → ℕ → ℕ → Pair → Type 0
Rises c i j p = (i < j) × Excludes c i p.first j p.second

-- with the lower end first the set is the kind's own
straight : (c : Constraint) → c.first < c.second → {i j : ℕ} {p : Pair} → Bans (record_of c ∷ []) i j p ↔ Rises c i j p
straight c h {i} {j} {p} = rw (lt-ltb c.first c.second h) (to, from)
  where
    to : Bans (record_on c.first c.second (set_of c.kind) ∷ []) i j p → Rises c i j p
    to f =
        let q = mathlib.Core.List.Memᴰ.eq_of_singleton f.among in
        let a : c.first ≡ i = ap (λ (r : Record). r.lower) (sym q) ∙ f.is_lower in
        let b : c.second ≡ j = ap (λ (r : Record). r.higher) (sym q) ∙ f.is_higher in
        let m : Memᴰ p (pairs_in (set_of c.kind)) = subst (λ (r : Record). Memᴰ p (pairs_in r.set)) q f.forbids in
        (omega arith, inl (a, b, rw (set_forbidden c.kind) at m))

    from : Rises c i j p → Bans (record_on c.first c.second (set_of c.kind) ∷ []) i j p
    from z = ⊎_elim
        (λ e. record {
          by = record_on c.first c.second (set_of c.kind);
          among = mathlib.Core.List.Memᴰ.head refl;
          is_lower = e.0;
          is_higher = e.1;
          forbids = rw (set_forbidden c.kind) e.2;
        })
        (λ e. absurd (omega (arith, z.0, e.0, e.1)))
        z.1

-- otherwise it is that of the ends exchanged, which means the same
exchanged : (c : Constraint) → c.second < c.first → {i j : ℕ} {p : Pair} → Bans (record_of c ∷ []) i j p ↔ Rises c i j p
exchanged c h {i} {j} {p} =
    let d = joining (turned c.kind) c.second c.first in
    let same : record_of c ≡ record_of d = rw (le-ltb c.first c.second (omega arith), lt-ltb c.second c.first h) refl in
    let mean = (one_meaning c d (λ e. absurd (omega arith)) (λ e. absurd (omega arith))).1 same i p.first j p.second in
    let t = straight d h {i = i} {j = j} {p = p} in
    ((λ f. let z = t.0 (rw same at f) in (z.0, mean.1 z.1)), λ z. rw same (t.1 (z.0, mean.0 z.1)))

bans_excludes : (c : Constraint) → c.first ≢ c.second → {i j : ℕ} {p : Pair} → Bans (record_of c ∷ []) i j p ↔ Rises c i j p
bans_excludes c ne {i} {j} {p} = go (dec_lt c.first c.second)
  where
    go : Dec (c.first < c.second) → Bans (record_of c ∷ []) i j p ↔ Rises c i j p
    go (yes h) = straight c h
    go (no h) = exchanged c (omega (arith, h, ne))

-- ---- its record in a list

module _ {l : List Record} {i j : ℕ} {p : Pair} (c : Constraint) (ne : c.first ≢ c.second) where
  -- what a list forbids by its record, it excludes,
  pub by_excludes : (f : Bans l i j p) → f.by ≡ record_of c → Rises c i j p
  by_excludes f e = (bans_excludes c ne).0 (bans_at f (mathlib.Core.List.Memᴰ.head e))

  -- and what it excludes a list with its record forbids.
  pub excluded_in : Memᴰ (record_of c) l → Rises c i j p → Bans l i j p
  excluded_in m z =
      let f = (bans_excludes c ne).1 z in
      bans_at f (subst (λ (r : Record). Memᴰ r l) (sym (mathlib.Core.List.Memᴰ.eq_of_singleton f.among)) m)

-- values that meet a constraint are none that it excludes
pub meets_apart : (x : List ℕ) (c : Constraint) (i j : ℕ) → Meets x c → Excludes c i (get_or x i 0) j (get_or x j 0) → ⊥
meets_apart x c i j met e = ⊎_elim (λ z. met (rw (z.0, z.1) z.2)) (λ z. met (rw (z.0, z.1) z.2)) e
