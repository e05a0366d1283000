-- The implications of a list of records: between variables, obeyed by values that meet every record, and as many as the list forbids. Assumes nothing.
use mathlib.Core.Path.{◌≡◌, sym, ◌∙◌}
use mathlib.Core.Logic.{inl, inr, ⊎_elim}
use mathlib.Core.List.{List, Memᴰ}
use Prim.Native.Nat.{ℕ, ◌-◌, ◌<◌}
use native.Mathlib.Decide.{ℕ_discrete}
use native.Mathlib.Omega.{arith}
use lib.ListN.{length, get_or}
use Rattle.meaning.specs.Steps.{Valid}
use Rattle.meaning.specs.Field.{Completion}
use Rattle.meaning.specs.Kinds.{Pair}
use Rattle.meaning.specs.Literal.{Implication, Holds, given, follows, BothWays, Settled, propagate}
use Rattle.meaning.specs.Records.{Record, Ends, MeetsRecord, rules_of, Bans}
use Rattle.meaning.proofs.Values.{fixed}
use Rattle.meaning.proofs.Sets.{pair_small}
use Rattle.meaning.proofs.Records.{RuleOf, ahead, backward, rule_of}
use Rattle.meaning.proofs.Literal.{Fit, Fits, Obeys, propagate_is, propagate_clash, propagate_done}

-- records between variables give implications between them
pub rules_fit : {n : ℕ} (l : List Record) → Ends n l → Fits n (rules_of l)
rules_fit {n} l ends e m = go (rule_of l m)
  where
    ends_of : {i j : ℕ} {p : Pair} → Bans l i j p → (i < n) × (j < n)
    ends_of f = let z = ends f.by f.among in (omega (arith, z.0, f.is_lower), omega (arith, z.1, f.is_higher))

    go : RuleOf l e → Fit n e
    go (ahead i j p f d) =
        let small = pair_small f.by.set f.forbids in
        let z = ends_of f in
        rw d (record { from = z.0; when = small.first; to = z.1; gives = omega arith })
    go (backward i j p f d) =
        let small = pair_small f.by.set f.forbids in
        let z = ends_of f in
        rw d (record { from = z.1; when = small.second; to = z.0; gives = omega arith })

-- values that meet every record have what each implication gives
meets_obeys : {s x : List ℕ} → Completion s x → (l : List Record) → ((r : Record) → Memᴰ r l → MeetsRecord x r) → (e : Implication) → Memᴰ e (rules_of l) → Obeys x e
meets_obeys {x = x} full l meets e m = go (rule_of l m)
  where
    other : {a b : ℕ} → a < 2 → b < 2 → (a ≡ b → ⊥) → a ≡ 1 - b
    other {a} {b} ha hb n = elim (ℕ_discrete a b) [ yes z ↦ absurd (n z) | no z ↦ omega arith ]

    apart : {i j : ℕ} {p : Pair} → Bans l i j p → get_or x i 0 ≡ p.first → get_or x j 0 ≡ p.second → ⊥
    apart f a b = meets f.by f.among (rw (f.is_lower, f.is_higher, a, b) f.forbids)

    go : RuleOf l e → Obeys x e
    go (ahead i j p f d) =
        let small = pair_small f.by.set f.forbids in
        rw d (λ a. other (full.full j) small.second (apart f a))
    go (backward i j p f d) =
        let small = pair_small f.by.set f.forbids in
        rw d (λ b. other (full.full i) small.first (λ a. apart f a b))

-- and so every literal that holds
pub holds_in : {s x : List ℕ} → Completion s x → (l : List Record) → ((r : Record) → Memᴰ r l → MeetsRecord x r) → {i v : ℕ} → Holds (rules_of l) s i v → get_or x i 0 ≡ v
holds_in full l meets {i = i} (given h small e) = fixed (full.extends.kept i) (omega arith) ∙ e
holds_in full l meets (follows {e = e} m h) = meets_obeys full l meets e m (holds_in full l meets h)

-- ---- the same implications, in any order and however often

-- each implication of E is one of D
abbrev pub Among : List Implication → List Implication → Type 0
Among E D = (e : Implication) → Memᴰ e E → Memᴰ e D

pub holds_among : {E D : List Implication} {s : List ℕ} → Among E D → {i v : ℕ} → Holds E s i v → Holds D s i v
holds_among h (given a b e) = given a b e
holds_among h (follows {e = e} m p) = follows (h e m) (holds_among h p)

both_among : {E D : List Implication} {s : List ℕ} → Among E D → BothWays E s → BothWays D s
both_among h b = record { at = b.at; zero = holds_among h b.zero; one = holds_among h b.one }

settled_among : {E D : List Implication} {s t : List ℕ} → Among E D → Among D E → Settled E s t → Settled D s t
settled_among h g p = record {
  as_long = p.as_long;
  has = λ i v q. p.has i v (holds_among g q);
  only = λ i l. ⊎_elim inl (λ q. inr (holds_among h q)) (p.only i l);
}

-- they give the same answer
pub propagate_same : (E D : List Implication) (s : List ℕ) → Fits (length s) D → Valid s → Among E D → Among D E → propagate E s ≡ propagate D s
propagate_same E D s fits valid h g =
    ⊎_elim
    (λ z. z.0 ∙ sym ((propagate_clash D s fits valid).1 (both_among h z.1)))
    (λ z. z.1 ∙ sym ((propagate_done D s fits valid z.0).1 (settled_among h g z.2)))
    (propagate_is E s (λ e m. fits e (h e m)) valid)
