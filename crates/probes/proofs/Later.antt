-- The last candidate that gives a value, as candidates come one after the other. Assumes nothing.
use Prim.Native.Nat.{ℕ, suc, ◌<◌, ◌≤◌}
use mathlib.Core.Path.{◌≡◌}
use mathlib.Core.Logic.{◌⊎◌, inl, inr, ◌↔◌}
use mathlib.Core.List.{List}
use native.Mathlib.Omega.{arith}
use native.Mathlib.Decide.{ℕ_discrete}
use lib.ListN.{get_or}
use Rattle.meaning.proofs.Values.{below_or_at}
use Rattle.probes.specs.Rule.{LastGives, NoneGives}

-- v is the value of the last that gives one, or 2
pub data Stands (R : ℕ → ℕ → Type 0) (cands : List ℕ) (count v : ℕ) : Type 0 where
  by_last : v < 2 → LastGives R cands count v → Stands R cands count v
  by_none : v ≡ 2 → NoneGives R cands count → Stands R cands count v

pub none_start : (R : ℕ → ℕ → Type 0) (cands : List ℕ) → NoneGives R cands 0
none_start R cands = record { none = λ k v h g. absurd (omega arith) }

module _ {R : ℕ → ℕ → Type 0} {cands : List ℕ} where
  -- ---- one candidate more

  pub last_new : {k w : ℕ} → R (get_or cands k 0) w → LastGives R cands (suc k) w
  last_new {k} g = record { turn = k; within = omega arith; gives = g; later_none = λ m v h l r. absurd (omega arith) }

  none_on : {k : ℕ} → NoneGives R cands k → ((v : ℕ) → R (get_or cands k 0) v → ⊥) → NoneGives R cands (suc k)
  none_on {k} n here = record { none = none }
    where
      none : (m v : ℕ) → m < suc k → R (get_or cands m 0) v → ⊥
      none m v h r = go (below_or_at h)
        where
          go : (m < k) ⊎ (m ≡ k) → ⊥
          go (inl b) = n.none m v b r
          go (inr e) = here v (rw e at r)

  last_on : {k w : ℕ} → LastGives R cands k w → ((v : ℕ) → R (get_or cands k 0) v → ⊥) → LastGives R cands (suc k) w
  last_on {k} {w} h here = record { turn = h.turn; within = omega (arith, h.within); gives = h.gives; later_none = later }
    where
      later : (m v : ℕ) → h.turn < m → m < suc k → R (get_or cands m 0) v → ⊥
      later m v a b r = go (below_or_at b)
        where
          go : (m < k) ⊎ (m ≡ k) → ⊥
          go (inl c) = h.later_none m v a c r
          go (inr e) = here v (rw e at r)

  pub stands_on : {k v : ℕ} → Stands R cands k v → ((w : ℕ) → R (get_or cands k 0) w → ⊥) → Stands R cands (suc k) v
  stands_on (by_last small h) here = by_last small (last_on h here)
  stands_on (by_none e n) here = by_none e (none_on n here)

  -- ---- what stands

  -- only one value is the last
  last_one : ((i v w : ℕ) → R i v → R i w → v ≡ w) → {count v w : ℕ} → LastGives R cands count v → LastGives R cands count w → v ≡ w
  last_one one {count} {v} {w} a b = go (ℕ_discrete a.turn b.turn)
    where
      same : a.turn ≡ b.turn → R (get_or cands a.turn 0) w
      same e = rw e b.gives

      apart : (a.turn ≡ b.turn → ⊥) → ⊥
      apart n =
          let first : (a.turn < b.turn) → ⊥ = λ h. a.later_none b.turn w h b.within b.gives in
          let second : (b.turn < a.turn) → ⊥ = λ h. b.later_none a.turn v h a.within a.gives in
          n (omega (arith, first, second))

      go : Dec (a.turn ≡ b.turn) → v ≡ w
      go (yes e) = one (get_or cands a.turn 0) v w a.gives (same e)
      go (no n) = absurd (apart n)

  module _ {count v : ℕ} (h : Stands R cands count v) where
    pub stands_value : ((i v w : ℕ) → R i v → R i w → v ≡ w) → {w : ℕ} → w < 2 → (v ≡ w) ↔ LastGives R cands count w
    stands_value one {w} small = (to h, from h)
      where
        to : Stands R cands count v → v ≡ w → LastGives R cands count w
        to (by_last l g) e = rw (← e) g
        to (by_none t n) e = absurd (omega arith)

        from : Stands R cands count v → LastGives R cands count w → v ≡ w
        from (by_last l g) m = last_one one g m
        from (by_none t n) m = absurd (n.none m.turn w m.within m.gives)

    pub stands_none : (v ≡ 2) ↔ NoneGives R cands count
    stands_none = (to h, from h)
      where
        to : Stands R cands count v → v ≡ 2 → NoneGives R cands count
        to (by_last l g) e = absurd (omega arith)
        to (by_none t n) e = n

        from : Stands R cands count v → NoneGives R cands count → v ≡ 2
        from (by_last l g) n = absurd (n.none g.turn v g.within g.gives)
        from (by_none t n) m = t

    pub stands_small : v ≤ 2
    stands_small = go h
      where
        go : Stands R cands count v → v ≤ 2
        go (by_last l g) = omega arith
        go (by_none t n) = omega arith

-- ---- two rules that say the same of every candidate

module _ {R S : ℕ → ℕ → Type 0} (cands : List ℕ) (count : ℕ) (alike : (k v : ℕ) → k < count → R (get_or cands k 0) v ↔ S (get_or cands k 0) v) where
  pub last_as : (w : ℕ) → LastGives R cands count w → LastGives S cands count w
  last_as w h = record {
    turn = h.turn;
    within = h.within;
    gives = (alike h.turn w h.within).0 h.gives;
    later_none = λ k v a b g. h.later_none k v a b ((alike k v b).1 g);
  }

  pub none_as : NoneGives R cands count → NoneGives S cands count
  none_as n = record { none = λ k v h g. n.none k v h ((alike k v h).1 g) }
