-- The choices that give 1 only where they must: where no variable is contradictory they meet every record, and they are the least. Assumes nothing.
use mathlib.Core.Path.{◌≡◌, sym, ◌∙◌}
use mathlib.Core.Logic.{◌⊎◌, inl, inr, ⊎_elim}
use mathlib.Core.List.{List, Memᴰ}
use Prim.Native.Nat.{ℕ, zero, suc, ◌-◌, ◌<◌, ◌≤◌}
use native.Mathlib.Omega.{arith}
use native.Mathlib.Decide.{ℕ_discrete}
use lib.ListN.{length, get_or}
use lib.Seq.{ext_get_or}
use Rattle.meaning.specs.Literal.{Implication}
use Rattle.meaning.specs.Records.{Record, Ends, rules_of}
use Rattle.meaning.proofs.Implications.{rules_fit}
use Rattle.meaning.proofs.Literal.{Fits}
use Rattle.meaning.proofs.Values.{zero_or_one, below_or_at}
use Rattle.reaching.specs.Reach.{Reach, Contradictory, MeetsAll, SameBelow, Least}
use Rattle.reaching.proofs.Reach.{reach_trans, reach_one, Turns, reach_turned, rules_turn}
use Rattle.reaching.proofs.Meets.{Allows, reach_sound, allows_meets, meets_allows}

-- variable i must be 1: its 0 reaches its 1, or an earlier choice does
pub data MustBeOne (E : List Implication) (x : List ℕ) (i : ℕ) : Type 0 where
  alone : Reach E i 0 i 1 → MustBeOne E x i
  after : (j : ℕ) → j < i → Reach E j (get_or x j 0) i 1 → MustBeOne E x i

-- x gives each of n variables 1 exactly if it must
pub record Greedy (E : List Implication) (n : ℕ) (x : List ℕ) : Type 0 where
  pub as_long : length x ≡ n
  pub small : (i : ℕ) → get_or x i 0 < 2
  pub zero : (i : ℕ) → i < n → get_or x i 0 ≡ 0 → MustBeOne E x i → ⊥
  pub one : (i : ℕ) → i < n → get_or x i 0 ≡ 1 → MustBeOne E x i

-- the values of two choices of x never exclude each other, among the first k
abbrev Consistent : List Implication → List ℕ → ℕ → Type 0
Consistent E x k = (i j : ℕ) → i < k → j < k → Reach E i (get_or x i 0) j (1 - get_or x j 0) → ⊥

module _ {E : List Implication} {n : ℕ} {x : List ℕ} (fits : Fits n E) (turns : Turns E) (never : (i : ℕ) → i < n → Contradictory E i → ⊥) (g : Greedy E n x) where
  -- a choice that is reached turns round: its other value reaches the other value of the choice
  back : (j i w : ℕ) → Reach E j (get_or x j 0) i w → Reach E i (1 - w) j (1 - get_or x j 0)
  back j i w r = reach_turned fits turns (g.small j) r

  -- no earlier choice reaches the other value of i
  into : (i : ℕ) → i < n → Consistent E x i → (j : ℕ) → j < i → Reach E j (get_or x j 0) i (1 - get_or x i 0) → ⊥
  into i h b j l r = ⊎_elim low high (zero_or_one (g.small i))
    where
      low : get_or x i 0 ≡ 0 → ⊥
      low e = g.zero i h e (after j l (rw e at r))

      high : get_or x i 0 ≡ 1 → ⊥
      high e = by_force (g.one i h e)
        where
          q : Reach E j (get_or x j 0) i 0
          q = rw e at r

          by_force : MustBeOne E x i → ⊥
          by_force (alone a) = b j j l l (reach_trans (reach_trans q a) (back j i 0 q))
          by_force (after k m a) = b j k l m (reach_trans q (back k i 1 a))

  -- and i's own does not
  self : (i : ℕ) → i < n → Consistent E x i → Reach E i (get_or x i 0) i (1 - get_or x i 0) → ⊥
  self i h b r = ⊎_elim low high (zero_or_one (g.small i))
    where
      low : get_or x i 0 ≡ 0 → ⊥
      low e = g.zero i h e (alone (rw e at r))

      high : get_or x i 0 ≡ 1 → ⊥
      high e = by_force (g.one i h e)
        where
          q : Reach E i 1 i 0
          q = rw e at r

          by_force : MustBeOne E x i → ⊥
          by_force (alone a) = never i h (record { up = a; down = q })
          by_force (after k m a) = b k k m m (reach_trans (reach_trans a q) (back k i 1 a))

  further : (k : ℕ) → k < n → Consistent E x k → Consistent E x (suc k)
  further k h b i j p q r = go (below_or_at p) (below_or_at q)
    where
      flip : (v : ℕ) → v < 2 → 1 - (1 - v) ≡ v
      flip v s = omega arith

      go : (i < k) ⊎ (i ≡ k) → (j < k) ⊎ (j ≡ k) → ⊥
      go (inl s) (inl t) = b i j s t r
      go (inl s) (inr e) = into k h b i s (rw e at r)
      go (inr e) (inl t) = into k h b j t (rw (flip (get_or x j 0) (g.small j), e) at (back i j (1 - get_or x j 0) r))
      go (inr e) (inr f) = self k h b (rw (e, f) at r)

  consistent : (k : ℕ) → k ≤ n → Consistent E x k
  consistent zero h = λ i j p q r. omega arith
  consistent (suc k) h = further k (omega arith) (consistent k (omega arith))

  -- the choices have what each implication gives
  pub greedy_allows : Allows E n x
  greedy_allows = record { as_long = g.as_long; small = g.small; obeys = obeys }
    where
      obeys : (e : Implication) → Memᴰ e E → get_or x e.from 0 ≡ e.when → get_or x e.to 0 ≡ e.gives
      obeys e m h = go (ℕ_discrete (get_or x e.to 0) e.gives)
        where
          go : Dec (get_or x e.to 0 ≡ e.gives) → get_or x e.to 0 ≡ e.gives
          go (yes p) = p
          go (no p) =
              let other : e.gives ≡ 1 - get_or x e.to 0 = omega (arith, g.small e.to, (fits e m).gives) in
              absurd (consistent n (omega arith) e.from e.to (fits e m).from (fits e m).to (rw (h, ← other) (reach_one e m)))

-- whatever has what is implied, and the earlier choices, has 1 where the choice must be 1
must_one : {E : List Implication} {n : ℕ} {x y : List ℕ} {i : ℕ} → Allows E n y → SameBelow i x y → MustBeOne E x i → get_or y i 0 ≡ 1
must_one {y = y} {i = i} a same (alone r) = ⊎_elim (λ z. reach_sound a r z) (λ z. z) (zero_or_one (a.small i))
must_one a same (after j l r) = reach_sound a r (same j l)

pub greedy_least : (l : List Record) {n : ℕ} {x : List ℕ} → Ends n l → ((i : ℕ) → i < n → Contradictory (rules_of l) i → ⊥) → Greedy (rules_of l) n x → Least l n x
greedy_least l {n} {x} ends never g = record { meets_all = allows_meets (greedy_allows (rules_fit l ends) (rules_turn l) never g); zero = zeros }
  where
    zeros : (i : ℕ) → i < n → (y : List ℕ) → MeetsAll l n y → SameBelow i x y → get_or y i 0 ≡ 0 → get_or x i 0 ≡ 0
    zeros i h y a same e = ⊎_elim (λ z. z) (λ z. absurd (omega (arith, must_one (meets_allows a) same (g.one i h z)))) (zero_or_one (g.small i))

-- there is one least assignment only
pub least_unique : {l : List Record} {n : ℕ} {x y : List ℕ} → Least l n x → Least l n y → x ≡ y
least_unique {l} {n} {x} {y} p q =
    ext_get_or 0 x y (p.meets_all.as_long ∙ sym q.meets_all.as_long) (λ i h. same (length x) (omega (arith, p.meets_all.as_long)) i h)
  where
    next : (k : ℕ) → k < n → ((i : ℕ) → i < k → get_or x i 0 ≡ get_or y i 0) → get_or x k 0 ≡ get_or y k 0
    next k l f =
        ⊎_elim
        (λ z. z ∙ sym (q.zero k l x p.meets_all f z))
        (λ z. ⊎_elim (λ t. p.zero k l y q.meets_all (λ j s. sym (f j s)) t ∙ sym t) (λ t. z ∙ sym t) (zero_or_one (q.meets_all.small k)))
        (zero_or_one (p.meets_all.small k))

    -- they agree below k
    same : (k : ℕ) → k ≤ n → (i : ℕ) → i < k → get_or x i 0 ≡ get_or y i 0
    same zero l i h = absurd (omega arith)
    same (suc k) l i h = ⊎_elim (λ s. same k (omega arith) i s) (λ e. rw e (next k (omega arith) (same k (omega arith)))) (below_or_at h)
