-- Propagation goes on: a value is forced on a free variable, and what stands is kept. Assumes nothing.
use Prim.Native.Nat.{ℕ, ◌+◌, ◌*◌, ◌<◌, ◌≤◌}
use mathlib.Core.Path.{◌≡◌, refl, sym, ap, ◌∙◌, subst}
use mathlib.Core.Logic.{◌≢◌, ◌⊎◌, inl, inr, ⊎_elim}
use mathlib.Core.List.{List}
use native.Mathlib.Decide.{ℕ_discrete}
use native.Mathlib.Omega.{arith}
use lib.ListN.{length, get_or, set, take, length-set}
use lib.Seq.{get_or-set_same, get_or-set_other, get_or-take, take-set-lt, take-set-le, length-take-le}
use Rattle.meaning.specs.Free.{frees}
use Rattle.meaning.specs.Steps.{Valid}
use Rattle.meaning.specs.Literal.{Holds, given, follows, BothWays}
use Rattle.meaning.proofs.Free.{frees_le, frees_set}
use Rattle.meaning.proofs.Values.{zero_or_one, below_or_at, fixed}
use Rattle.meaning.proofs.Implications.{rules_fit}
use Rattle.constraints.specs.Record.{room}
use Rattle.literals.specs.Listed.{Listed}
use Rattle.literals.specs.Ends.{rules, mine, other, says, Linked}
use Rattle.literals.specs.Going.{Valued, Going, Kept, Stands, Small, Freed, Entering}
use Rattle.literals.proofs.Rules.{other_below, listed_ends}

-- ---- what holds

pub holds_small : {list s : List ℕ} {i v : ℕ} → Listed (length s) list → Holds (rules list) s i v → v < 2
holds_small L (given h small e) = small
holds_small {list = list} L (follows {e = e} m h) = (rules_fit _ (listed_ends L) e m).gives

-- two values of one variable that hold are 0 and 1
pub both_ways : {list s : List ℕ} {j a b : ℕ} → Listed (length s) list → Holds (rules list) s j a → Holds (rules list) s j b → a ≢ b → BothWays (rules list) s
both_ways {j = j} {a = a} {b = b} L p q ne =
    let ha = holds_small L p in
    let hb = holds_small L q in
    ⊎_elim
    (λ z. let o : b ≡ 1 = omega arith in record { at = j; zero = rw z at p; one = rw o at q })
    (λ z. let o : b ≡ 0 = omega arith in record { at = j; zero = rw o at q; one = rw z at p })
    (zero_or_one ha)

-- ---- what is kept

pub kept_refl : (n : ℕ) (u : List ℕ) (tail : ℕ) → Kept n u tail u tail
kept_refl n u tail = record { long = refl; grows = omega arith; values = λ i h. inr refl; queue = λ h l. refl; rest = λ y h. refl }

pub kept_trans : {n : ℕ} {u v w : List ℕ} {a b c : ℕ} → Kept n u a v b → Kept n v b w c → Kept n u a w c
kept_trans p q = record {
  long = q.long ∙ p.long;
  grows = omega (arith, p.grows, q.grows);
  values = λ i h. ⊎_elim inl (λ e. ⊎_elim (λ f. inl (sym e ∙ f)) (λ f. inr (f ∙ e)) (q.values i h)) (p.values i h);
  queue = λ h l. q.queue h (omega (arith, p.grows)) ∙ p.queue h l;
  rest = λ y h. q.rest y h ∙ p.rest y h;
}

pub value_kept : {n : ℕ} {u v : List ℕ} {a b i : ℕ} → Kept n u a v b → Valued n u i → get_or v i 0 ≡ get_or u i 0
value_kept {i = i} K has = fixed (K.values i has.variable) has.value

pub valued_kept : {n : ℕ} {u v : List ℕ} {a b i : ℕ} → Kept n u a v b → Valued n u i → Valued n v i
valued_kept K has = record { variable = has.variable; value = rw (value_kept K has) has.value }

-- what an end with a value says stands on
pub stands_kept : {list : List ℕ} {n : ℕ} {u v : List ℕ} {a b : ℕ} (x : ℕ) → Listed n list → x < 2 * room list → Kept n u a v b → Valued n u (mine list x)
    → Stands list u x → Stands list v x
stands_kept {list} {n} {u} {v} x L h K has s =
    let e = value_kept K has in
    rw e (go (ℕ_discrete (says list x (get_or u (mine list x) 0)) 2))
  where
    go : Dec (says list x (get_or u (mine list x) 0) ≡ 2) → (says list x (get_or u (mine list x) 0) ≡ 2) ⊎ (get_or v (other list x) 0 ≡ says list x (get_or u (mine list x) 0))
    go (yes z) = inl z
    go (no z) = ⊎_elim inl (λ f. ⊎_elim (λ two. absurd (z (sym f ∙ two))) (λ e. inr (e ∙ f)) (K.values (other list x) (other_below list L x h))) s

-- ---- a value is forced

module _ {list s u : List ℕ} {tail j w : ℕ} (G : Going list s u tail) (hj : j < length s) (free : get_or u j 0 ≡ 2) (small : w < 2) where
  abbrev n : ℕ
  n = length s

  in_values : (i : ℕ) → i < n → get_or (take n u) i 0 ≡ get_or u i 0
  in_values i h = get_or-take n u i 0 h

  one_free : frees (take n u) ≡ frees (set (take n u) j w) + 1
  one_free = frees_set (take n u) j w (in_values j hj ∙ free) small

  pub force_room : n + tail < n + n
  force_room = omega (arith, G.queue_room, one_free)

  forced : List ℕ
  forced = set (set u j w) (n + tail) j

  at_variable : get_or forced j 0 ≡ w
  unfolding forced
  at_variable = get_or-set_other (set u j w) (n + tail) j j 0 (λ e. omega arith) ∙ get_or-set_same u j w 0 (omega (arith, G.long))

  at_queue : get_or forced (n + tail) 0 ≡ j
  unfolding forced
  at_queue = get_or-set_same (set u j w) (n + tail) j 0 (simp length-set (omega (arith, G.long, force_room)))

  elsewhere : (y : ℕ) → y ≢ j → y ≢ n + tail → get_or forced y 0 ≡ get_or u y 0
  unfolding forced
  elsewhere y p q = get_or-set_other (set u j w) (n + tail) y j 0 q ∙ get_or-set_other u j y w 0 p

  pub force_value : get_or (set (set u j w) (n + tail) j) j 0 ≡ w
  unfolding forced
  force_value = at_variable

  pub force_others : (i : ℕ) → i < n → i ≢ j → get_or (set (set u j w) (n + tail) j) i 0 ≡ get_or u i 0
  unfolding forced
  force_others i h ne = elsewhere i ne (λ q. omega arith)

  -- each variable is j, or as it was
  cases : (i : ℕ) → i < n → (i ≡ j) ⊎ (get_or forced i 0 ≡ get_or u i 0)
  cases i h = elim (ℕ_discrete i j) [ yes e ↦ inl e | no e ↦ inr (elsewhere i e (λ q. omega arith)) ]

  pub force_kept : Kept n u tail (set (set u j w) (n + tail) j) (tail + 1)
  unfolding forced
  force_kept = record {
    long = simp length-set;
    grows = omega arith;
    values = λ i h. ⊎_elim (λ e. inl (rw e free)) inr (cases i h);
    queue = λ h l. elsewhere (n + h) (λ q. omega arith) (λ q. omega arith);
    rest = λ y h. elsewhere y (λ q. omega arith) (λ q. omega (arith, force_room));
  }

  pub force_going : Holds (rules list) s j w → Going list s (set (set u j w) (n + tail) j) (tail + 1)
  unfolding forced
  force_going holds = record {
    long = rw force_kept.long G.long;
    linked = record {
      head = λ i h. rw (force_kept.rest (2 * n + i) (omega arith)) (G.linked.head i h);
      next = λ y h. rw (force_kept.rest (3 * n + y) (omega arith)) (G.linked.next y h);
    };
    queue_room = rw (values_set) (omega (arith, G.queue_room, one_free));
    queue = λ h l. ⊎_elim
        (λ b. rw (force_kept.queue h b) (valued_kept force_kept (G.queue h b)))
        (λ q. subst (λ (i : ℕ). Valued n (set (set u j w) (n + tail) j) i) (sym (ap (λ (k : ℕ). get_or (set (set u j w) (n + tail) j) (n + k) 0) q ∙ at_queue))
        (record { variable = hj; value = omega (arith, at_variable) }))
        (below_or_at {i = h} {k = tail} (omega arith));
    queued = λ i h. ⊎_elim
        (λ e. inr (record { at = tail; below = omega arith; is = at_queue ∙ sym e }))
        (λ e. ⊎_elim
        (λ z. inl (e ∙ z))
        (λ q. inr (record { at = q.at; below = omega (arith, q.below); is = force_kept.queue q.at q.below ∙ q.is }))
        (G.queued i h))
        (cases i h);
    sound = λ i h. ⊎_elim
        (λ e. inr (subst (λ (k : ℕ). Holds (rules list) s k (get_or (set (set u j w) (n + tail) j) k 0)) (sym e) (subst (Holds (rules list) s j) (sym at_variable) holds)))
        (λ e. ⊎_elim (λ z. inl (e ∙ z)) (λ z. inr (rw e z)) (G.sound i h))
        (cases i h);
  }
    where
      values_set : take n (set (set u j w) (n + tail) j) ≡ set (take n u) j w
      values_set = take-set-le n (set u j w) (n + tail) j (omega arith) ∙ take-set-lt n u j w hj

pub going_small : {list s u : List ℕ} {tail : ℕ} → Listed (length s) list → Going list s u tail → Small (length s) u
going_small L G i h = ⊎_elim (λ e. omega arith) (λ z. omega (arith, holds_small L z)) (G.sound i h)

-- ---- the start

module _ {list s : List ℕ} {tail i : ℕ} {u : List ℕ} (E : Entering list s u tail i) where
  -- the start value is free
  pub enter_free : get_or s i 0 ≡ 2 → Entering list s u tail (i + 1)
  enter_free e = record {
    going = E.going;
    given = λ j h. ⊎_elim (E.given j) (λ q. inl (ap (λ (k : ℕ). get_or s k 0) q ∙ e)) (below_or_at {i = j} {k = i} (omega arith));
    free = λ j h l. E.free j (omega arith) l;
  }

  -- it is given
  module _ (valid : Valid s) (h : i < length s) (ne : get_or s i 0 ≢ 2) where
    given_small : get_or s i 0 < 2
    given_small = omega (arith, valid i)

    still : get_or u i 0 ≡ 2
    still = E.free i (omega arith) h

    pub enter_room : length s + tail < length s + length s
    enter_room = force_room E.going h still given_small

    pub enter_given : {u' : List ℕ} {tail' : ℕ} → u' ≡ set (set u i (get_or s i 0)) (length s + tail) i → tail' ≡ tail + 1 → Entering list s u' tail' (i + 1)
    enter_given eu et = rw (eu, et) (record {
      going = force_going E.going h still given_small (given {v = get_or s i 0} h given_small refl);
      given = λ j l. ⊎_elim
          (λ b. ⊎_elim inl (λ e. inr (force_others E.going h still given_small j (omega arith) (λ q. omega arith) ∙ e)) (E.given j b))
          (λ q. inr (subst (λ (k : ℕ). get_or (set (set u i (get_or s i 0)) (length s + tail) i) k 0 ≡ get_or s k 0) (sym q) (force_value E.going h still given_small)))
          (below_or_at {i = j} {k = i} (omega arith));
      free = λ j l m. force_others E.going h still given_small j m (λ q. omega arith) ∙ E.free j (omega arith) m;
    })

-- every variable is free
pub enter_start : {list s u u' : List ℕ} → Linked list (length s) u (2 * room list) → 3 * length s + 2 * room list ≤ length u → Freed (length s) u u' → Entering list s u' 0 0
enter_start {s = s} {u' = u'} L long F = record {
  going = record {
    long = omega (arith, F.long);
    linked = record {
      head = λ i h. rw (F.rest (2 * length s + i) (omega arith)) (L.head i h);
      next = λ y h. rw (F.rest (3 * length s + y) (omega arith)) (L.next y h);
    };
    queue_room = omega (arith, frees_le (take (length s) u'), length-take-le (length s) u' (omega (arith, F.long)));
    queue = λ h l. absurd (omega arith);
    queued = λ i h. inl (F.free i h);
    sound = λ i h. inl (F.free i h);
  };
  given = λ j h. absurd (omega arith);
  free = λ j l m. F.free j m;
}
