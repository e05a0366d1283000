-- Serving: an end, the ends of a variable by its chain, and the queue. Assumes nothing.
use Prim.Native.Nat.{ℕ, ◌+◌, ◌*◌, ◌-◌, ◌<◌, ◌≤◌}
use mathlib.Core.Path.{◌≡◌, refl, sym, ap, ◌∙◌, subst}
use mathlib.Core.Logic.{◌≢◌, inl, inr, ⊎_elim}
use mathlib.Core.Bool.{Bool, true, false}
use mathlib.Core.List.{List}
use native.Mathlib.Decide.{ℕ_discrete, dec_lt}
use native.Mathlib.Omega.{arith}
use lib.ListN.{length, get_or, set, take}
use lib.Seq.{get_or-take, length-take-le}
use Rattle.meaning.specs.Steps.{Valid}
use Rattle.meaning.specs.Literal.{Holds, given, follows, BothWays, Settled, propagate}
use Rattle.meaning.proofs.Implications.{rules_fit}
use Rattle.meaning.proofs.Theorems.{propagation_clash, propagation_done}
use Rattle.meaning.proofs.Values.{fixed, below_or_at}
use Rattle.constraints.specs.Record.{room, records}
use Rattle.std.specs.Prelude.{Option, Some, None}
use Rattle.literals.specs.Listed.{Listed}
use Rattle.literals.specs.Ends.{rules, mine, other, says, Last}
use Rattle.literals.specs.Going.{Valued, Going, Stands, Small, Given, Entering, Served, Outcome, on, clashed, found}
use Rattle.literals.proofs.Rules.{Gave, says_rule, rule_says, says_free, says_most, mine_below, other_below, listed_ends}
use Rattle.literals.proofs.Going.{holds_small, both_ways, going_small, kept_refl, kept_trans, value_kept, valued_kept, stands_kept, force_room, force_kept, force_going, force_value}

-- ---- one end

-- a variable's value is there, and is 0, 1 or 2
pub reads : {list s u : List ℕ} {tail i m : ℕ} → Listed (length s) list → Going list s u tail → i ≡ m → m < length s → (i < length u) × (get_or u i 0 ≤ 2)
reads {s = s} {i = i} L G e h = let l : i < length s = omega arith in (omega (arith, G.long), going_small L G i l)

module _ {list s u : List ℕ} {tail x i v w : ℕ} (L : Listed (length s) list) (G : Going list s u tail) (h : x < 2 * room list) (own : Valued (length s) u (mine list x))
    (is_mine : i ≡ mine list x) (is-value : v ≡ get_or u i 0) (is_said : w ≡ says list x v) where
  e : w ≡ says list x (get_or u (mine list x) 0)
  e = is_said ∙ ap (says list x) (is-value ∙ ap (λ (k : ℕ). get_or u k 0) is_mine)

  stays : Stands list u x → Outcome list s (λ y. y ≡ x) u tail u (Some tail)
  stays st = on (record { going = G; kept = kept_refl (length s) u tail; stands = λ y l q. rw q st })

  -- it says nothing
  pub end_nothing : w ≡ 2 → Outcome list s (λ y. y ≡ x) u tail u (Some tail)
  end_nothing z = stays (inl (sym e ∙ z))

  -- it says what stands
  pub end_same : {j have : ℕ} → j ≡ other list x → have ≡ get_or u j 0 → have ≡ w → Outcome list s (λ y. y ≡ x) u tail u (Some tail)
  end_same ej eh z = stays (inr (sym (eh ∙ ap (λ (k : ℕ). get_or u k 0) ej) ∙ z ∙ e))

  -- what it says holds
  said_holds : (r : ℕ) → r < 2 → Gave w r → Holds (rules list) s (other list x) r
  said_holds r small g =
      let m = says_rule list x (get_or u (mine list x) 0) r h small (rw e at g) in
      let from = ⊎_elim (λ z. absurd (omega (arith, own.value))) (λ z. z) (G.sound (mine list x) own.variable) in
      follows m from

  -- it says both
  pub end_both : w ≡ 3 → Outcome list s (λ y. y ≡ x) u tail u None
  end_both z = clashed (record { at = other list x; zero = said_holds 0 (omega arith) (inr z); one = said_holds 1 (omega arith) (inr z) })

  module _ {j have : ℕ} (ne : w ≢ 2) (nb : w ≢ 3) (ej : j ≡ other list x) (eh : have ≡ get_or u j 0) (differs : have ≢ w) where
    below : j < length s
    below = rw ej (other_below list L x h)

    small : w < 2
    small = omega (arith, e, says_most list x (get_or u (mine list x) 0), ne, nb)

    holds : Holds (rules list) s j w
    holds = rw (sym ej) at (said_holds w small (inl refl))

    -- it says the opposite
    pub end_clash : have ≢ 2 → Outcome list s (λ y. y ≡ x) u tail u None
    end_clash taken =
        let has = ⊎_elim (λ z. absurd (taken (eh ∙ z))) (λ z. z) (G.sound j below) in
        clashed (both_ways L has holds (λ z. differs (eh ∙ z)))

    -- it gives a free variable a value
    module _ (free : have ≡ 2) where
      still : get_or u j 0 ≡ 2
      still = sym eh ∙ free

      pub end_room : (j < length s) × (length s + tail < length s + length s)
      end_room = (below, force_room G below still small)

      pub end_forced : {u' : List ℕ} {last : ℕ} → last ≡ tail + 1 → u' ≡ set (set u j w) (length s + tail) j → Outcome list s (λ y. y ≡ x) u tail u' (Some last)
      end_forced el eu =
          let kept = force_kept G below still small in
          let same : get_or (set (set u j w) (length s + tail) j) (mine list x) 0 ≡ get_or u (mine list x) 0 = value_kept kept own in
          rw (el, eu) (on (record {
            going = force_going G below still small holds;
            kept = kept;
            stands = λ y l q. subst (Stands list (set (set u j w) (length s + tail) j)) (sym q)
                (inr (ap (λ (k : ℕ). get_or (set (set u j w) (length s + tail) j) k 0) (sym ej) ∙ force_value G below still small ∙ e ∙ ap (says list x) (sym same)));
          }))

-- ---- outcomes

-- a step that went on to t
pub went_on : {list s : List ℕ} {P : ℕ → Type 0} {u : List ℕ} {tail : ℕ} {u' : List ℕ} {r : Option ℕ} {t : ℕ} → Outcome list s P u tail u' r → r ≡ Some t → Served list s P u tail u' t
went_on {list} {s} {P} {u} {tail} {u'} {t = t} (on {tail' = tail'} d) e = let z : tail' ≡ t = cc in subst (Served list s P u tail u') z d
went_on (clashed b) e = let z : ◌≡◌ {A = ℕ} 0 1 = cc in absurd (omega arith)

-- a step that did not
pub went_not : {list s : List ℕ} {P : ℕ → Type 0} {u : List ℕ} {tail : ℕ} {u' : List ℕ} {r : Option ℕ} → Outcome list s P u tail u' r → r ≡ None → BothWays (rules list) s
went_not (on d) e = let z : ◌≡◌ {A = ℕ} 0 1 = cc in absurd (omega arith)
went_not (clashed b) e = b

-- ---- the ends of a variable, from the last to the first

-- from u₀ on, the ends of i from p on are served; p leads to the next
pub record Serving (list s u₀ : List ℕ) (tail₀ i : ℕ) (u : List ℕ) (tail p : ℕ) : Type 0 where
  pub served : Served list s (λ y. (mine list y ≡ i) × (p ≤ y)) u₀ tail₀ u tail
  pub within : p ≤ 2 * room list
  pub here : 0 < p → mine list (p - 1) ≡ i

module _ {list s u₀ : List ℕ} {tail₀ i : ℕ} (L : Listed (length s) list) (own : Valued (length s) u₀ i) where
  pub serve_start : Going list s u₀ tail₀ → {p : ℕ} → p ≡ get_or u₀ (2 * length s + i) 0 → Serving list s u₀ tail₀ i u₀ tail₀ p
  serve_start G {p} e =
      let last : Last list i (2 * room list) p = rw e (G.linked.head i own.variable) in record {
        served = record { going = G; kept = kept_refl (length s) u₀ tail₀; stands = λ y l q. absurd (last.none y q.1 l q.0) };
        within = last.within;
        here = last.here;
      }

  module _ {u : List ℕ} {tail p : ℕ} (D : Serving list s u₀ tail₀ i u tail p) (some : 0 < p) where
    pub serve_own : Valued (length s) u (mine list (p - 1))
    serve_own = rw (D.here some) (valued_kept D.served.kept own)

    pub serve_turn : {u' : List ℕ} {tail' p' : ℕ} → Served list s (λ y. y ≡ p - 1) u tail u' tail' → p' ≡ get_or u' (3 * length s + (p - 1)) 0 → Serving list s u₀ tail₀ i u' tail' p'
    serve_turn {u'} {tail'} {p'} S e =
        let last : Last list (mine list (p - 1)) (p - 1) p' =
        rw (e, S.kept.rest (3 * length s + (p - 1)) (omega arith)) (D.served.going.linked.next (p - 1) (omega (arith, D.within))) in record {
          served = record {
            going = S.going;
            kept = kept_trans D.served.kept S.kept;
            stands = λ y l q. elim (dec_lt y p) [
              | yes a ↦ elim (ℕ_discrete y (p - 1)) [
                | yes b ↦ S.stands y l b
                | no b ↦ absurd (last.none y q.1 (omega arith) (q.0 ∙ sym (D.here some)))
              ]
              | no a ↦ stands_kept y L l S.kept (rw q.0 (valued_kept D.served.kept own)) (D.served.stands y l (q.0, omega arith))
            ];
          };
          within = omega (arith, last.within, D.within);
          here = λ z. last.here z ∙ D.here some;
        }

    pub serve_less : {u' : List ℕ} {tail' p' : ℕ} → Served list s (λ y. y ≡ p - 1) u tail u' tail' → p' ≡ get_or u' (3 * length s + (p - 1)) 0 → p' < p
    serve_less {p' = p'} S e =
        let last : Last list (mine list (p - 1)) (p - 1) p' =
        rw (e, S.kept.rest (3 * length s + (p - 1)) (omega arith)) (D.served.going.linked.next (p - 1) (omega (arith, D.within))) in
        omega (arith, last.within)

    -- a clash of an end is one of the variable
    pub serve_clash : {u' : List ℕ} {r : Option ℕ} → Outcome list s (λ y. y ≡ p - 1) u tail u' r → r ≡ None → {v : List ℕ} → Outcome list s (λ y. mine list y ≡ i) u₀ tail₀ v None
    serve_clash o e = clashed (went_not o e)

  pub serve_done : {u : List ℕ} {tail p : ℕ} → Serving list s u₀ tail₀ i u tail p → p ≤ 0 → Outcome list s (λ y. mine list y ≡ i) u₀ tail₀ u (Some tail)
  serve_done D h = on (record { going = D.served.going; kept = D.served.kept; stands = λ y l q. D.served.stands y l (q, omega arith) })

-- ---- the queue

-- the first `head` variables of the queue are served
pub record Working (list s u : List ℕ) (tail head : ℕ) : Type 0 where
  pub going : Going list s u tail
  pub given : Given s u (length s)
  pub within : head ≤ tail
  pub stands : (h : ℕ) → h < head → (y : ℕ) → y < 2 * room list → mine list y ≡ get_or u (length s + h) 0 → Stands list u y

pub work_start : {list s u : List ℕ} {tail : ℕ} → Entering list s u tail (length s) → Working list s u tail 0
work_start E = record { going = E.going; given = E.given; within = omega arith; stands = λ h l. absurd (omega arith) }

module _ {list s u : List ℕ} {tail head : ℕ} (L : Listed (length s) list) (W : Working list s u tail head) where
  pub work_turn : {u' : List ℕ} {tail' i : ℕ} → head < tail → i ≡ get_or u (length s + head) 0 → Served list s (λ y. mine list y ≡ i) u tail u' tail' → Working list s u' tail' (head + 1)
  work_turn {u'} {tail'} {i} l e S = record {
    going = S.going;
    given = λ j h. ⊎_elim inl (λ z. ⊎_elim (λ a. inl (sym z ∙ a)) (λ a. inr (a ∙ z)) (S.kept.values j h)) (W.given j h);
    within = omega (arith, S.kept.grows);
    stands = λ h k y b q. ⊎_elim
        (λ a. let same = S.kept.queue h (omega (arith, W.within)) in
        stands_kept y L b S.kept (rw (q ∙ same) (W.going.queue h (omega (arith, W.within)))) (W.stands h a y b (q ∙ same)))
        (λ a. S.stands y b (q ∙ ap (λ (z : ℕ). get_or u' (length s + z) 0) a ∙ S.kept.queue head l ∙ sym e))
        (below_or_at {i = h} {k = head} (omega arith));
  }

  module _ (end : tail ≤ head) where
    -- every end stands
    all_stand : (y : ℕ) → y < 2 * room list → Stands list u y
    all_stand y b = ⊎_elim
        (λ z. inl (ap (says list y) z ∙ says_free list y))
        (λ q. W.stands q.at (omega (arith, q.below)) y b (sym q.is))
        (W.going.queued (mine list y) (mine_below list L y b))

    holds_here : {i v : ℕ} → Holds (rules list) s i v → get_or u i 0 ≡ v
    holds_here (given {i = i} h small e) = fixed (W.given i h) (omega arith) ∙ e
    holds_here (follows {e = r} m h) =
        let z = rule_says list m in
        let mine-has : get_or u (mine list z.end) 0 ≡ r.when = ap (λ (k : ℕ). get_or u k 0) z.from_mine ∙ holds_here h in
        let gave : Gave (says list z.end (get_or u (mine list z.end) 0)) r.gives = rw mine-has z.as_said in
        let bound = (rules_fit (records list) (listed_ends L) r m).gives in
        let small = going_small L W.going (other list z.end) (other_below list L z.end z.below) in
        ⊎_elim
        (λ a. absurd (⊎_elim (λ k. omega (arith, a, k, bound)) (λ k. omega (arith, a, k)) gave))
        (λ a. ⊎_elim (λ k. sym (ap (λ (v : ℕ). get_or u v 0) z.to_other) ∙ a ∙ k) (λ k. absurd (omega (arith, a, k, small))) gave)
        (all_stand z.end z.below)

    -- what stands at the end is settled
    settled : Settled (rules list) s (take (length s) u)
    settled =
        let long = length-take-le (length s) u (omega (arith, W.going.long)) in
        record {
          as_long = long;
          has = λ i v h. get_or-take (length s) u i 0 (inside h) ∙ holds_here h;
          only = λ i h. let l : i < length s = omega (arith, long) in let e = get_or-take (length s) u i 0 l in rw e (W.going.sound i l);
        }
      where
        inside : {i v : ℕ} → Holds (rules list) s i v → i < length s
        inside (given h small e) = h
        inside (follows {e = r} m h) = (rules_fit (records list) (listed_ends L) r m).to

    pub work_done : Valid s → found true (take (length s) u) ≡ propagate (rules list) s
    unfolding found
    work_done valid = sym ((propagation_done (records list) s (listed_ends L) valid (take (length s) u)).1 settled)

pub work_clash : {list s : List ℕ} → Listed (length s) list → Valid s → BothWays (rules list) s → (t : List ℕ) → found false t ≡ propagate (rules list) s
unfolding found
work_clash {list} {s} L valid b t = sym ((propagation_clash (records list) s (listed_ends L) valid).1 b)

-- values that were found are 0, 1 or 2
pub found_small : {list : List ℕ} (s u : List ℕ) (r : Bool) → Listed (length s) list → Valid s → length s ≤ length u
    → found r (take (length s) u) ≡ propagate (rules list) s → r ≡ true → Small (length s) u
unfolding found
found_small {list} s u r L valid long ran t i h =
    let z = (propagation_done (records list) s (listed_ends L) valid (take (length s) u)).0 (sym ran ∙ ap (λ (b : Bool). found b (take (length s) u)) t) in
    let l : i < length (take (length s) u) = omega (arith, length-take-le (length s) u long) in
    let same = get_or-take (length s) u i 0 h in
    ⊎_elim (λ q. omega (arith, q, same)) (λ q. omega (arith, holds_small L q, same)) (z.only i l)
