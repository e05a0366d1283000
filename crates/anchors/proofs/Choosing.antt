-- The leader of a part stands before every member, and a part has an anchor exactly if the rule gives it one. Assumes nothing.
use Prim.Native.Nat.{ℕ, ◌<◌, ◌≤◌}
use mathlib.Core.Path.{◌≡◌, refl, sym, ◌∙◌}
use mathlib.Core.Logic.{◌⊎◌, inl, inr, ⊎_elim, ◌↔◌}
use mathlib.Core.Bool.{Bool, true, false, cond, ◌&&◌, false≢true}
use mathlib.Core.List.{List, [], ◌∷◌}
use native.Mathlib.Omega.{arith}
use borrow.Author.Tests.{ltb-true, ltb-false, lt-ltb, eqb-true, eqb-false, eq-eqb, leb-true, le-leb}
use lib.Dec.{ltb, leb, eqb}
use lib.ListN.{length, get_or}
use lib.Ieee.{lt, eq}
use Rattle.scratch.proofs.All.{both}
use Rattle.field.specs.Field.{Field, Shaped}
use Rattle.field.specs.Tests.{Finite}
use Rattle.parts.specs.Part.{has}
use Rattle.parts.proofs.Listed.{either, second}
use Rattle.anchors.specs.declared.Leader.{Leader}
use Rattle.anchors.specs.Sums.{balanced, weight_of}
use Rattle.anchors.specs.Model.{leader, against, lead_over, leads, turnable, all_turnable}
use Rattle.anchors.specs.Rule.{Before, Leads, Turns}
use Rattle.anchors.proofs.Ranks.{rank_of, weight_ranked, lt_ranked, eq_ranked}

-- ---- the leader

module _ {F : Field} (S : Shaped F) (fine : Finite F) where
  abbrev R : ℕ → ℕ
  R = rank_of F

  -- in ranks
  abbrev Ahead : ℕ → ℕ → Type 0
  Ahead a i = (R i < R a) ⊎ ((R i ≡ R a) × (a ≤ i))

  ahead_before : (a i : ℕ) → Ahead a i → Before F a i
  ahead_before a i (inl l) = inl (lt_ranked (weight_ranked S fine i) (weight_ranked S fine a) ∙ lt-ltb (R i) (R a) l)
  ahead_before a i (inr e) = inr (eq_ranked (weight_ranked S fine i) (weight_ranked S fine a) ∙ eq-eqb (R i) (R a) e.0, e.1)

  ahead_through : (a b i : ℕ) → Ahead a b → Ahead b i → Ahead a i
  ahead_through a b i (inl l) (inl k) = inl (omega arith)
  ahead_through a b i (inl l) (inr k) = inl (omega arith)
  ahead_through a b i (inr l) (inl k) = inl (omega arith)
  ahead_through a b i (inr l) (inr k) = inr (omega arith, omega arith)

  -- i against a: the new leader is one of the two, and stands before both
  pub record Chosen (a i b : ℕ) : Type 0 where
    pub one_of : (b ≡ a) ⊎ (b ≡ i)
    pub old : Ahead b a
    pub new : Ahead b i

  -- a leader has its own variable's weight
  abbrev Own : Leader → Type 0
  Own g = g.weight ≡ weight_of F g.variable

  choose : (g h : Leader) (x y z : Bool) → ltb (R g.variable) (R h.variable) ≡ x → eqb (R h.variable) (R g.variable) ≡ y → ltb h.variable g.variable ≡ z
      → Own g → Own h → Chosen g.variable h.variable (cond x h (cond y (cond z h g) g)).variable × Own (cond x h (cond y (cond z h g) g))
  choose g h true y z ex ey ez og oh = (record { one_of = inr refl; old = inl (ltb-true (R g.variable) (R h.variable) ex); new = inr (refl, omega arith) }, oh)
  choose g h false true true ex ey ez og oh =
      let e = eqb-true (R h.variable) (R g.variable) ey in
      let l = ltb-true h.variable g.variable ez in
      (record { one_of = inr refl; old = inr (sym e, omega arith); new = inr (refl, omega arith) }, oh)
  choose g h false true false ex ey ez og oh = (
    record { one_of = inl refl; old = inr (refl, omega arith); new = inr (eqb-true (R h.variable) (R g.variable) ey, ltb-false h.variable g.variable ez) },
    og,
  )
  choose g h false false z ex ey ez og oh =
      let n = eqb-false (R h.variable) (R g.variable) ey in
      let l = ltb-false (R g.variable) (R h.variable) ex in
      (record { one_of = inl refl; old = inr (refl, omega arith); new = inl (omega arith) }, og)

  against_chosen : (g : Leader) (i : ℕ) → Own g → Chosen g.variable i (against g i (weight_of F i)).variable × Own (against g i (weight_of F i))
  unfolding against
  against_chosen g i og =
      let wi = weight_ranked S fine i in
      let wg = weight_ranked S fine g.variable in
      choose g (leader i (weight_of F i)) (lt g.weight (weight_of F i)) (eq (weight_of F i) g.weight) (ltb i g.variable)
      (rw og (sym (lt_ranked wg wi))) (rw og (sym (eq_ranked wi wg))) refl og refl

  pub record Led (a : ℕ) (l : List ℕ) (b : ℕ) : Type 0 where
    pub one_of : (b ≡ a) ⊎ (has l b ≡ true)
    pub old : Ahead b a
    pub all : (i : ℕ) → has l i ≡ true → Ahead b i

  lead_led : (l : List ℕ) (g : Leader) → Own g → Led g.variable l (lead_over F g l).variable
  unfolding lead_over has
  lead_led [] g og = record { one_of = inl refl; old = inr (refl, omega arith); all = λ i e. absurd (false≢true e) }
  lead_led (j ∷ l) g og = go (against g j (weight_of F j)) (against_chosen g j og) (λ o. lead_led l (against g j (weight_of F j)) o)
    where
      go : (h : Leader) → Chosen g.variable j h.variable × Own h → (Own h → Led h.variable l (lead_over F h l).variable) → Led g.variable (j ∷ l) (lead_over F h l).variable
      go h c rest =
          let r = rest c.1 in
          let b = (lead_over F h l).variable in
          record {
            one_of = ⊎_elim
                (λ e. ⊎_elim (λ o. inl (e ∙ o)) (λ o. let w : j ≡ b = sym (e ∙ o) in inr (rw (eq-eqb j b w) refl)) c.0.one_of)
                (λ m. inr (second (eqb j b) (has l b) m)) r.one_of;
            old = ahead_through b h.variable g.variable r.old c.0.old;
            all = λ i e.
                ⊎_elim (λ q. let w : j ≡ i = eqb-true j i q in rw (← w) (ahead_through b h.variable j r.old c.0.new)) (λ m. r.all i m) (either (eqb j i) (has l i) e);
          }

  -- the leader of a part that has the start
  pub leads_part : {K : List ℕ} (start : ℕ) → has K start ≡ true → Leads F K (leads F start K)
  unfolding leads
  leads_part {K} start m =
      let r = lead_led K (leader start (weight_of F start)) refl in
      record { member = ⊎_elim (λ e. rw e m) (λ h. h) r.one_of; first = λ i h. ahead_before (leads F start K) i (r.all i h) }

  before_ahead : (a i : ℕ) → Before F a i → Ahead a i
  before_ahead a i (inl e) = inl (ltb-true (R i) (R a) (sym (lt_ranked (weight_ranked S fine i) (weight_ranked S fine a)) ∙ e))
  before_ahead a i (inr e) = inr (eqb-true (R i) (R a) (sym (eq_ranked (weight_ranked S fine i) (weight_ranked S fine a)) ∙ e.0), e.1)

  both_ahead : (a b : ℕ) → Ahead a b → Ahead b a → a ≡ b
  both_ahead a b (inl l) (inl k) = absurd (omega arith)
  both_ahead a b (inl l) (inr k) = absurd (omega arith)
  both_ahead a b (inr l) (inl k) = absurd (omega arith)
  both_ahead a b (inr l) (inr k) = omega arith

  -- a part has one leader
  pub leads_one : {K : List ℕ} {a b : ℕ} → Leads F K a → Leads F K b → a ≡ b
  leads_one {a = a} {b = b} x y = both_ahead a b (before_ahead a b (x.first b y.member)) (before_ahead b a (y.first a x.member))

-- ---- whether a part has one

module _ (F : Field) (s : List ℕ) where
  turnable_is : (i : ℕ) → (turnable F s i ≡ true) ↔ ((get_or s i 0 ≡ 2) × (balanced F i ≡ true))
  unfolding turnable
  turnable_is i = (
    (λ e. let t = both (eqb (get_or s i 0) 2) (balanced F i) e in (eqb-true (get_or s i 0) 2 t.0, t.1)),
    λ h. rw (eq-eqb (get_or s i 0) 2 h.0, h.1),
  )

  all_turn : (K : List ℕ) → all_turnable F s K ≡ true → (i : ℕ) → has K i ≡ true → (get_or s i 0 ≡ 2) × (balanced F i ≡ true)
  unfolding all_turnable has
  all_turn [] e i h = absurd (false≢true h)
  all_turn (j ∷ K) e i h =
      let t = both (turnable F s j) (all_turnable F s K) e in
      ⊎_elim (λ q. let w : j ≡ i = eqb-true j i q in rw (← w) ((turnable_is j).0 t.0)) (λ m. all_turn K t.1 i m) (either (eqb j i) (has K i) h)

  turn_all : (K : List ℕ) → ((i : ℕ) → has K i ≡ true → (get_or s i 0 ≡ 2) × (balanced F i ≡ true)) → all_turnable F s K ≡ true
  unfolding all_turnable has
  turn_all [] h = refl
  turn_all (j ∷ K) h =
      rw ((turnable_is j).1 (h j (rw (eq-eqb j j refl) refl)), turn_all K (λ i m. h i (second (eqb j i) (has K i) m)))

  -- the test is the rule
  pub turns_is : (least : ℕ) (K : List ℕ) → ((leb least (length K) && all_turnable F s K) ≡ true) ↔ Turns F s least K
  turns_is least K = (
    (λ e.
        let t = both (leb least (length K)) (all_turnable F s K) e in
        record { large = leb-true least (length K) t.0; free = λ i h. (all_turn K t.1 i h).0; symmetric = λ i h. (all_turn K t.1 i h).1 }),
    λ r. rw (le-leb least (length K) r.large, turn_all K (λ i h. (r.free i h, r.symmetric i h))),
  )
