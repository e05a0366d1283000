-- What entering the findings of some variables leaves: of none, of one, and of some after others. Assumes nothing.
use Prim.Native.Nat.{ℕ, zero, suc, ◌+◌, ◌<◌, ◌≤◌}
use mathlib.Core.Path.{◌≡◌, refl, sym, ap, ◌∙◌}
use mathlib.Core.Logic.{◌⊎◌, inl, inr, ⊎_elim}
use mathlib.Core.List.Memᴰ
use mathlib.Core.List.{List, [], ◌++◌, append_assoc, Memᴰ}
use native.Mathlib.Decide.{ℕ_discrete}
use native.Mathlib.Omega.{arith}
use lib.ListN.{length, get_or}
use Rattle.meaning.specs.Kinds.{Constraint}
use Rattle.meaning.specs.Records.{Record, record_of}
use Rattle.found.specs.Holding.{SameSet, Gathering}
use Rattle.found.proofs.Gathering.{gathering_as}
use Rattle.probe.specs.Found.{Finding, nothing, value, constraint}
use Rattle.finding.specs.Finds.{added, wins, records_to}
use Rattle.finding.specs.Emit.{Bench, entered}
use Rattle.finding.specs.Enters.{FoundOf, Enters}
use Rattle.finding.proofs.Emitted.{entered_long, entered_low}
use Rattle.finding.proofs.Entered.{SmallFinding, none_constraint, entered_other, entered_at, entered_gathers}

-- ---- what is added

no_member : {x : Record} {A : Type 0} → Memᴰ x [] → A
no_member m = absurd (Memᴰ.not-nil m)

added_on : (d : Finding) (S : List Record) → added d [] ++ S ≡ added d S
unfolding added
added_on nothing S = refl
added_on (value w) S = refl
added_on (constraint c) S = refl

added_is : (d : Finding) (x : Record) → Memᴰ x (added d []) → ((c : Constraint) × ((d ≡ constraint c) × (x ≡ record_of c)))
unfolding added
added_is nothing x m = no_member m
added_is (value w) x m = no_member m
added_is (constraint c) x m = (c, (refl, Memᴰ.eq_of_singleton m))

added_has : (d : Finding) (c : Constraint) (l : List Record) → d ≡ constraint c → Memᴰ (record_of c) (added d l)
unfolding added
added_has d c l e = rw e (Memᴰ.head refl)

wins_twice : (d : Finding) (x : ℕ) → wins d (wins d x) ≡ wins d x
unfolding wins
wins_twice nothing x = refl
wins_twice (value w) x = refl
wins_twice (constraint c) x = refl

wins_none : (d : Finding) (x : ℕ) → d ≡ nothing → x ≡ wins d x
unfolding wins
wins_none d x e = rw e

-- ---- nothing, one, and some after some

pub enters_none : (d : ℕ → Finding) (n at : ℕ) (b : Bench) {X : ℕ → Type 0} → ((j : ℕ) → X j → ⊥) → Enters d n at X b b
enters_none d n at b empty = record {
  long = refl;
  low = omega arith;
  others = λ p h apart. refl;
  old_or_won = λ j h. inl refl;
  won = λ j h x. absurd (empty j x);
  records = [];
  sound = λ x m. no_member m;
  all = λ j h x c e. absurd (empty j x);
  gathers = λ l G. G;
}

pub enters_one : (d : ℕ → Finding) (n at : ℕ) (b : Bench) (j : ℕ) → j < n → at + n ≤ b.end → b.end < length b.words → SmallFinding (d j)
    → Enters d n at (λ x. x ≡ j) b (entered (d j) (at + j) b)
enters_one d n at b j h low room small = record {
  long = entered_long (d j) (at + j) b;
  low = entered_low (d j) (at + j) b;
  others = λ p l apart. entered_other (d j) (at + j) b p (apart j h) (λ e. absurd (omega arith));
  old_or_won = λ x l. elim (ℕ_discrete x j) [
    | yes e ↦ inr (won_at x e)
    | no ne ↦ inl (entered_other (d j) (at + j) b (at + x) (λ e. ne (omega arith)) (λ e. absurd (omega arith)))
  ];
  won = λ x l e. won_at x e;
  records = added (d j) [];
  sound = λ x m. let z = added_is (d j) x m in record { variable = j; below = h; is = z.0; finds = z.1.0; same = z.1.1 };
  all = λ x l e c q. added_has (d j) c [] (ap d (sym e) ∙ q);
  gathers = λ {S} {lo} {held} {list₀} {list} l G. rw (added_on (d j) S) (entered_gathers S lo held list₀ list (at + j) b (omega arith) room G (d j) small);
}
  where
    won_at : (x : ℕ) → x ≡ j → get_or (entered (d j) (at + j) b).words (at + x) 0 ≡ wins (d x) (get_or b.words (at + x) 0)
    won_at x e = rw e (entered_at (d j) (at + j) b (λ z. absurd (omega arith)) (omega arith))

module _ {d : ℕ → Finding} {n at : ℕ} {X Y : ℕ → Type 0} {a b c : Bench} (A : Enters d n at X a b) (B : Enters d n at Y b c) where
  then_won : (j : ℕ) → j < n → get_or b.words (at + j) 0 ≡ wins (d j) (get_or a.words (at + j) 0) → get_or c.words (at + j) 0 ≡ wins (d j) (get_or a.words (at + j) 0)
  then_won j h e = ⊎_elim (λ z. z ∙ e) (λ z. z ∙ ap (wins (d j)) e ∙ wins_twice (d j) (get_or a.words (at + j) 0)) (B.old_or_won j h)

  won_then : (j : ℕ) → j < n → get_or c.words (at + j) 0 ≡ wins (d j) (get_or b.words (at + j) 0) → get_or c.words (at + j) 0 ≡ wins (d j) (get_or a.words (at + j) 0)
  won_then j h e = ⊎_elim (λ z. e ∙ ap (wins (d j)) z) (λ z. e ∙ ap (wins (d j)) z ∙ wins_twice (d j) (get_or a.words (at + j) 0)) (A.old_or_won j h)

  pub enters_then : {Z : ℕ → Type 0} → ((j : ℕ) → Z j → X j ⊎ Y j) → Enters d n at Z a c
  enters_then {Z} part = record {
    long = B.long ∙ A.long;
    low = omega (arith, A.low, B.low);
    others = λ p h apart. B.others p (omega (arith, A.low)) apart ∙ A.others p h apart;
    old_or_won = λ j h. ⊎_elim (λ z. ⊎_elim (λ y. inl (z ∙ y)) (λ y. inr (z ∙ y)) (A.old_or_won j h)) (λ z. inr (won_then j h z)) (B.old_or_won j h);
    won = λ j h z. ⊎_elim (λ x. then_won j h (A.won j h x)) (λ y. won_then j h (B.won j h y)) (part j z);
    records = B.records ++ A.records;
    sound = λ x m. ⊎_elim (B.sound x) (A.sound x) (Memᴰ.append_cases B.records m);
    all = λ j h z q e. ⊎_elim (λ x. Memᴰ.append_right B.records (A.all j h x q e)) (λ y. Memᴰ.append_left A.records (B.all j h y q e)) (part j z);
    gathers = λ {S} l G. rw (append_assoc B.records A.records S) (B.gathers l (A.gathers l G));
  }

-- findings that are equal below n are entered alike
pub enters_as : {d g : ℕ → Finding} {n at : ℕ} {X : ℕ → Type 0} {a b : Bench} → ((j : ℕ) → j < n → d j ≡ g j) → Enters d n at X a b → Enters g n at X a b
enters_as {d} {g} {n} {at} {X} {a} {b} is E = record {
  long = E.long;
  low = E.low;
  others = E.others;
  old_or_won = λ j h. rw (← is j h) (E.old_or_won j h);
  won = λ j h x. rw (← is j h) (E.won j h x);
  records = E.records;
  sound = λ x m. let o = E.sound x m in record { variable = o.variable; below = o.below; is = o.is; finds = sym (is o.variable o.below) ∙ o.finds; same = o.same };
  all = λ j h x c e. E.all j h x c (is j h ∙ e);
  gathers = E.gathers;
}

-- ---- all records

added_more : (d : Finding) (l : List Record) (x : Record) → Memᴰ x l → Memᴰ x (added d l)
unfolding added
added_more nothing l x m = m
added_more (value w) l x m = m
added_more (constraint c) l x m = Memᴰ.tail m

-- what was found stays found
pub to_more : (g : ℕ → Finding) (l : List Record) (k : ℕ) (x : Record) → Memᴰ x l → Memᴰ x (records_to g l k)
unfolding records_to
to_more g l zero x m = m
to_more g l (suc k) x m = added_more (g k) (records_to g l k) x (to_more g l k x m)

to_has : (g : ℕ → Finding) (l : List Record) (k j : ℕ) (c : Constraint) → j < k → g j ≡ constraint c → Memᴰ (record_of c) (records_to g l k)
unfolding records_to
to_has g l zero j c h e = absurd (omega arith)
to_has g l (suc k) j c h e = elim (ℕ_discrete j k) [
  | yes z ↦ added_has (g k) c (records_to g l k) (ap g (sym z) ∙ e)
  | no ne ↦ added_more (g k) (records_to g l k) (record_of c) (to_has g l k j c (omega arith) e)
]

added_cases : (d : Finding) (l : List Record) (x : Record) → Memᴰ x (added d l) → Memᴰ x l ⊎ ((c : Constraint) × ((d ≡ constraint c) × (x ≡ record_of c)))
unfolding added
added_cases nothing l x m = inl m
added_cases (value w) l x m = inl m
added_cases (constraint c) l x m = ⊎_elim (λ e. inr (c, (refl, e))) (λ q. inl q) (Memᴰ.cases_cons m)

to_is : (g : ℕ → Finding) (l : List Record) (k : ℕ) (x : Record) → Memᴰ x (records_to g l k) → Memᴰ x l ⊎ FoundOf g k x
unfolding records_to
to_is g l zero x m = inl m
to_is g l (suc k) x m = ⊎_elim
    (λ q. ⊎_elim inl (λ o. inr record { variable = o.variable; below = omega (arith, o.below); is = o.is; finds = o.finds; same = o.same }) (to_is g l k x q))
    (λ z. inr record { variable = k; below = omega arith; is = z.0; finds = z.1.0; same = z.1.1 })
    (added_cases (g k) (records_to g l k) x m)

-- where nothing is found of what was not entered, the probe values and the constraints are those of all variables
module _ {g : ℕ → Finding} {n at : ℕ} {X : ℕ → Type 0} {a b : Bench} (E : Enters g n at X a b) (rest : (j : ℕ) → j < n → X j ⊎ (g j ≡ nothing)) where
  -- Theorem. Where nothing is found of what was not entered, each probe value is that of all findings.
  pub enters_values : (j : ℕ) → j < n → get_or b.words (at + j) 0 ≡ wins (g j) (get_or a.words (at + j) 0)
  enters_values j h = ⊎_elim (E.won j h) (λ e. ⊎_elim (λ z. z ∙ wins_none (g j) (get_or a.words (at + j) 0) e) (λ z. z) (E.old_or_won j h)) (rest j h)

  enters_same : (S : List Record) → SameSet (E.records ++ S) (records_to g S n)
  enters_same S = record {
    to = λ y m. ⊎_elim
        (λ q. let o = E.sound y q in rw o.same (to_has g S n o.variable o.is o.below o.finds))
        (to_more g S n y)
        (Memᴰ.append_cases E.records m);
    from = λ y m. ⊎_elim
        (λ q. Memᴰ.append_right E.records q)
        (λ o. rw o.same (Memᴰ.append_left S (⊎_elim
        (λ x. E.all o.variable o.below x o.is o.finds)
        (λ z. none_constraint (sym z ∙ o.finds))
        (rest o.variable o.below))))
        (to_is g S n y m);
  }

  -- Theorem. Where nothing is found of what was not entered, the gathered numbers stand for all constraints found.
  pub enters_gathers : {S : List Record} {lo held : ℕ} {list₀ list : List ℕ} → at + n ≤ lo → Gathering S lo a.end held list₀ list a.words
      → Gathering (records_to g S n) lo b.end held list₀ list b.words
  enters_gathers {S} l G = gathering_as (E.gathers l G) (enters_same S)
