-- Of the free variables that the closure leaves, those of components of at most 10 get a value, and those of larger ones stay free. Assumes nothing.
use Prim.Native.Nat.{ℕ, ◌<◌, ◌≤◌}
use mathlib.Core.Path.{◌≡◌, refl, sym, ap, ◌∙◌}
use mathlib.Core.Logic.{⊎_elim}
use mathlib.Core.Bool.{Bool, true, false, ◌||◌, true≢false}
use mathlib.Core.List.{List, [], ◌∷◌}
use native.Mathlib.Omega.{arith}
use borrow.Author.Tests.{eqb-true, eq-eqb}
use lib.Dec.{eqb}
use lib.ListN.{length, get_or}
use lib.Ieee.{Float}
use Rattle.meaning.proofs.Values.{inside}
use Rattle.field.specs.declared.Grade.{Grade}
use Rattle.field.specs.Field.{Field, variables, Shaped, StartFor}
use Rattle.calls.proofs.Values as values
use Rattle.run.specs.Run.{closure}
use Rattle.run.proofs.Theorems.{closure_extends}
use Rattle.parts.specs.Part.{has, Apart, Open, Joined, Reaches, here, there, Component}
use Rattle.parts.proofs.Component.{component_long}
use Rattle.components.proofs.Small as small
use Rattle.no_effect.specs.Effect.{has_no_effect}
use Rattle.preprocess.specs.Working.{with_no_effect, preprocess}
use Rattle.preprocess.specs.Call.{preprocess_call}
use Rattle.preprocess.proofs.Blind.{ends_touch, closure_blind, closure_leaves}
use Rattle.preprocess.proofs.Idle.{idle_start, idle_extends, idle_passes}
use Rattle.preprocess.proofs.Demands.{preprocess_idle, values_are}
use Rattle.std.specs.Prelude.{Ok}

-- ---- what a variable reaches

itself : (i : ℕ) → has (i ∷ []) i ≡ true
unfolding has
itself i = rw (eq-eqb i i refl) refl

only_one : (i j : ℕ) → has (i ∷ []) j ≡ true → i ≡ j
unfolding has
only_one i j h = by (eqb i j) refl h
  where
    by : (b : Bool) → eqb i j ≡ b → (b || false) ≡ true → i ≡ j
    by true e l = eqb-true i j e
    by false e l = absurd (true≢false (sym l))

module _ {F : Field} (S : Shaped F) where
  -- both ends of what joins have an effect
  joined_touch : (i j : ℕ) → Joined F true i j → (has_no_effect F i ≡ false) × (has_no_effect F j ≡ false)
  joined_touch i j joined = let t = ends_touch S joined.entry joined.below in
      ⊎_elim (λ e. (ap (has_no_effect F) (sym e.0) ∙ t.0, ap (has_no_effect F) (sym e.1) ∙ t.1))
      (λ e. (ap (has_no_effect F) (sym e.1) ∙ t.1, ap (has_no_effect F) (sym e.0) ∙ t.0)) joined.ends

  -- a variable of no effect reaches itself alone
  reaches_itself : {marks : List ℕ} {i : ℕ} → has_no_effect F i ≡ true → (j : ℕ) → Reaches F true marks i j → j ≡ i
  reaches_itself e j (here q o) = q
  reaches_itself {marks} {i} e j (there {i = k} r joined o) =
      absurd (true≢false (sym e ∙ ap (has_no_effect F) (sym (reaches_itself e k r)) ∙ (joined_touch k j joined).0))

  -- any other reaches the same at values that are the same at every variable with an effect
  reaches_alike : {m m' : List ℕ} → ((t : ℕ) → has_no_effect F t ≡ false → get_or m' t 0 ≡ get_or m t 0) → {i : ℕ} → has_no_effect F i ≡ false
      → {j : ℕ} → Reaches F true m i j → Reaches F true m' i j
  reaches_alike same {i} e (here q o) = here q (same i e ∙ o)
  reaches_alike same e (there {i = k} {j = j} r joined o) = there (reaches_alike same e r) joined (same j (joined_touch k j joined).1 ∙ o)

  -- and is a component of its own
  alone : {marks : List ℕ} (i : ℕ) → has_no_effect F i ≡ true → Open marks i → Component F true marks i (i ∷ [])
  unfolding has Apart
  alone i e o = record {
    apart = (refl, tt);
    reached = λ j h. here (sym (only_one i j h)) o;
    all = λ j r. rw (reaches_itself e j r) (itself i);
  }

-- ---- by what its component is

module _ {F : Field} (S : Shaped F) {s : List ℕ} (start : StartFor (variables F) s) {i : ℕ} (free : Open (closure F s) i) {mine : List ℕ} (C : Component F true (closure F s) i mine) where
  abbrev begun : List ℕ
  begun = closure F (with_no_effect F s)

  long : length begun ≡ variables F
  long = (closure_extends F (idle_start F start)).as_long ∙ (idle_start F start).long

  same : (t : ℕ) → has_no_effect F t ≡ false → get_or begun t 0 ≡ get_or (closure F s) t 0
  same = closure_blind S s (with_no_effect F s) (idle_extends F start).as_long (idle_passes F s)

  moved : has_no_effect F i ≡ false → Component F true begun i mine
  moved e = record {
    apart = C.apart;
    reached = λ j h. reaches_alike S same e (C.reached j h);
    all = λ j r. C.all j (reaches_alike S (λ t q. sym (same t q)) e r);
  }

  pub model_small : length mine ≤ 10 → get_or (preprocess F s) i 0 < 2
  unfolding preprocess
  model_small few = by (has_no_effect F i) refl
    where
      by : (b : Bool) → has_no_effect F i ≡ b → get_or (preprocess F s) i 0 < 2
      by true e =
          let f = sym (closure_leaves S s i e) ∙ free in
          omega (arith, preprocess_idle F S start i (omega (arith, inside s i f, start.long)) e f)
      by false e = small.small_valued S begun long (same i e ∙ free) (moved e) few

  pub model_large : 10 < length mine → get_or (preprocess F s) i 0 ≡ 2
  unfolding preprocess
  model_large many = by (has_no_effect F i) refl
    where
      by : (b : Bool) → has_no_effect F i ≡ b → get_or (preprocess F s) i 0 ≡ 2
      by true e = absurd (omega (arith, component_long (alone S i e free) (itself i) C))
      by false e = small.large_kept S begun long (same i e ∙ free) (moved e) many

-- ---- the call

module _ (F : Field) (s : List ℕ) (f : List Float) (u : List ℕ) (g : Grade) (e : (preprocess_call F s f u).answer ≡ Ok g)
    {i : ℕ} (free : Open (closure F s) i) {mine : List ℕ} (C : Component F true (closure F s) i mine) where
  -- Theorem. A variable that the closure leaves free has a value where its component has at most 10 of them.
  pub small_valued : length mine ≤ 10 → get_or (preprocess_call F s f u).lent.values i 0 < 2
  small_valued few = let S = (values.ready _ F s f u g e).sound in rw (values_are F s f u g e) (model_small S.shaped S.start free C few)

  -- Theorem. A variable that the closure leaves free is still free where its component has more than 10.
  pub large_kept : 10 < length mine → get_or (preprocess_call F s f u).lent.values i 0 ≡ 2
  large_kept many = let S = (values.ready _ F s f u g e).sound in rw (values_are F s f u g e) (model_large S.shaped S.start free C many)
