-- A round keeps the values and adds to them, some best completion has what it adds, and a round that adds none changes nothing. Assumes nothing.
use Prim.Native.Nat.{ℕ, zero, suc, ◌+◌, ◌*◌, ◌<◌, ◌≤◌}
use mathlib.Core.Path.{◌≡◌, refl, sym, ap, ◌∙◌}
use mathlib.Core.Logic.{◌⊎◌, inl, inr}
use mathlib.Core.Bool.{Bool, true, false, cond}
use mathlib.Core.List.{List, [], ◌∷◌}
use native.Mathlib.Omega.{arith}
use borrow.Author.Tests.{eqb-true, eqb-false, eq-eqb}
use lib.Dec.{eqb}
use lib.ListN.{length, get_or, replicate, length-replicate}
use lib.Ieee.{Float, eq}
use Rattle.meaning.specs.Steps.{Extends}
use Rattle.meaning.specs.Free.{frees}
use Rattle.meaning.specs.Part.{Safe}
use Rattle.meaning.proofs.Values.{extends_refl, extends_trans}
use Rattle.meaning.proofs.Safe.{every_safe, safe_trans}
use Rattle.weights.specs.Worth.{zero64}
use Rattle.field.specs.declared.Grade.TheVariants.{Exact}
use Rattle.field.specs.Field.{Field, variables, entries, linear_of, StartFor}
use Rattle.field.specs.Tests.{Sound}
use Rattle.field.specs.Grade.{grade_of, Serves}
use Rattle.field.specs.Reading.{whole_of}
use Rattle.run.specs.Run.{closure}
use Rattle.run.proofs.Theorems.{closure_valid}
use Rattle.components.proofs.Bridge.{parts_extend}
use Rattle.no_effect.specs.Effect.{NoEntry}
use Rattle.preprocess.specs.Working.{preprocess}
use Rattle.preprocess.specs.Call.{preprocess_call}
use Rattle.preprocess.proofs.Idle.{idle_start}
use Rattle.preprocess.proofs.Demands as preprocessing
use Rattle.heavy.specs.Rounds.{probe_values, round, rounds, all_rounds}
use Rattle.heavy.proofs.Values.{new_values, best_has_values, laid_long, laid_small, laid_extends, laid_among}
use Rattle.std.specs.Prelude.{Ok}

-- ---- how many are free

-- a free value, or the same: no more are free, and where as many are, the values are the same
heads_fewer : (x y m n : ℕ) → (x ≡ 2) ⊎ (y ≡ x) → n ≤ m
    → (cond (eqb y 2) (suc n) n ≤ cond (eqb x 2) (suc m) m) × (cond (eqb y 2) (suc n) n ≡ cond (eqb x 2) (suc m) m → (y ≡ x) × (n ≡ m))
heads_fewer x y m n (inr e) h = rw e (by (eqb x 2))
  where
    by : (b : Bool) → (cond b (suc n) n ≤ cond b (suc m) m) × (cond b (suc n) n ≡ cond b (suc m) m → (x ≡ x) × (n ≡ m))
    by true = (omega arith, λ q. (refl, omega arith))
    by false = (omega arith, λ q. (refl, q))
heads_fewer x y m n (inl e) h = rw (eq-eqb x 2 e) (by (eqb y 2) refl)
  where
    by : (b : Bool) → eqb y 2 ≡ b → (cond b (suc n) n ≤ suc m) × (cond b (suc n) n ≡ suc m → (y ≡ x) × (n ≡ m))
    by true p = (omega arith, λ q. (eqb-true y 2 p ∙ sym e, omega arith))
    by false p = (omega arith, λ q. absurd (omega arith))

pub frees_fewer : (s t : List ℕ) → Extends s t → (frees t ≤ frees s) × (frees t ≡ frees s → t ≡ s)
unfolding frees
frees_fewer [] [] p = (omega arith, λ e. refl)
frees_fewer [] (y ∷ t) p = absurd (omega (arith, p.as_long))
frees_fewer (x ∷ s) [] p = absurd (omega (arith, p.as_long))
frees_fewer (x ∷ s) (y ∷ t) p =
    let r = frees_fewer s t (record { as_long = omega (arith, p.as_long); kept = λ i. p.kept (suc i) }) in
    let z = heads_fewer x y (frees s) (frees t) (p.kept 0) r.0 in
    (z.0, λ e. rw ((z.1 e).0, r.1 (z.1 e).1))

-- ---- a round

-- further start values for a sound field
pub sound_still : {F : Field} {s t : List ℕ} → Sound F s → StartFor (variables F) t → Sound F t
sound_still S start = record { shaped = S.shaped; standard = S.standard; finite_weights = S.finite_weights; start = start }

module _ {F : Field} {s : List ℕ} (S : Sound F s) where
  -- scratch of the least length, in which preprocess can be called
  floats : List Float
  floats = replicate (8 * variables F + 4 * entries F + 16) zero64

  words : List ℕ
  words = replicate (16 * variables F + 8 * entries F + 16) 0

  called : (preprocess_call F s floats words).answer ≡ Ok (grade_of F)
  unfolding floats words
  called = (preprocessing.done_when F s floats words).1 (record {
    sound = S;
    floats_room = omega (arith, length-replicate (8 * variables F + 4 * entries F + 16) zero64);
    words_room = omega (arith, length-replicate {A = ℕ} (16 * variables F + 8 * entries F + 16) 0);
  })

  worked : (preprocess_call F s floats words).lent.values ≡ preprocess F s
  worked = preprocessing.values_are F s floats words (grade_of F) called

  pub preprocess_extends : Extends s (preprocess F s)
  preprocess_extends = rw worked at (preprocessing.values_extend F s floats words (grade_of F) called)

  -- with every value of the closure, and 0 for a free variable of no effect
  pub preprocess_closes : Extends (closure F s) (preprocess F s)
  preprocess_closes = rw worked at (preprocessing.closure_among F s floats words (grade_of F) called)

  pub preprocess_idle : (i : ℕ) → i < variables F → NoEntry F i → eq (linear_of F i) zero64 ≡ true → get_or s i 0 ≡ 2 → get_or (preprocess F s) i 0 ≡ 0
  preprocess_idle = rw worked at (preprocessing.idle_ends F s floats words (grade_of F) called)

  pub preprocess_start : StartFor (variables F) (preprocess F s)
  unfolding preprocess
  preprocess_start = (parts_extend S.shaped (closure_valid F (idle_start F S.start))).1

  new_there : (j : ℕ) → j < length (preprocess F s) → get_or (probe_values F (preprocess F s)) j 0 < 2 → get_or (preprocess F s) j 0 ≡ 2
  new_there j l = new_values F (preprocess F s) j (omega (arith, preprocess_start.long))

  -- it keeps what preprocess gives,
  pub round_probes : Extends (preprocess F s) (round F s)
  unfolding round
  round_probes = laid_extends (probe_values F (preprocess F s)) (preprocess F s) new_there

  -- and so the values that it is given,
  pub round_extends : Extends s (round F s)
  round_extends = extends_trans preprocess_extends round_probes

  -- and leaves start values.
  pub round_start : StartFor (variables F) (round F s)
  unfolding round
  round_start = record {
    long = laid_long (probe_values F (preprocess F s)) (preprocess F s) ∙ preprocess_start.long;
    small = laid_small (probe_values F (preprocess F s)) (preprocess F s) preprocess_start.small;
  }

  pub round_sound : Sound F (round F s)
  round_sound = sound_still S round_start

  -- On an exact field some best completion has all that it leaves.
  pub round_stands : grade_of F ≡ Exact → {unit : ℕ} → Serves unit F → Safe (whole_of unit F) s (round F s)
  unfolding round
  round_stands g {unit} v =
      let t = preprocess F s in
      safe_trans (rw worked at (preprocessing.some_best_agrees F s floats words (called ∙ ap Ok g) v))
      (every_safe (whole_of unit F) preprocess_start.small (laid_extends (probe_values F t) t new_there)
      (λ x b. laid_among (probe_values F t) t b.completion.extends
      (λ j l. best_has_values S.shaped v.exact preprocess_start b j (omega (arith, preprocess_start.long)))))

  -- Where preprocess leaves none free, that is the round.
  pub round_solved : frees (preprocess F s) ≡ 0 → round F s ≡ preprocess F s
  round_solved e = let r = frees_fewer (preprocess F s) (round F s) round_probes in r.1 (omega (arith, r.0))

  -- A round that adds none changes nothing.
  pub adds_none : frees (round F s) ≡ frees s → round F s ≡ s
  adds_none = (frees_fewer s (round F s) round_extends).1

-- ---- rounds, one after another

-- where a round changes nothing, none does
rounds_still : (F : Field) (k : ℕ) (s : List ℕ) → round F s ≡ s → all_rounds F k s ≡ s
unfolding all_rounds
rounds_still F zero s e = refl
rounds_still F (suc k) s e = rw e (rounds_still F k s e)

-- what holds at first, and still does after a round, holds at the end
rounds_ind : (F : Field) (P : List ℕ → Type 0) → ((t : List ℕ) → Sound F t → P t → P (round F t))
    → (k : ℕ) (s : List ℕ) → Sound F s → P s → P (rounds F k s)
unfolding rounds
rounds_ind F P turn zero s S h = h
rounds_ind F P turn (suc k) s S h = by (eqb (frees (round F s)) (frees s)) (rounds_ind F P turn k (round F s) (round_sound S) (turn s S h))
  where
    by : (b : Bool) → P (rounds F k (round F s)) → P (cond b s (rounds F k (round F s)))
    by true next = h
    by false next = next

module _ {F : Field} where
  pub rounds_extend : {s t : List ℕ} (k : ℕ) → Sound F t → Extends s t → Extends s (rounds F k t)
  rounds_extend {s} {t} k S p = rounds_ind F (λ t. Extends s t) (λ t T h. extends_trans h (round_extends T)) k t S p

  pub rounds_sound : {s : List ℕ} (k : ℕ) → Sound F s → Sound F (rounds F k s)
  rounds_sound {s} k S = rounds_ind F (Sound F) (λ t T h. round_sound h) k s S S

  pub rounds_stand : {s : List ℕ} (k : ℕ) → Sound F s → grade_of F ≡ Exact → {unit : ℕ} → Serves unit F → Safe (whole_of unit F) s (rounds F k s)
  rounds_stand {s} k S g {unit} v =
      rounds_ind F (Safe (whole_of unit F) s) (λ t T h. safe_trans h (round_stands T g v)) k s S
      (every_safe (whole_of unit F) S.start.small (extends_refl s) (λ x b. b.completion.extends))

  -- where none is free, rounds change nothing
  pub rounds_solved : {s : List ℕ} (k : ℕ) → Sound F s → frees s ≡ 0 → rounds F k s ≡ s
  unfolding rounds
  rounds_solved {s} zero S e = refl
  rounds_solved {s} (suc k) S e = rw (eq-eqb (frees (round F s)) (frees s) (omega (arith, (frees_fewer s (round F s) (round_extends S)).0)))

  -- the stop leaves what all k rounds leave
  pub rounds_are : {s : List ℕ} (k : ℕ) → Sound F s → rounds F k s ≡ all_rounds F k s
  unfolding rounds all_rounds
  rounds_are {s} zero S = refl
  rounds_are {s} (suc k) S = by (eqb (frees (round F s)) (frees s)) refl (rounds_are {s = round F s} k (round_sound S))
    where
      by : (b : Bool) → eqb (frees (round F s)) (frees s) ≡ b → rounds F k (round F s) ≡ all_rounds F k (round F s)
          → cond b s (rounds F k (round F s)) ≡ all_rounds F k (round F s)
      by true e next = let z = adds_none S (eqb-true _ _ e) in sym (ap (all_rounds F k) z ∙ rounds_still F k s z)
      by false e next = next

  -- as many rounds as there are free variables leave nothing to add
  pub rounds_close : {s : List ℕ} (k : ℕ) → Sound F s → frees s ≤ k → round F (rounds F k s) ≡ rounds F k s
  unfolding rounds
  rounds_close {s} zero S few = adds_none S (omega (arith, (frees_fewer s (round F s) (round_extends S)).0))
  rounds_close {s} (suc k) S few = by (eqb (frees (round F s)) (frees s)) refl (rounds_close {s = round F s} k (round_sound S))
    where
      by : (b : Bool) → eqb (frees (round F s)) (frees s) ≡ b → (frees (round F s) ≤ k → round F (rounds F k (round F s)) ≡ rounds F k (round F s))
          → round F (cond b s (rounds F k (round F s))) ≡ cond b s (rounds F k (round F s))
      by true e next = adds_none S (eqb-true _ _ e)
      by false e next = next (omega (arith, eqb-false (frees (round F s)) (frees s) e, (frees_fewer s (round F s) (round_extends S)).0))

  -- the first round's preprocess is kept
  pub rounds_preprocess : {s : List ℕ} (k : ℕ) → Sound F s → Extends (preprocess F s) (rounds F (suc k) s)
  unfolding rounds
  rounds_preprocess {s} k S = by (eqb (frees (round F s)) (frees s)) refl (rounds_extend k (round_sound S) (round_probes S))
    where
      by : (b : Bool) → eqb (frees (round F s)) (frees s) ≡ b → Extends (preprocess F s) (rounds F k (round F s))
          → Extends (preprocess F s) (cond b s (rounds F k (round F s)))
      by true e next = rw (adds_none S (eqb-true _ _ e)) at (round_probes S)
      by false e next = next
