-- From round to round, and what is left of them. Assumes nothing.
use Prim.Native.Nat.{ℕ, suc, ◌+◌, ◌-◌, ◌<◌, ◌≤◌}
use mathlib.Core.Path.{◌≡◌, refl, sym, ap, ◌∙◌}
use mathlib.Core.Logic.{◌≢◌}
use mathlib.Core.List.{List}
use native.Mathlib.Decide.{ℕ_discrete}
use native.Mathlib.Omega.{arith}
use borrow.Author.Tests.{eq-eqb, ne_eqb}
use lib.ListN.{length}
use Rattle.meaning.specs.Free.{frees}
use Rattle.scratch.specs.Region.{region}
use Rattle.field.specs.Field.{Field, variables, StartFor}
use Rattle.field.specs.Tests.{Ready}
use Rattle.places.specs.Places.{Adjacent}
use Rattle.twin.specs.Twin.{values_at}
use Rattle.preprocess.specs.Working.{preprocess}
use Rattle.heavy.specs.Rounds.{laid_over, round, rounds, heavy}
use Rattle.heavy.specs.Standing.{AllProbed, Rounded}
use Rattle.heavy.proofs.Added.{sound_still, preprocess_start, round_solved, round_start, adds_none, rounds_solved}

-- ---- one round

ready_for : {F : Field} {s t : List ℕ} {floats words floats' words' : ℕ} → Ready F s floats words → StartFor (variables F) t
    → floats' ≡ floats → words' ≡ words → Ready F t floats' words'
ready_for R start ef eu =
    record { sound = sound_still R.sound start; floats_room = omega (arith, R.floats_room); words_room = omega (arith, R.words_room) }

module _ {F : Field} {s t : List ℕ} {floats words : ℕ} (R : Ready F s floats words) (e : t ≡ preprocess F s) where
  -- the full probe can start where preprocess leaves off
  pub ready_probe : {floats' words' : ℕ} → floats' ≡ floats → words' ≡ words → Ready F t floats' words'
  ready_probe = ready_for R (rw e (preprocess_start R.sound))

  -- there is nothing to probe where none is free
  pub round_ends : {free : ℕ} → free ≡ frees t → free ≡ 0 → t ≡ round F s
  round_ends ec z = e ∙ sym (round_solved R.sound (ap frees (sym e) ∙ sym ec ∙ z))

  long : length t ≡ variables F
  long = ap length e ∙ (preprocess_start R.sound).long

  -- the words have room for its values
  pub lay_room : {words' : ℕ} → words' ≡ words → values_at F + length t ≤ words'
  lay_room eu = omega (arith, R.words_room, R.sound.shaped.rows_long, long)

  -- which go over those of preprocess
  pub round_is : (u : List ℕ) {t' : List ℕ} → AllProbed F t u → t' ≡ laid_over (region (values_at F) (length t) u) t → Rounded F s t' u
  unfolding round
  round_is u P el = record { values = el ∙ rw (long, P.values, e); adjacent = P.adjacent }

-- ---- the loop

-- after k rounds: what is left of n rounds from here leaves what n rounds leave from the start, and the places stand
pub record Going (F : Field) (s₀ : List ℕ) (floats₀ words₀ k : ℕ) (s : List ℕ) (free floats : ℕ) (u : List ℕ) (probed : ℕ) : Type 0 where
  pub ready : Ready F s floats (length u)
  pub adjacent : Adjacent (variables F) F.rows F.cols u
  pub floats_long : floats ≡ floats₀
  pub words_long : length u ≡ words₀
  pub working : probed ≡ variables F
  pub within : k ≤ variables F
  pub count : free ≡ frees s
  pub rest : rounds F (variables F - k) s ≡ heavy F s₀

pub going_start : {F : Field} {s u : List ℕ} {free floats probed : ℕ} → Ready F s floats (length u) → Adjacent (variables F) F.rows F.cols u → probed ≡ variables F → free ≡ frees s
    → Going F s floats (length u) 0 s free floats u probed
unfolding heavy
going_start {F} {s} R A w e = let z : variables F - 0 ≡ variables F = omega arith in
    record { ready = R; adjacent = A; floats_long = refl; words_long = refl; working = w; within = omega arith; count = e; rest = ap (λ (n : ℕ). rounds F n s) z }

module _ {F : Field} {s₀ s u : List ℕ} {floats₀ words₀ k free floats probed : ℕ} (now : Going F s₀ floats₀ words₀ k s free floats u probed) where
  pub going_done : variables F ≤ k → s ≡ heavy F s₀
  unfolding rounds
  going_done h = let z : variables F - k ≡ 0 = omega arith in rw z at now.rest

  module _ (h : k < variables F) {t u' : List ℕ} (r : Rounded F s t u') {still : ℕ} (c : still ≡ frees t) where
    one_more : variables F - k ≡ suc (variables F - (k + 1))
    one_more = omega arith

    -- a round that adds none is the last
    pub going_stop : still ≡ free → t ≡ heavy F s₀
    unfolding rounds
    going_stop same =
        let z : frees (round F s) ≡ frees s = ap frees (sym r.values) ∙ sym c ∙ same ∙ now.count in
        r.values ∙ adds_none now.ready.sound z ∙ rw (one_more, eq-eqb (frees (round F s)) (frees s) z) at now.rest

    -- any other leaves one less
    pub going_turn : still ≢ free → {floats' probed' : ℕ} → floats' ≡ floats → length u' ≡ length u → probed' ≡ probed
        → Going F s₀ floats₀ words₀ (k + 1) t still floats' u' probed'
    unfolding rounds
    going_turn other ef eu ep = record {
      ready = ready_for now.ready (rw r.values (round_start now.ready.sound)) ef eu;
      adjacent = r.adjacent;
      floats_long = ef ∙ now.floats_long;
      words_long = eu ∙ now.words_long;
      working = ep ∙ now.working;
      within = omega arith;
      count = c;
      rest = rw r.values (rw (one_more, ne_eqb (frees (round F s)) (frees s) (λ z. other (c ∙ ap frees r.values ∙ z ∙ sym now.count))) at now.rest);
    }

    -- and so is one that leaves none free
    pub going_solved : length u' ≡ length u → still ≡ 0 → t ≡ heavy F s₀
    going_solved eu z = elim (ℕ_discrete still free) [
      | yes same ↦ going_stop same
      | no other ↦
          let next = going_turn other refl eu refl in
          sym (rounds_solved (variables F - (k + 1)) next.ready.sound (sym c ∙ z)) ∙ next.rest
    ]
