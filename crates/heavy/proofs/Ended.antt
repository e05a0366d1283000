-- What the rounds leave: nothing more that the closure, the small components or the full probe would add, and no value that none of them gave. Assumes nothing.
use Prim.Native.Nat.{ℕ, zero, suc, ◌<◌}
use mathlib.Core.Path.{◌≡◌, sym, ap}
use mathlib.Core.Logic.{◌≢◌, ◌⊎◌, inl, inr, ⊎_elim}
use mathlib.Core.Bool.{true}
use mathlib.Core.List.{List}
use native.Mathlib.Decide.{ℕ_discrete, dec_lt}
use native.Mathlib.Omega.{arith}
use lib.ListN.{length, get_or}
use lib.Ieee.{Float}
use Rattle.meaning.specs.Steps.{Extends}
use Rattle.meaning.proofs.Values.{extends_refl, extends_trans}
use Rattle.field.specs.declared.Grade.{Grade}
use Rattle.field.specs.Field.{Field, variables}
use Rattle.field.specs.Tests.{Sound}
use Rattle.run.specs.Run.{closure}
use Rattle.run.proofs.Theorems.{closure_extends}
use Rattle.parts.specs.Part.{Open, Component}
use Rattle.preprocess.specs.Working.{preprocess}
use Rattle.preprocess.proofs.Sizes.{model_small}
use Rattle.heavy.specs.Rounds.{laid_over, probe_values, round, all_rounds, heavy}
use Rattle.heavy.specs.Comes.{Comes}
use Rattle.heavy.specs.Call.{heavy_call}
use Rattle.heavy.proofs.Values.{new_values, laid_at_lem, laid_value}
use Rattle.heavy.proofs.Added.{frees_fewer, preprocess_start, preprocess_extends, preprocess_closes, round_probes, round_sound, rounds_sound, rounds_extend, rounds_are}
use Rattle.heavy.proofs.Demands.{sound, values_are, rounds_end}
use Rattle.std.specs.Prelude.{Ok}

-- ---- where a round changes nothing

both_ways : {a b : List ℕ} → Extends a b → Extends b a → b ≡ a
both_ways {a} {b} p q = (frees_fewer a b p).1 (omega (arith, (frees_fewer a b p).0, (frees_fewer b a q).0))

module _ {F : Field} {v : List ℕ} (S : Sound F v) (still : round F v ≡ v) where
  kept : Extends (preprocess F v) v
  kept = rw still at (round_probes S)

  preprocess_still : preprocess F v ≡ v
  preprocess_still = both_ways (preprocess_extends S) kept

  closure_still : closure F v ≡ v
  closure_still = both_ways (closure_extends F S.start) (extends_trans (preprocess_closes S) kept)

  large_left : {i : ℕ} → Open v i → {mine : List ℕ} → Component F true v i mine → 10 < length mine
  large_left {i} free {mine} C = elim (dec_lt 10 (length mine)) [
    | yes h ↦ h
    | no h ↦
        let o : Open (closure F v) i = rw closure_still free in
        let K : Component F true (closure F v) i mine = rw closure_still C in
        let small : get_or (preprocess F v) i 0 < 2 = model_small S.shaped S.start o K (omega arith) in
        absurd (omega (arith, free, small, ap (λ (z : List ℕ). get_or z i 0) preprocess_still))
  ]

  none_probed : (j : ℕ) → j < variables F → get_or (probe_values F v) j 0 < 2 → ⊥
  unfolding round
  none_probed j l h =
      let e : laid_over (probe_values F v) v ≡ v = rw preprocess_still at still in
      omega (arith, h, new_values F v j l h, laid_value (probe_values F v) v j (omega (arith, S.start.long)) h, ap (λ (z : List ℕ). get_or z j 0) e)

-- ---- where a value comes from

all_extend : {F : Field} {s : List ℕ} (k : ℕ) → Sound F s → Extends s (all_rounds F k s)
all_extend {F} {s} k S = rw (rounds_are k S) at (rounds_extend k S (extends_refl s))

module _ {F : Field} where
  -- a round's value
  in_round : {s : List ℕ} → Sound F s → (i : ℕ) → get_or (round F s) i 0 ≢ 2
      → (get_or (preprocess F s) i 0 ≡ get_or (round F s) i 0) ⊎ ((get_or (preprocess F s) i 0 ≡ 2) × (get_or (probe_values F (preprocess F s)) i 0 ≡ get_or (round F s) i 0))
  unfolding round
  in_round {s} S i n = ⊎_elim
      (λ z. inr (new_values F (preprocess F s) i (omega (arith, z.0, (preprocess_start S).long)) z.1.0, sym z.1.1))
      (λ e. inl (sym e)) (laid_at_lem (probe_values F (preprocess F s)) (preprocess F s) i)

  comes_in : (k : ℕ) {s : List ℕ} → Sound F s → (i : ℕ) → get_or s i 0 ≡ 2 → get_or (all_rounds F k s) i 0 ≢ 2 → Comes F s k i (get_or (all_rounds F k s) i 0)
  unfolding all_rounds
  comes_in zero S i free n = absurd (n free)
  comes_in (suc k) {s} S i free n = elim (ℕ_discrete (get_or (round F s) i 0) 2) [
    | yes two ↦ (let C = comes_in k (round_sound S) i two n in record { before = suc C.before; early = omega (arith, C.early); free = C.free; from = C.from })
    | no first ↦ record { before = 0; early = omega arith; free = free; from = rw (⊎_elim (λ two. absurd (first two)) (λ z. z) ((all_extend k (round_sound S)).kept i)) (in_round S i first) }
  ]

-- ---- the call

module _ (F : Field) (s : List ℕ) (f : List Float) (u : List ℕ) (g : Grade) (e : (heavy_call F s f u).answer ≡ Ok g) where
  ended : Sound F (heavy_call F s f u).lent.values
  unfolding heavy
  ended = rw (values_are F s f u g e) (rounds_sound (variables F) (sound F s f u g e))

  still : round F (heavy_call F s f u).lent.values ≡ (heavy_call F s f u).lent.values
  still = (rounds_end F s f u g e).1

  -- Theorem. At the values that it leaves the closure adds none.
  pub closure_adds_none : closure F (heavy_call F s f u).lent.values ≡ (heavy_call F s f u).lent.values
  closure_adds_none = closure_still ended still

  -- Theorem. A variable that is still free at the end is of a component of more than 10.
  pub left_large : {i : ℕ} → Open (heavy_call F s f u).lent.values i → {mine : List ℕ} → Component F true (heavy_call F s f u).lent.values i mine → 10 < length mine
  left_large = large_left ended still

  -- Theorem. At the values that it leaves the full probe finds no value.
  pub probe_adds_none : (j : ℕ) → j < variables F → get_or (probe_values F (heavy_call F s f u).lent.values) j 0 < 2 → ⊥
  probe_adds_none = none_probed ended still

  -- Theorem. Every value that it adds comes in some round, from preprocess or from the full probe.
  pub value_comes : (i : ℕ) → get_or s i 0 ≡ 2 → get_or (heavy_call F s f u).lent.values i 0 ≢ 2 → Comes F s (variables F) i (get_or (heavy_call F s f u).lent.values i 0)
  value_comes i free = rw (rounds_end F s f u g e).0 (comes_in (variables F) (sound F s f u g e) i free)
