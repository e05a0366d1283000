-- A record that was made stays the record of its values, through any operations, refused ones included. Assumes nothing.
use Prim.Native.Nat.{ℕ, ◌<◌, ◌≤◌}
use mathlib.Core.Path.{◌≡◌, refl, sym, ap, ◌∙◌}
use mathlib.Core.List.{List, [], ◌∷◌}
use native.Mathlib.Omega.{arith}
use lib.ListN.{length}
use lib.Ieee.{Float}
use Rattle.meaning.specs.Steps.{Closure}
use Rattle.meaning.specs.Gradient.{Forces}
use Rattle.field.specs.declared.Grade.{Grade}
use Rattle.field.specs.Field.{Field, variables, Shaped, StartFor}
use Rattle.field.specs.Grade.{ExactIn, Serves}
use Rattle.field.specs.Reading.{whole_of}
use Rattle.run.specs.Run.{closure}
use Rattle.kept.specs.Kept.{Kept, made, changed}
use Rattle.kept.specs.Calls.{make_call, record_left, pin_call, release_call, close_call}
use Rattle.kept.specs.Operations.{Operation, pin, release, operated, operated_all, record_after}
use Rattle.kept.proofs.Tests.{pin_passes, release_passes}
use Rattle.kept.proofs.Elsewhere.{start_set}
use Rattle.kept.proofs.Equation.{changed_made}
use Rattle.kept.proofs.Operated.{left_has}
use Rattle.kept.proofs.MakeDemands as make
use Rattle.kept.proofs.CloseDemands as close
use Rattle.std.specs.Prelude.{Ok}
use Rattle.field.specs.Answers.{counted_answer}

-- the record is that of its values, which are start values
record Fresh (F : Field) (K : Kept) : Type 0 where
  start : StartFor (variables F) K.values
  is : K ≡ made F K.values

fresh_made : (F : Field) {s : List ℕ} → StartFor (variables F) s → Fresh F (made F s)
unfolding made
fresh_made F start = record { start = start; is = refl }

module _ {u : ℕ} {F : Field} (shaped : Shaped F) (exact : ExactIn u F) where
  fresh_changed : {K : Kept} → Fresh F K → (i v : ℕ) → i < variables F → v ≤ 2 → Fresh F (changed F i v K)
  fresh_changed {K} h i v l small =
      rw (ap (changed F i v) h.is ∙ changed_made shaped exact h.start i v l small) (fresh_made F (start_set h.start i v l small))

  fresh_operated : {K : Kept} → Fresh F K → (o : Operation) → Fresh F (operated F K o)
  unfolding pin_call release_call
  fresh_operated {K} h (pin i v) =
      left_has K _ _ (Fresh F) h (λ p. let a = (pin_passes F K.values (length K.bounds) i v).0 p in fresh_changed h i v a.below (omega (arith, a.small)))
  fresh_operated {K} h (release i) =
      left_has K _ _ (Fresh F) h (λ p. let a = (release_passes F K.values (length K.bounds) i).0 p in fresh_changed h i 2 a.below (omega arith))

  fresh_all : {K : Kept} → Fresh F K → (os : List Operation) → Fresh F (operated_all F K os)
  unfolding operated_all
  fresh_all {K = K} h [] = h
  fresh_all {K = K} h (o ∷ os) = fresh_all {K = operated F K o} (fresh_operated h o) os

module _ (F : Field) (s : List ℕ) (b : List Float) (n : ℕ) (f : List Float) (u : List ℕ) {g : Grade} (e : (make_call F s b n f u).answer ≡ Ok g) (os : List Operation) where
  abbrev now : Kept
  now = record_after F s b n f u os

  stays : Fresh F now
  stays = let r = (make.lendable F s b n f u e).ready.sound in
      fresh_all r.shaped (make.unit_serves F s b n f u e).exact (rw (make.record_is F s b n f u e) (fresh_made F r.start)) os

  -- Theorem. AFTER ANY SEQUENCE the bounds and the number are those worked out afresh.
  pub kept_always : record_after F s b n f u os ≡ made F (record_after F s b n f u os).values
  kept_always = stays.is

  -- Theorem. After any sequence the record is what the making call would leave at the values that stand then.
  pub as_made_anew : (b' : List Float) (n' : ℕ) (f' : List Float) (u' : List ℕ) {g' : Grade} → (make_call F (record_after F s b n f u os).values b' n' f' u').answer ≡ Ok g'
      → record_left F (record_after F s b n f u os).values b' n' f' u' ≡ record_after F s b n f u os
  as_made_anew b' n' f' u' e' = make.record_is F now.values b' n' f' u' e' ∙ sym kept_always

  -- and the closing call gives the closure at those values.
  module _ (l : List ℕ) (f' : List Float) (u' : List ℕ) {g' : Grade} {k : ℕ} (d : (close_call F (record_after F s b n f u os).values (record_after F s b n f u os).bounds l f' u').answer ≡ counted_answer g' k) where
    -- Theorem. After any operations the closing call leaves the closure of the values that stand then, float by float.
    pub always_closes : (close_call F (record_after F s b n f u os).values (record_after F s b n f u os).bounds l f' u').lent.values ≡ closure F (record_after F s b n f u os).values
    always_closes = close.list_closure F now.values now.bounds l f' u' d (make.unit_serves F s b n f u e) (ap (λ (K : Kept). K.bounds) kept_always)

    -- Theorem. After any operations, on an exact field, what the closing call leaves is the closure over whole numbers.
    pub always_closure : {unit : ℕ} → Serves unit F
        → Closure (Forces (whole_of unit F)) (record_after F s b n f u os).values (close_call F (record_after F s b n f u os).values (record_after F s b n f u os).bounds l f' u').lent.values
    always_closure serving = close.values_close F now.values now.bounds l f' u' d serving (ap (λ (K : Kept). K.bounds) kept_always)
