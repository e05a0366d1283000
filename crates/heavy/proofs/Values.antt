-- Values laid over others, and the probe values among them. Assumes nothing.
use Prim.Native.Nat.{ℕ, ◌<◌, ◌≤◌}
use mathlib.Core.Path.{◌≡◌, sym, ◌∙◌}
use mathlib.Core.Logic.{◌⊎◌, inl, inr, ⊎_elim}
use mathlib.Core.List.{List}
use native.Mathlib.Decide.{ℕ_discrete, dec_lt}
use native.Mathlib.Omega.{arith}
use borrow.Author.Tests.{lt-ltb, le-ltb}
use lib.ListN.{length, get_or, get_or-eq_default}
use Rattle.meaning.specs.Steps.{Valid, Extends}
use Rattle.meaning.specs.Field.{Best}
use Rattle.meaning.specs.Free.{free_to}
use Rattle.field.specs.Field.{Field, variables, Shaped, StartFor}
use Rattle.field.specs.Grade.{ExactIn}
use Rattle.field.specs.Reading.{whole_of}
use Rattle.rows.proofs.Upto.{length_up_to, get_d_up_to}
use Rattle.probes.proofs.Gathered.{start_left_out}
use Rattle.probes.proofs.Exact as exactly
use Rattle.probes.proofs.Candidates.{full_free}
use Rattle.heavy.specs.Rounds.{laid_at, laid_over, probe_values}

-- ---- the probe values at s

-- only a free variable has one
pub new_values : (F : Field) (s : List ℕ) (j : ℕ) → j < variables F → get_or (probe_values F s) j 0 < 2 → get_or s j 0 ≡ 2
unfolding probe_values
new_values F s j l h = elim (ℕ_discrete (get_or s j 0) 2) [
  | yes e ↦ e
  | no n ↦ absurd (omega (arith, start_left_out F s (free_to s (variables F)) j l n))
]

-- on an exact field every best completion has it
pub best_has_values : {F : Field} {u : ℕ} → Shaped F → ExactIn u F → {s x : List ℕ} → StartFor (variables F) s → Best (whole_of u F) s x
    → (j : ℕ) → j < variables F → get_or (probe_values F s) j 0 < 2 → get_or x j 0 ≡ get_or (probe_values F s) j 0
unfolding probe_values
best_has_values {F} shaped exact {s} start b = exactly.best_has_values shaped exact start (free_to s (variables F)) (full_free s (variables F)) b

-- ---- values laid over others

module _ (t s : List ℕ) where
  pub laid_long : length (laid_over t s) ≡ length s
  unfolding laid_over
  laid_long = length_up_to _ (length s)

  pub laid_value : (j : ℕ) → j < length s → get_or t j 0 < 2 → get_or (laid_over t s) j 0 ≡ get_or t j 0
  unfolding laid_over laid_at
  laid_value j l h = get_d_up_to (λ j. laid_at (get_or t j 0) (get_or s j 0)) (length s) j 0 l ∙ rw (lt-ltb (get_or t j 0) 2 h)

  laid_none : (j : ℕ) → j < length s → 2 ≤ get_or t j 0 → get_or (laid_over t s) j 0 ≡ get_or s j 0
  unfolding laid_over laid_at
  laid_none j l h = get_d_up_to (λ j. laid_at (get_or t j 0) (get_or s j 0)) (length s) j 0 l ∙ rw (le-ltb (get_or t j 0) 2 h)

  -- each place has the value of t, or that of s
  pub laid_at_lem : (j : ℕ) → ((j < length s) × ((get_or t j 0 < 2) × (get_or (laid_over t s) j 0 ≡ get_or t j 0))) ⊎ (get_or (laid_over t s) j 0 ≡ get_or s j 0)
  laid_at_lem j = elim (dec_lt j (length s)) [
    | no out ↦ inr (get_or-eq_default (laid_over t s) 0 {n = j} (omega (arith, laid_long)) ∙ sym (get_or-eq_default s 0 {n = j} (omega arith)))
    | yes l ↦ elim (dec_lt (get_or t j 0) 2) [
      | yes h ↦ inl (l, (h, laid_value j l h))
      | no h ↦ inr (laid_none j l (omega arith))
    ]
  ]

  pub laid_small : Valid s → Valid (laid_over t s)
  laid_small small j = ⊎_elim (λ z. omega (arith, z.1.0, z.1.1)) (λ e. omega (arith, small j)) (laid_at_lem j)

  -- values of free variables alone keep the others
  pub laid_extends : ((j : ℕ) → j < length s → get_or t j 0 < 2 → get_or s j 0 ≡ 2) → Extends s (laid_over t s)
  laid_extends new = record { as_long = laid_long; kept = λ j. ⊎_elim (λ z. inl (new j z.0 z.1.0)) inr (laid_at_lem j) }

  -- what has the values of both has them together
  pub laid_among : {x : List ℕ} → Extends s x → ((j : ℕ) → j < length s → get_or t j 0 < 2 → get_or x j 0 ≡ get_or t j 0) → Extends (laid_over t s) x
  laid_among p has = record {
    as_long = p.as_long ∙ sym laid_long;
    kept = λ j. ⊎_elim (λ z. inr (has j z.0 z.1.0 ∙ sym z.1.1)) (λ e. ⊎_elim (λ f. inl (e ∙ f)) (λ f. inr (f ∙ sym e)) (p.kept j)) (laid_at_lem j);
  }
