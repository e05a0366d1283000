-- What propagation gives from one literal alone is what the literal reaches. Assumes nothing.
use Prim.Native.Nat.{ℕ, ◌+◌, ◌*◌, ◌-◌, ◌<◌, ◌≤◌}
use mathlib.Core.Path.{◌≡◌}
use mathlib.Core.Logic.{⊎_elim, ◌↔◌}
use mathlib.Core.List.{List}
use native.Mathlib.Decide.{dec_lt, ℕ_discrete}
use native.Mathlib.Omega.{arith}
use lib.ListN.{length, get_or, get_or-eq_default}
use Rattle.field.specs.declared.Refusal.{Refusal}
use Rattle.field.specs.declared.Refusal.TheVariants.{Clash}
use Rattle.meaning.specs.Free.{frees}
use Rattle.meaning.specs.Literal.{Settled}
use Rattle.meaning.proofs.Literal.{Fits}
use Rattle.meaning.proofs.Implications.{rules_fit}
use Rattle.constraints.specs.Record.{room, records}
use Rattle.literals.specs.Ends.{rules}
use Rattle.literals.specs.Listed as listed
use Rattle.propagation.specs.Call.{propagate_call}
use Rattle.propagation.proofs.Demands as propagation
use Rattle.reaching.specs.Reach.{Reach, Alone}
use Rattle.reaching.proofs.Reach.{rules_turn}
use Rattle.reaching.proofs.Alone.{holds_reach, reach_holds, clash_exactly, settled_count}
use Rattle.std.specs.Prelude.{Err}
use Rattle.allow.specs.Call.{allow_call, count_at}
use Rattle.allow.proofs.Demands.{done_when, ends, count_is}
use Rattle.field.specs.Answers.{passed}

module _ (n : ℕ) (list a c w u : List ℕ) (done : (r : Refusal) → (allow_call n list a c w u).answer ≡ Err r → ⊥)
    {i v : ℕ} {s : List ℕ} (alone : Alone n i v s) (u' : List ℕ) (words_room : 16 * n + 8 * room list + 16 ≤ length u') where
  small : (j : ℕ) → get_or s j 0 ≤ 2
  small j = elim (dec_lt j n) [ yes h ↦ among h | no h ↦ omega (arith, get_or-eq_default s 0 {n = j} (omega (arith, alone.as_long))) ]
    where
      among : j < n → get_or s j 0 ≤ 2
      among h = elim (ℕ_discrete j i) [ yes e ↦ rw e (omega (arith, alone.value, alone.small)) | no d ↦ omega (arith, alone.free j h d) ]

  ready : listed.Ready s list (length u')
  ready =
      let r = ((done_when n list a c w u).0 done).0 in
      let long = alone.as_long in
      record { few = omega (arith, r.few); small = small; listed = rw long r.listed; words_room = omega arith }

  fits : Fits n (rules list)
  fits = rules_fit (records list) (ends n list a c w u done)

  -- Theorem. Propagation from the literal alone answers 10 exactly if the literal reaches its other value.
  pub alone_clash : ((propagate_call s list u').answer ≡ Err Clash) ↔ Reach (rules list) i v i (1 - v)
  alone_clash =
      let t = propagation.clash_when s list u' in
      let z = clash_exactly fits alone (rules_turn (records list)) in
      ((λ e. z.0 (t.0 e).1), λ r. t.1 (ready, z.1 r))

  module _ (free : Reach (rules list) i v i (1 - v) → ⊥) where
    -- Theorem. Otherwise propagation from the literal alone is done.
    pub alone_done : (propagate_call s list u').answer ≡ passed
    alone_done = (propagation.done_when s list u').1 (ready, λ b. free ((clash_exactly fits alone (rules_turn (records list))).0 b))

    settled : Settled (rules list) s (propagate_call s list u').lent.values
    settled = propagation.values_settle s list u' alone_done

    -- Theorem. Its values are then exactly those of the literals that the literal reaches.
    pub alone_values : (j x : ℕ) → j < n → x < 2 → (get_or (propagate_call s list u').lent.values j 0 ≡ x) ↔ Reach (rules list) i v j x
    alone_values j x hj hx = (
      λ e. ⊎_elim (λ z. absurd (omega arith)) (λ h. holds_reach fits alone (rw e at h)) (settled.only j (omega (arith, settled.as_long, alone.as_long))),
      λ r. settled.has j x (reach_holds fits alone r),
    )

    -- Theorem. They are as many as the call counts for the literal.
    pub alone_count : count_at n list a c w u i v + frees (propagate_call s list u').lent.values ≡ n
    alone_count = rw (count_is n list a c w u done i v alone.below alone.small) (settled_count fits alone settled)
