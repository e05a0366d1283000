-- Variables of no effect count as 0 while the rounds go on: whatever value they start with, the others end the same. Assumes nothing.
use Prim.Native.Nat.{ℕ, zero, suc}
use mathlib.Core.Path.{◌≡◌, refl, sym, ◌∙◌}
use mathlib.Core.Bool.{false}
use mathlib.Core.List.{List}
use native.Mathlib.Decide.{ℕ_discrete, dec_lt}
use native.Mathlib.Omega.{arith}
use lib.ListN.{length, get_or, set, length-set, get_or-eq_default}
use lib.Seq.{get_or-set_same, get_or-set_other, set_out}
use lib.Ieee.{Float}
use Rattle.meaning.specs.Free.{is_free, free_to}
use Rattle.field.specs.declared.Grade.{Grade}
use Rattle.field.specs.Field.{Field, variables, Shaped}
use Rattle.field.specs.Tests.{Sound}
use Rattle.rows.specs.Stored.{up_to}
use Rattle.rows.proofs.Upto.{length_up_to, get_d_up_to}
use Rattle.run.specs.Run.{closure}
use Rattle.no_effect.specs.Effect.{has_no_effect}
use Rattle.finding.specs.Finds.{finding_of, finding, finding_by, values_after, values_of, values_found_by}
use Rattle.preprocess.specs.Elsewhere.{SameElsewhere}
use Rattle.preprocess.proofs.Blind.{closure_blind}
use Rattle.preprocess.proofs.Unseen.{preprocess_blind, frees_alike}
use Rattle.probes.specs.Call.{all_values_by}
use Rattle.heavy.specs.Rounds.{laid_over, probe_values, round, all_rounds, heavy}
use Rattle.heavy.specs.Call.{heavy_call}
use Rattle.heavy.proofs.Added.{round_sound, rounds_are}
use Rattle.heavy.proofs.Demands.{sound, values_are}
use Rattle.std.specs.Prelude.{Ok}

-- ---- lists that are alike

up_to_at : (g g' : ℕ → ℕ) (n n' : ℕ) → n' ≡ n → (j : ℕ) → g' j ≡ g j → get_or (up_to g' n') j 0 ≡ get_or (up_to g n) j 0
up_to_at g g' n n' e j same = elim (dec_lt j n) [
  | yes l ↦ get_d_up_to g' n' j 0 (omega arith) ∙ same ∙ sym (get_d_up_to g n j 0 l)
  | no l ↦ get_or-eq_default (up_to g' n') 0 {n = j} (omega (arith, length_up_to g' n')) ∙ sym (get_or-eq_default (up_to g n) 0 {n = j} (omega (arith, length_up_to g n)))
]

set_elsewhere : {F : Field} {s s' : List ℕ} → SameElsewhere F s s' → (t v : ℕ) → SameElsewhere F (set s t v) (set s' t v)
set_elsewhere {F} {s} {s'} E t v = record {
  long = length-set s' t v ∙ E.long ∙ sym (length-set s t v);
  at = λ j e. elim (ℕ_discrete j t) [
    | no n ↦ get_or-set_other s' t j v 0 n ∙ E.at j e ∙ sym (get_or-set_other s t j v 0 n)
    | yes i ↦ elim (dec_lt t (length s)) [
      | yes h ↦ rw i (get_or-set_same s' t v 0 (omega (arith, E.long)) ∙ sym (get_or-set_same s t v 0 h))
      | no h ↦ rw (set_out s' t v (omega (arith, E.long)), set_out s t v (omega arith)) (E.at j e)
    ]
  ];
}

free_same : (s s' : List ℕ) → ((i : ℕ) → is_free s' i ≡ is_free s i) → (n : ℕ) → free_to s' n ≡ free_to s n
unfolding free_to
free_same s s' same zero = refl
free_same s s' same (suc n) = rw (free_same s s' same n, same n) refl

-- ---- what the probes find

module _ {F : Field} (S : Shaped F) {s s' : List ℕ} (E : SameElsewhere F s s') where
  finding_same : (i j : ℕ) → has_no_effect F j ≡ false → finding F s' i j ≡ finding F s i j
  unfolding finding_by finding_of
  finding_same i j e =
      let put : (v : ℕ) → get_or (closure F (set s' i v)) j 0 ≡ get_or (closure F (set s i v)) j 0
      = λ v. closure_blind S (set s i v) (set s' i v) (set_elsewhere E i v).long (set_elsewhere E i v).at j e in
      rw (put 0, put 1, E.at j e) refl

  values_same : (cands : List ℕ) (k : ℕ) → SameElsewhere F (values_of F s cands k) (values_of F s' cands k)
  unfolding values_found_by values_after
  values_same cands zero = record { long = refl; at = λ j e. refl }
  values_same cands (suc k) = go (values_of F s cands k) (values_of F s' cands k) (values_same cands k)
    where
      go : (old old' : List ℕ) → SameElsewhere F old old'
          → SameElsewhere F (values_after (finding F s (get_or cands k 0)) old) (values_after (finding F s' (get_or cands k 0)) old')
      go old old' O = record {
        long = length_up_to _ (length old') ∙ O.long ∙ sym (length_up_to _ (length old));
        at = λ j e. up_to_at _ _ (length old) (length old') O.long j (rw (finding_same (get_or cands k 0) j e, O.at j e) refl);
      }

  probe_same : ((i : ℕ) → is_free s' i ≡ is_free s i) → SameElsewhere F (probe_values F s) (probe_values F s')
  unfolding probe_values all_values_by
  probe_same free = rw (free_same s s' free (variables F)) (values_same (free_to s (variables F)) (length (free_to s (variables F))))

laid_same : {F : Field} {t t' s s' : List ℕ} → SameElsewhere F t t' → SameElsewhere F s s' → SameElsewhere F (laid_over t s) (laid_over t' s')
unfolding laid_over
laid_same {F} {t} {t'} {s} {s'} T E = record {
  long = length_up_to _ (length s') ∙ E.long ∙ sym (length_up_to _ (length s));
  at = λ j e. up_to_at _ _ (length s) (length s') E.long j (rw (T.at j e, E.at j e) refl);
}

-- ---- the rounds

module _ {F : Field} where
  round_same : {s s' : List ℕ} → Sound F s → Sound F s' → SameElsewhere F s s' → SameElsewhere F (round F s) (round F s')
  unfolding round
  round_same {s} {s'} A B E =
      let P = preprocess_blind A.shaped A.start B.start E in
      laid_same (probe_same A.shaped P (frees_alike A.shaped A.start B.start E)) P

  rounds_same : (k : ℕ) {s s' : List ℕ} → Sound F s → Sound F s' → SameElsewhere F s s' → SameElsewhere F (all_rounds F k s) (all_rounds F k s')
  unfolding all_rounds
  rounds_same zero A B E = E
  rounds_same (suc k) A B E = rounds_same k (round_sound A) (round_sound B) (round_same A B E)

  heavy_blind : {s s' : List ℕ} → Sound F s → Sound F s' → SameElsewhere F s s' → SameElsewhere F (heavy F s) (heavy F s')
  unfolding heavy
  heavy_blind A B E = rw (rounds_are (variables F) A, rounds_are (variables F) B) (rounds_same (variables F) A B E)

-- Theorem. The other variables end the same, whether those of no effect are free, 0 or 1 at the start.
pub idle_unseen : (F : Field) (s s' : List ℕ) (f f' : List Float) (u u' : List ℕ) (g g' : Grade)
    → (heavy_call F s f u).answer ≡ Ok g → (heavy_call F s' f' u').answer ≡ Ok g'
    → SameElsewhere F s s' → SameElsewhere F (heavy_call F s f u).lent.values (heavy_call F s' f' u').lent.values
idle_unseen F s s' f f' u u' g g' e e' E =
    rw (values_are F s f u g e, values_are F s' f' u' g' e') (heavy_blind (sound F s f u g e) (sound F s' f' u' g' e') E)
