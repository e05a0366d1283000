-- Demands 2 and 3 over any list of candidates: the laws from which FullCall and LimitedCall have theirs. Assumes nothing.
use Prim.Native.Nat.{ℕ, ◌<◌}
use mathlib.Core.Path.{◌≡◌, sym, ap, ◌∙◌}
use mathlib.Core.Logic.{◌≢◌, ◌↔◌}
use mathlib.Core.List.{List, Memᴰ}
use native.Mathlib.Omega.{arith}
use lib.ListN.{length, get_or}
use lib.Ieee.{Float}
use Rattle.meaning.specs.Field as meaning
use Rattle.meaning.specs.Kinds.{Pair}
use Rattle.meaning.specs.Records.{Record, AllProper, MeetsRecord, Bans}
use Rattle.meaning.specs.Rising.{Rising}
use Rattle.constraints.specs.Record.{Fit}
use Rattle.field.specs.declared.Grade.{Grade}
use Rattle.field.specs.declared.Grade.TheVariants.{Exact}
use Rattle.field.specs.Field.{Field, variables, Shaped, StartFor}
use Rattle.field.specs.Grade.{Serves}
use Rattle.field.specs.Reading.{whole_of}
use Rattle.field.specs.Tests.{Finite}
use Rattle.field.proofs.Exact.{exact_means}
use Rattle.probes.specs.Call.{all_records, all_values, Left, candidates_call}
use Rattle.probes.specs.Rule.{FreeCandidates, Given, GivesValue, Finds, FindsValue, LastGives, NoneGives}
use Rattle.probes.specs.Says.{listed, value_at, DoneSays}
use Rattle.probes.proofs.Gathered as gathered
use Rattle.probes.proofs.Exact as exact
use Rattle.probes.proofs.Demands.{done_when, done_leaves, list_holds}
use Rattle.field.specs.Answers.{counted_answer}

module _ (F : Field) (s cands t k : List ℕ) (f : List Float) (u : List ℕ) where
  abbrev call : Left
  call = candidates_call F s cands t k f u

  -- ---- on every field

  module _ {g : Grade} {count : ℕ} (e : call.answer ≡ counted_answer g count) where
    pub said : DoneSays F s cands t k f u g count
    said = (done_when F s cands t k f u g count).0 e

    pub finite_weights : Finite F
    finite_weights = said.ready.sound.finite_weights

    pub start : StartFor (variables F) s
    start = said.ready.sound.start

    pub list_is : listed count call ≡ all_records F s cands
    list_is = list_holds F s cands t k f u g count e

    value_is : (j : ℕ) → value_at j call ≡ get_or (all_values F s cands) j 0
    value_is j = ap (λ (l : Left). value_at j l) (done_leaves F s cands t k f u g count e)

    pub list_finds : (i j : ℕ) (p : Pair) → Bans (listed count call) i j p ↔ Finds F s cands i j p
    list_finds i j p = rw list_is (gathered.list_finds F s cands i j p)

    pub list_rising : Rising (listed count call)
    list_rising = rw list_is (gathered.list_rising F s cands)

    pub list_fits : FreeCandidates s cands → (r : Record) → Memᴰ r (listed count call) → Fit (variables F) r
    list_fits free r m = gathered.list_fits F s cands free start.long r (rw list_is at m)

    pub value_finds : (j : ℕ) → j < variables F → (w : ℕ) → w < 2 → (value_at j call ≡ w) ↔ LastGives (λ i v. FindsValue F s i j v) cands (length cands) w
    value_finds j below w small = rw (value_is j) (gathered.value_finds F s cands j below w small)

    pub none_finds : (j : ℕ) → j < variables F → (value_at j call ≡ 2) ↔ NoneGives (λ i v. FindsValue F s i j v) cands (length cands)
    none_finds j below = rw (value_is j) (gathered.none_finds F s cands j below)

    pub start_left_out : (j : ℕ) → j < variables F → get_or s j 0 ≢ 2 → value_at j call ≡ 2
    start_left_out j below given = value_is j ∙ gathered.start_left_out F s cands j below given

  -- ---- on an exact field, over whole numbers

  module _ (free : FreeCandidates s cands) {count : ℕ} (e : call.answer ≡ counted_answer Exact count) where
    pub shaped : Shaped F
    shaped = (said e).ready.sound.shaped

    pub no_full_set : (r : Record) → Memᴰ r (listed count call) → r.set ≢ 15
    no_full_set r m =
        exact.no_full_set shaped ((exact_means F shaped.rows_long).0 (sym (said e).graded)).exact (start e) cands free r (rw (list_is e) at m)

    -- in every unit that serves
    module _ {unit : ℕ} (serving : Serves unit F) where
      pub list_exact : (i j : ℕ) (p : Pair) → Bans (listed count call) i j p ↔ Given (whole_of unit F) s (λ i. Memᴰ i cands) i j p
      list_exact i j p = rw (list_is e) (exact.list_exact shaped serving.exact (start e) cands free i j p)

      pub list_only : (l : List Record) → AllProper l → Rising l → ((i j : ℕ) (p : Pair) → Bans l i j p ↔ Given (whole_of unit F) s (λ i. Memᴰ i cands) i j p)
          → l ≡ listed count call
      list_only l a r h = exact.list_only shaped serving.exact (start e) cands free l a r h ∙ sym (list_is e)

      pub values_exact : (j : ℕ) → j < variables F → (w : ℕ) → w < 2
          → (value_at j call ≡ w) ↔ LastGives (λ i v. GivesValue (whole_of unit F) s i j v) cands (length cands) w
      values_exact j below w small = rw (value_is e j) (exact.values_exact shaped serving.exact (start e) cands free j below w small)

      pub none_exact : (j : ℕ) → j < variables F → (value_at j call ≡ 2) ↔ NoneGives (λ i v. GivesValue (whole_of unit F) s i j v) cands (length cands)
      none_exact j below = rw (value_is e j) (exact.none_exact shaped serving.exact (start e) cands free j below)

      module _ {x : List ℕ} (best : meaning.Best (whole_of unit F) s x) where
        pub best_has_values : (j : ℕ) → j < variables F → value_at j call < 2 → get_or x j 0 ≡ value_at j call
        best_has_values j below small =
            exact.best_has_values shaped serving.exact (start e) cands free best j below (omega (arith, value_is e j)) ∙ sym (value_is e j)

        pub best_meets_all : (r : Record) → Memᴰ r (listed count call) → MeetsRecord x r
        best_meets_all r m = exact.best_meets_all shaped serving.exact (start e) cands free best r (rw (list_is e) at m)
