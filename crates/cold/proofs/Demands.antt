-- Demands 2 and 3 of the three calls by either route: what is proved of the cold calls holds by every route that agrees over single probes. Assumes nothing.
use Prim.Native.Nat.{ℕ, ◌<◌}
use mathlib.Core.Path.{◌≡◌, refl}
use mathlib.Core.Logic.{◌↔◌}
use mathlib.Core.List.{List, Memᴰ}
use lib.Ieee.{Float}
use lib.ListN.{length, get_or, take}
use Rattle.meaning.specs.Field as meaning
use Rattle.meaning.specs.Kinds.{Pair}
use Rattle.meaning.specs.Records.{Record, Bans, MeetsRecord}
use Rattle.field.specs.declared.Grade.TheVariants.{Exact}
use Rattle.field.specs.Field.{Field, variables}
use Rattle.field.specs.Grade.{Serves}
use Rattle.field.specs.Reading.{whole_of}
use Rattle.ranking.specs.EdgeMass.{RankedByMass}
use Rattle.probe.specs.Call.{Route, cold, Gives, probe_one_by}
use Rattle.probe.proofs.Demands as one
use Rattle.probes.specs.Call.{probe_by, probe_limited_by}
use Rattle.probes.specs.Route.{Agrees}
use Rattle.probes.specs.Rule.{Given, GivesValue, LastGives, NoneGives, GreatestGives, NoFreeGives}
use Rattle.probes.specs.Says.{listed, value_at}
use Rattle.probes.proofs.Routes.{one_by, probe_by_lem, limited_by}
use Rattle.probes.proofs.FullCall as full
use Rattle.probes.proofs.LimitedCall as limited
use Rattle.std.specs.Prelude.{Ok}
use Rattle.field.specs.Answers.{counted_answer}

-- Theorem. The cold route agrees with itself, and the fast one agrees by `routes-agree`.
pub cold_agrees : Agrees cold
cold_agrees F S s start i v free small = refl

module _ {R : Route} (agrees : Agrees R) (F : Field) (s : List ℕ) where
  -- ---- the single probe

  module _ (i v : ℕ) (t : List ℕ) (f : List Float) (u : List ℕ) (e : (probe_one_by R F s i v t f u).answer ≡ Ok Exact) {unit : ℕ} (serving : Serves unit F) where
    same_one : probe_one_by R F s i v t f u ≡ probe_one_by cold F s i v t f u
    same_one = one_by agrees F s i v t f u

    -- Theorem. DEMAND 2. The list is the closure over whole numbers, without the start values.
    pub one_closes : Gives (whole_of unit F) s i v (probe_one_by R F s i v t f u).lent.values
    one_closes = rw same_one (one.probe_closes F s i v t f u (rw same_one at e) serving)

    -- Theorem. DEMAND 3. Every best completion of the start values that has the probed value obeys every value of the list.
    pub one_best_obeys : {x : List ℕ} → meaning.Best (whole_of unit F) s x → get_or x i 0 ≡ v → (j : ℕ) → j < variables F
        → get_or (probe_one_by R F s i v t f u).lent.values j 0 < 2 → get_or x j 0 ≡ get_or (probe_one_by R F s i v t f u).lent.values j 0
    one_best_obeys = rw same_one (one.best_obeys F s i v t f u (rw same_one at e) serving)

  -- ---- the full probe

  module _ (t k : List ℕ) (f : List Float) (u : List ℕ) {count : ℕ} (e : (probe_by R F s t k f u).answer ≡ counted_answer Exact count) {unit : ℕ} (serving : Serves unit F) where
    same_full : probe_by R F s t k f u ≡ probe_by cold F s t k f u
    same_full = probe_by_lem agrees F s t k f u

    -- Theorem. DEMAND 2. A pair is forbidden by the list exactly if the probes of a free variable forbid it.
    pub full_list_exact : (i j : ℕ) (p : Pair) → Bans (listed count (probe_by R F s t k f u)) i j p ↔ Given (whole_of unit F) s (λ i. get_or s i 0 ≡ 2) i j p
    full_list_exact = rw same_full (full.probe_list_exact F s t k f u (rw same_full at e) serving)

    -- Theorem. A value below 2 stands at j exactly if the greatest free variable whose two probes give j one value gives it, and 2 exactly if none does.
    pub full_values_exact : (j : ℕ) → j < variables F → (w : ℕ) → w < 2
        → (value_at j (probe_by R F s t k f u) ≡ w) ↔ GreatestGives (λ i v. GivesValue (whole_of unit F) s i j v) s w
    full_values_exact = rw same_full (full.probe_values_exact F s t k f u (rw same_full at e) serving)

    -- Theorem. By either route 2 stands at j exactly if no free variable has two probes that give j one value.
    pub full_none_exact : (j : ℕ) → j < variables F → (value_at j (probe_by R F s t k f u) ≡ 2) ↔ NoFreeGives (λ i v. GivesValue (whole_of unit F) s i j v) s
    full_none_exact = rw same_full (full.probe_none_exact F s t k f u (rw same_full at e) serving)

    -- DEMAND 3. Every best completion of the start values has every value of the answer, and meets every record.
    module _ {x : List ℕ} (best : meaning.Best (whole_of unit F) s x) where
      -- Theorem. Every best completion has each value that the full probe finds, by either route.
      pub full_best_has_values : (j : ℕ) → j < variables F → value_at j (probe_by R F s t k f u) < 2 → get_or x j 0 ≡ value_at j (probe_by R F s t k f u)
      full_best_has_values = rw same_full (full.probe_best_has_values F s t k f u (rw same_full at e) serving best)

      -- Theorem. Every best completion meets each record that the full probe lists, by either route.
      pub full_best_meets_all : (r : Record) → Memᴰ r (listed count (probe_by R F s t k f u)) → MeetsRecord x r
      full_best_meets_all = rw same_full (full.probe_best_meets_all F s t k f u (rw same_full at e) serving best)

  -- ---- the limited probe

  module _ (limit : ℕ) (t k : List ℕ) (f : List Float) (u : List ℕ) {count : ℕ} (e : (probe_limited_by R F s limit t k f u).answer ≡ counted_answer Exact count)
      {unit : ℕ} (serving : Serves unit F) where
    same_limited : probe_limited_by R F s limit t k f u ≡ probe_limited_by cold F s limit t k f u
    same_limited = limited_by agrees F s limit t k f u

    -- For every list in which the free variables go by falling edge mass, then rising index:
    module _ (L : List ℕ) (ranked : RankedByMass (whole_of unit F) s L) where
      -- Theorem. DEMAND 2. A pair is forbidden by the list exactly if the probes of one of the first `limit` of them forbid it.
      pub limited_list_exact : (i j : ℕ) (p : Pair) → Bans (listed count (probe_limited_by R F s limit t k f u)) i j p ↔ Given (whole_of unit F) s (λ i. Memᴰ i (take limit L)) i j p
      limited_list_exact = rw same_limited (limited.limited_list_exact F s limit t k f u (rw same_limited at e) serving L ranked)

      -- Theorem. A value below 2 stands at j exactly if the last of these whose two probes give j one value gives it, and 2 exactly if none does.
      pub limited_values_exact : (j : ℕ) → j < variables F → (w : ℕ) → w < 2
          → (value_at j (probe_limited_by R F s limit t k f u) ≡ w) ↔ LastGives (λ i v. GivesValue (whole_of unit F) s i j v) (take limit L) (length (take limit L)) w
      limited_values_exact = rw same_limited (limited.limited_values_exact F s limit t k f u (rw same_limited at e) serving L ranked)

      -- Theorem. 2 stands at j exactly if none of the candidates has two probes that give j one value, in whole numbers.
      pub limited_none_exact : (j : ℕ) → j < variables F
          → (value_at j (probe_limited_by R F s limit t k f u) ≡ 2) ↔ NoneGives (λ i v. GivesValue (whole_of unit F) s i j v) (take limit L) (length (take limit L))
      limited_none_exact = rw same_limited (limited.limited_none_exact F s limit t k f u (rw same_limited at e) serving L ranked)

    -- DEMAND 3. Every best completion of the start values has every value of the answer, and meets every record.
    module _ {x : List ℕ} (best : meaning.Best (whole_of unit F) s x) where
      -- Theorem. Every best completion has each value that the limited probe finds, by either route.
      pub limited_best_has_values : (j : ℕ) → j < variables F → value_at j (probe_limited_by R F s limit t k f u) < 2 → get_or x j 0 ≡ value_at j (probe_limited_by R F s limit t k f u)
      limited_best_has_values = rw same_limited (limited.limited_best_has_values F s limit t k f u (rw same_limited at e) serving best)

      -- Theorem. Every best completion meets each record that the limited probe lists, by either route.
      pub limited_best_meets_all : (r : Record) → Memᴰ r (listed count (probe_limited_by R F s limit t k f u)) → MeetsRecord x r
      limited_best_meets_all = rw same_limited (limited.limited_best_meets_all F s limit t k f u (rw same_limited at e) serving best)
