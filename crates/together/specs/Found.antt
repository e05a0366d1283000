-- What the calls find from a field and start values, whatever else they are lent (rule 9.8). Assumes nothing.
use Rattle.std.specs.Prelude.{ℕ, ◌≡◌, get_or, Float}
use mathlib.Core.List.{List, Memᴰ}
use Rattle.meaning.specs.Records.{Record}
use Rattle.field.specs.declared.Grade.{Grade}
use Rattle.field.specs.Field.{Field}
use Rattle.closure.specs.Call.{closure_call}
use Rattle.probes.specs.Call.{probe_call, probe_limited_call}
use Rattle.probes.specs.Says.{listed, value_at}
use Rattle.pairs.specs.Call as pairs
use Rattle.pairs.specs.Call.{pairs_call}
use Rattle.field.specs.Answers.{counted_answer}
use Rattle.pairs.specs.Answers.{paired_answer}

-- a call that answers 0 leaves v at variable i: the closure, or the probes of all free variables or of some; the fast and the cold call of each promise this one function
pub data Leaves (F : Field) (s : List ℕ) (i v : ℕ) : Type 0 where
  gradient_value : (f : List Float) (u : List ℕ) (g : Grade) (count : ℕ) → (closure_call F s f u).answer ≡ counted_answer g count
      → get_or (closure_call F s f u).lent.values i 0 ≡ v → Leaves F s i v
  probe_value : (t k : List ℕ) (f : List Float) (u : List ℕ) (g : Grade) (count : ℕ) → (probe_call F s t k f u).answer ≡ counted_answer g count
      → value_at i (probe_call F s t k f u) ≡ v → Leaves F s i v
  limited_value : (limit : ℕ) (t k : List ℕ) (f : List Float) (u : List ℕ) (g : Grade) (count : ℕ) → (probe_limited_call F s limit t k f u).answer ≡ counted_answer g count
      → value_at i (probe_limited_call F s limit t k f u) ≡ v → Leaves F s i v

-- a call that answers 0 lists the record r: the probes of all free variables or of some, or the pairs
pub data Lists (F : Field) (s : List ℕ) (r : Record) : Type 0 where
  probe_record : (t k : List ℕ) (f : List Float) (u : List ℕ) (g : Grade) (count : ℕ) → (probe_call F s t k f u).answer ≡ counted_answer g count
      → Memᴰ r (listed count (probe_call F s t k f u)) → Lists F s r
  limited_record : (limit : ℕ) (t k : List ℕ) (f : List Float) (u : List ℕ) (g : Grade) (count : ℕ) → (probe_limited_call F s limit t k f u).answer ≡ counted_answer g count
      → Memᴰ r (listed count (probe_limited_call F s limit t k f u)) → Lists F s r
  pair_record : (limit : ℕ) (l : List ℕ) (f : List Float) (u : List ℕ) (g : Grade) (items examined : ℕ) → (pairs_call F s limit l f u).answer ≡ paired_answer g items examined
      → Memᴰ r (pairs.listed items (pairs_call F s limit l f u)) → Lists F s r
