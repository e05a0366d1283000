-- Ways to values that some best completion has, and how they compose. Assumes nothing.
use mathlib.Core.Path.{◌≡◌, refl}
use mathlib.Core.List.{List}
use Prim.Native.Nat.{ℕ, ◌<◌}
use native.Mathlib.Decide.{ℕ_discrete}
use native.Mathlib.Omega.{arith}
use lib.ListN.{get_or, set}
use lib.Seq.{get_or-set_same, get_or-set_other}
use Rattle.whole.specs.Whole.{◌⊙◌, ◌≈◌}
use Rattle.whole.proofs.Sums.{sum_same}
use Rattle.meaning.specs.Steps.{Valid, Extends}
use Rattle.meaning.specs.Field.{Field, variable_term, entry_term, twice_f, Best}
use Rattle.meaning.specs.Part.{Safe, NoEffect}
use Rattle.meaning.proofs.Values.{inside, extends_trans, extends_set, extends_fixed}
use Rattle.meaning.proofs.Sound.{complete_set}
use Rattle.meaning.proofs.Exists.{best_exists}

-- ---- one after another

-- a best completion of safe values is best
pub safe_best : {F : Field} {s t x : List ℕ} → Safe F s t → Best F t x → Best F s x
safe_best h b =
    record {
      completion = record { extends = extends_trans h.extends b.completion.extends; full = b.completion.full };
      least = λ z c. omega (arith, h.best.least z c, b.least h.witness (record { extends = h.agrees; full = h.best.completion.full }));
    }

pub safe_trans : {F : Field} {s t u : List ℕ} → Safe F s t → Safe F t u → Safe F s u
safe_trans h k = record { extends = extends_trans h.extends k.extends; witness = k.witness; best = safe_best h k.best; agrees = k.agrees }

-- ---- ways

-- what every best completion has is safe
pub every_safe : (F : Field) {s t : List ℕ} → Valid s → Extends s t → ((x : List ℕ) → Best F s x → Extends t x) → Safe F s t
every_safe F {s = s} valid p all = let b = best_exists F s valid in record { extends = p; witness = b.0; best = b.1; agrees = all b.0 b.1 }

-- and so is each value of a best completion by itself
pub value_safe : {F : Field} {s x : List ℕ} → Best F s x → (i v : ℕ) → get_or s i 0 ≡ 2 → get_or x i 0 ≡ v → Safe F s (set s i v)
value_safe {s = s} {x = x} b i v free e = record { extends = extends_set s i v free; witness = x; best = b; agrees = extends_fixed b.completion.extends i v free e }

-- ---- a variable of no effect

-- the objective does not change with it
no_effect_same : {F : Field} {i : ℕ} → NoEffect F i → (x : List ℕ) (v : ℕ) → twice_f F (set x i v) ≈ twice_f F x
no_effect_same {F} {i} none x v =
    omega (
      arith,
      sum_same F.n (variable_term F (set x i v)) (variable_term F x) (λ k h. go k (ℕ_discrete k i)),
      sum_same F.m (entry_term F (set x i v)) (entry_term F x) (λ k h. rw (get_or-set_other x i (F.row k) v 0 (none.apart k h).0, get_or-set_other x i (F.column k) v 0 (none.apart k h).1) refl),
    )
  where
    go : (k : ℕ) → Dec (k ≡ i) → F.linear k ⊙ get_or (set x i v) k 0 ≈ F.linear k ⊙ get_or x k 0
    go k (yes e) = rw (e, none.weightless) (omega arith)
    go k (no n) = rw (get_or-set_other x i k v 0 n) refl

pub no_effect_safe : {F : Field} {s : List ℕ} → Valid s → (i v : ℕ) → get_or s i 0 ≡ 2 → v < 2 → NoEffect F i → Safe F s (set s i v)
no_effect_safe {F = F} {s = s} valid i v free small none = value_safe best i v free (get_or-set_same x i v 0 (omega (arith, inside s i free, b.completion.extends.as_long)))
  where
    x : List ℕ
    x = (best_exists F s valid).0

    b : Best F s x
    b = (best_exists F s valid).1

    best : Best F s (set x i v)
    best = record { completion = complete_set b.completion i v free small; least = λ z c. omega (arith, no_effect_same none x v, b.least z c) }
