-- Terms listed one after another. Assumes nothing.
use Prim.Native.Nat.{ℕ, zero, suc, ◌+◌, ◌≤◌}
use mathlib.Core.Path.{◌≡◌, refl, sym, ap, ◌∙◌}
use mathlib.Core.List.{List, [], ◌∷◌, ◌++◌}
use native.Mathlib.Numerals.{add-one}
use native.Mathlib.Omega.{arith}
use lib.ListN.{set, length-set, length-append}
use lib.Seq.{get_or-set_same, get_or-set_other}
use lib.Ieee.{Float, nan}
use Rattle.masks.specs.Masks.{Term, term}
use Rattle.masks.specs.Listed.{Lists, lists, terms_on, Room, Listed}

append_nil : (ts : List Term) → ts ++ [] ≡ ts
append_nil [] = refl
append_nil (t ∷ ts) = ap (λ (us : List Term). t ∷ us) (append_nil ts)

append_assoc : (ts us vs : List Term) → (ts ++ us) ++ vs ≡ ts ++ (us ++ vs)
append_assoc [] us vs = refl
append_assoc (t ∷ ts) us vs = ap (λ (ws : List Term). t ∷ ws) (append_assoc ts us vs)

pub listed_none : {L : Lists} → Listed [] L L
listed_none {L} = record { terms = sym (append_nil (terms_on L.values L.required L.end)); ends = omega arith; values_long = refl; required_long = refl }

pub listed_then : {ts us : List Term} {L₀ L L' : Lists} → Listed ts L₀ L → Listed us L L' → Listed (ts ++ us) L₀ L'
listed_then {ts} {us} {L₀} A B = record {
  terms = B.terms ∙ ap (λ (vs : List Term). vs ++ us) A.terms ∙ append_assoc (terms_on L₀.values L₀.required L₀.end) ts us;
  ends = omega (arith, A.ends, B.ends, length-append ts us);
  values_long = B.values_long ∙ A.values_long;
  required_long = B.required_long ∙ A.required_long;
}

-- a store at the end leaves the terms before it
kept_before : (values : List Float) (required : List ℕ) (end : ℕ) (value : Float) (bits t : ℕ) → t ≤ end → terms_on (set values end value) (set required end bits) t ≡ terms_on values required t
unfolding terms_on
kept_before values required end value bits zero h = refl
kept_before values required end value bits (suc t) h =
    rw (
      kept_before values required end value bits t (omega arith),
      get_or-set_other required end t bits 0 (λ e. absurd (omega arith)),
      get_or-set_other values end t value nan (λ e. absurd (omega arith)),
    ) refl

pub listed_one : {values : List Float} {required : List ℕ} (end bits : ℕ) (value : Float) → Room (end + 1) values required
    → Listed (term bits value ∷ []) (lists end values required) (lists (end + 1) (set values end value) (set required end bits))
unfolding terms_on
listed_one {values} {required} end bits value R = record {
  terms =
      rw (
        add-one end,
        kept_before values required end value bits end (omega arith),
        get_or-set_same required end bits 0 (omega (arith, R.required_long)),
        get_or-set_same values end value nan (omega (arith, R.values_long)),
      ) refl;
  ends = refl;
  values_long = length-set values end value;
  required_long = length-set required end bits;
}
