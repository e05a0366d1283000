-- The rule for anchors (rules 9.4 to 9.6), over parts of the variables. Assumes nothing.
use Rattle.std.specs.Prelude.{ℕ, ◌<◌, ◌≤◌, ◌≡◌, ◌⊎◌, true, cond, List, [], ◌∷◌, ◌++◌, length, get_or, T, Float}
use Rattle.std.specs.Float.{binary64}
use Rattle.std.specs.Float.Ieee.{mul, lt, eq, ne, fits}
use Rattle.weights.specs.Worth.{zero64, four64}
use Rattle.field.specs.Field.{Field, entries, linear_of, quad_of}
use Rattle.places.specs.Places.{places}
use Rattle.parts.specs.Part.{has}
use Rattle.anchors.specs.Sums.{on_diagonal, doubled, balanced, weight_of}

-- a stands before i: its sum of |q| off the diagonal is greater, or equal with an index that is not greater
abbrev pub Before : Field → ℕ → ℕ → Type 0
Before F a i = (lt (weight_of F i) (weight_of F a) ≡ true) ⊎ ((eq (weight_of F i) (weight_of F a) ≡ true) × (a ≤ i))

-- a is a member of the part K that stands before every other by weight, then by index.
pub record Leads (F : Field) (K : List ℕ) (a : ℕ) : Type 0 where
  pub member : has K a ≡ true
  pub first : (i : ℕ) → has K i ≡ true → Before F a i

-- when a component has an anchor: it is large enough, every member is free, and the balance of every member is valid and 0 (rule 9.5)
pub record Turns (F : Field) (s : List ℕ) (least : ℕ) (K : List ℕ) : Type 0 where
  pub large : least ≤ length K
  pub free : (i : ℕ) → has K i ≡ true → get_or s i 0 ≡ 2
  pub symmetric : (i : ℕ) → has K i ≡ true → balanced F i ≡ true

-- the anchors of parts, in the parts' order: of each that turns, the member that leads it
pub data AnchorsBy (turns : List ℕ → Type 0) (leads : List ℕ → ℕ → Type 0) : List (List ℕ) → List ℕ → Type 0 where
  no_part : AnchorsBy turns leads [] []
  anchored : {K : List ℕ} {Ks : List (List ℕ)} {a : ℕ} {l : List ℕ} → turns K → leads K a → AnchorsBy turns leads Ks l → AnchorsBy turns leads (K ∷ Ks) (a ∷ l)
  passed_over : {K : List ℕ} {Ks : List (List ℕ)} {l : List ℕ} → (turns K → ⊥) → AnchorsBy turns leads Ks l → AnchorsBy turns leads (K ∷ Ks) l

-- The anchors of these parts by the rule: of each part that turns, the member that leads it.
abbrev pub AnchorsOf : Field → List ℕ → ℕ → List (List ℕ) → List ℕ → Type 0
AnchorsOf F s least = AnchorsBy (Turns F s least) (Leads F)

-- ---- what is added at a variable

-- What entry k adds to the balance of a variable: 2q on the diagonal, q elsewhere unless it is 0.
unfoldable pub terms_at : Field → ℕ → List Float
terms_at F k = cond (on_diagonal F k) (doubled F k ∷ []) (cond (ne (quad_of F k) zero64) (quad_of F k ∷ []) [])

-- What a list of entries adds to the balance of a variable, in their order.
unfoldable pub terms_over : Field → List ℕ → List Float
terms_over F [] = []
terms_over F (k ∷ ks) = terms_at F k ++ terms_over F ks

-- All that is added at variable i: 4c, then q of each of its entries in order, 2q on the diagonal (rule 9.2).
unfoldable pub terms : Field → ℕ → List Float
terms F i = mul binary64 four64 (linear_of F i) ∷ terms_over F (places F.rows F.cols i)

-- The weight q of every entry is one that an f64 holds.
abbrev pub HeldWeights : Field → Type 0
HeldWeights F = (k : ℕ) → k < entries F → T (fits binary64 (quad_of F k))
