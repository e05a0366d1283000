-- Values of the field and of the smaller problem, and what is read of its weights. Assumes nothing.
use Rattle.std.specs.Prelude.{ℕ, suc, ◌<◌, ◌≡◌, cond, List, map, length, get_or, replicate}
use Rattle.weights.specs.Worth.{Worth, read}
use Rattle.meaning.specs.Free.{is_free}
use Rattle.field.specs.Field.{Field, variables, entries, linear_of, quad_of}
use Rattle.rows.specs.Stored.{up_to}
use Rattle.sub_problem.specs.Reduced.{back, new_index}

-- the smaller problem's start values: all n are free
abbrev pub all_free : ℕ → List ℕ
all_free n = replicate n 2

-- The values of x at the free variables, in order: a completion as the smaller problem has it.
abbrev pub restrict : List ℕ → List ℕ → List ℕ
restrict s x = map (λ i. get_or x i 0) (back s)

-- the start values, with y at the free ones
abbrev pub extend : List ℕ → List ℕ → List ℕ
extend s y = up_to (λ i. cond (is_free s i) (get_or y (new_index s i) 0) (get_or s i 0)) (length s)

-- one to one: there and back lead from each kind to the other, and undo each other
pub record OneToOne (P Q : List ℕ → Type 0) (there back : List ℕ → List ℕ) : Type 0 where
  pub leads : {x : List ℕ} → P x → Q (there x)
  pub returns : {y : List ℕ} → Q y → P (back y)
  pub there_again : {y : List ℕ} → Q y → there (back y) ≡ y
  pub back_again : {x : List ℕ} → P x → back (there x) ≡ x

-- what `whole_of` reads of a field is all of it: every c is a whole number of u, and every q of its double
pub record AllWhole (u : ℕ) (G : Field) : Type 0 where
  pub linear : (i : ℕ) → i < variables G → Worth u (linear_of G i) (read u (linear_of G i))
  pub quad : (k : ℕ) → k < entries G → Worth (suc u) (quad_of G k) (read (suc u) (quad_of G k))
