-- What is read off closed rows, and where the loops that read them stand. Assumes nothing.
use Rattle.std.specs.Prelude.{◌≡◌, Bool, false, ◌||◌, List, ℕ, ◌*◌, ◌<◌, ◌≤◌, length}
use Rattle.meaning.specs.Literal.{Implication}
use Rattle.scratch.specs.Over.{over}
use Rattle.reaching.specs.Via.{literal, choices_lead, picked, first_contradictory}
use Rattle.bit_rows.specs.Rows.{bit_in}
use Rattle.allow.specs.declared.Allowed.{Allowed}
use Rattle.allow.specs.Answer.{allowed_of, assignment_of, counts_to, counts_of}

-- Row 2n, in which the literals that the choices lead to are gathered, is still empty.
abbrev pub Blank : ℕ → List ℕ → Type 0
Blank n w = (b : ℕ) → b < 2048 → bit_in w (2 * n) b ≡ false

-- the test of one choice, where row 2n has what the earlier ones lead to
unfoldable pub wants : List ℕ → ℕ → ℕ → Bool
wants w n i = bit_in w (literal i 0) (literal i 1) || bit_in w (2 * n) (literal i 1)

-- where the choices stand: the first i are laid over the list, and row 2n has what they lead to
pub record Choosing (n : ℕ) (w₀ a₀ : List ℕ) (i : ℕ) (w a : List ℕ) : Type 0 where
  pub within : i ≤ n
  pub long : length w ≡ length w₀
  pub rows : (c d : ℕ) → c < 2 * n → d < 2048 → bit_in w c d ≡ bit_in w₀ c d
  pub last : (d : ℕ) → d < 2048 → bit_in w (2 * n) d ≡ choices_lead (bit_in w₀) (picked (bit_in w₀) i) i d
  pub as_long : length a ≡ length a₀
  pub list : a ≡ over (picked (bit_in w₀) i) a₀

-- where the search for a contradictory variable stands
pub record Seeking (r : ℕ → ℕ → Bool) (n i : ℕ) : Type 0 where
  pub within : i ≤ n
  pub none : first_contradictory r i ≡ i

-- Where the loop over the counts stands: the first a counts are laid over the list.
pub record Numbering (r : ℕ → ℕ → Bool) (m : ℕ) (c₀ : List ℕ) (a : ℕ) (c : List ℕ) : Type 0 where
  pub within : a ≤ m
  pub as_long : length c ≡ length c₀
  pub list : c ≡ over (counts_to r 2048 a) c₀

-- the answer, and what the lists a₀ and c₀ hold after it
pub record Answered (E : List Implication) (n : ℕ) (a₀ c₀ : List ℕ) (r : Allowed) (a c : List ℕ) : Type 0 where
  pub answer : r ≡ allowed_of E n
  pub assignment : a ≡ over (assignment_of E n) a₀
  pub counts : c ≡ over (counts_of E n) c₀
