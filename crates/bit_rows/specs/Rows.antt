-- Rows of 32 words of 64 bits, in which bit b of row a says that a leads to b. Assumes nothing.
use Rattle.std.specs.Prelude.{◌≡◌, ◌⊎◌, Bool, cond, ◌&&◌, ◌||◌, List, ℕ, ◌+◌, ◌*◌, ◌/◌, ◌%◌, ◌^◌, ◌<◌, ◌≤◌, eqb, ltb, length, get_or}
use Rattle.std.specs.Int.Bits.{bit_or}
use Rattle.reaching.specs.Via.{via, count_below}

-- bit k of x is set
unfoldable pub digit : ℕ → ℕ → Bool
digit x k = eqb (x / 2 ^ k % 2) 1

-- the place of the word of bit b of row a
abbrev pub word_of : ℕ → ℕ → ℕ
word_of a b = a * 32 + b / 64

-- Bit b of row a, as it stands in the list of words.
unfoldable pub bit_in : List ℕ → ℕ → ℕ → Bool
unfolding digit
bit_in w a b = digit (get_or w (word_of a b) 0) (b % 64)

-- the list w has rows for n numbers, of which each has at most 2,048 bits
pub record Rows (n : ℕ) (w : List ℕ) : Type 0 where
  pub room : n * 32 ≤ length w
  pub few : n ≤ 2048

-- w has the bits r, and is as long as w₀
pub record Holding (r : ℕ → ℕ → Bool) (w₀ w : List ℕ) : Type 0 where
  pub long : length w ≡ length w₀
  pub bits : (a b : ℕ) → b < 2048 → bit_in w a b ≡ r a b

-- the bits after bit b of row a is set
unfoldable pub marked : (ℕ → ℕ → Bool) → ℕ → ℕ → ℕ → ℕ → Bool
marked r a b c d = r c d || (eqb a c && eqb b d)

-- the bits after row a is joined to row k
unfoldable pub joined : (ℕ → ℕ → Bool) → ℕ → ℕ → ℕ → ℕ → Bool
joined r a k c d = cond (eqb c a) (r a d || r k d) (r c d)

-- what row c has once it is joined to row k, where it has bit k
unfoldable pub through : (ℕ → ℕ → Bool) → ℕ → ℕ → ℕ → Bool
through r k c d = r c d || (r c k && r k d)

-- The bits after row a alone has gone through k: joined to row k where it has bit k.
unfoldable pub stepped : (ℕ → ℕ → Bool) → ℕ → ℕ → ℕ → ℕ → Bool
unfolding through
stepped r k a c d = cond (eqb c a) (through r k a d) (r c d)

-- The bits after every row below i has gone through k, which is part of a stage.
unfoldable pub stage : (ℕ → ℕ → Bool) → ℕ → ℕ → ℕ → ℕ → Bool
unfolding through
stage r k i c d = cond (ltb c i) (through r k c d) (r c d)

-- the bits of the rows below n after k stages; other rows stay
unfoldable pub closed : (ℕ → ℕ → Bool) → ℕ → ℕ → ℕ → ℕ → Bool
closed r n k c d = cond (ltb c n) (via r k c d) (r c d)

-- where the loop over the words of a row stands: the first i words of row a have those of row k too
pub record Joining (a k : ℕ) (w₀ : List ℕ) (i : ℕ) (w : List ℕ) : Type 0 where
  pub within : i ≤ 32
  pub long : length w ≡ length w₀
  pub done : (t : ℕ) → t < i → get_or w (a * 32 + t) 0 ≡ bit_or (get_or w₀ (a * 32 + t) 0) (get_or w₀ (k * 32 + t) 0)
  pub rest : (p : ℕ) → (p < a * 32) ⊎ (a * 32 + i ≤ p) → get_or w p 0 ≡ get_or w₀ p 0

-- Where the loop over the rows of one stage stands: those below i have gone through k.
pub record Staging (r : ℕ → ℕ → Bool) (k n : ℕ) (w₀ : List ℕ) (i : ℕ) (w : List ℕ) : Type 0 where
  pub within : i ≤ n
  pub held : Holding (stage r k i) w₀ w

-- Where the loop over the stages stands: the rows say what leads where by way of numbers below k.
pub record Closing (r : ℕ → ℕ → Bool) (n : ℕ) (w₀ : List ℕ) (k : ℕ) (w : List ℕ) : Type 0 where
  pub within : k ≤ n
  pub held : Holding (closed r n k) w₀ w

-- Where the count of row a stands: the bits of its first i words are counted.
pub record Counting (w : List ℕ) (a i sum : ℕ) : Type 0 where
  pub within : i ≤ 32
  pub so_far : sum ≡ count_below (bit_in w a) (i * 64)
