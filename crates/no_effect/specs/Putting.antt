-- The numbers that pass a test go to the front of a list, one after another. Assumes nothing.
use Rattle.std.specs.Prelude.{ℕ, zero, suc, ◌+◌, ◌<◌, ◌≤◌, Bool, cond, List, [], ◌∷◌, length, set}
use Rattle.std.proofs.lemmas.List.Edits.{sets}

-- of the k numbers from i on, those that pass, rising
unfoldable pub chosen_from : (ℕ → Bool) → ℕ → ℕ → List ℕ
chosen_from p i zero = []
chosen_from p i (suc k) = cond (p i) (i ∷ chosen_from p (suc i) k) (chosen_from p (suc i) k)

-- The numbers below n that pass, rising.
abbrev pub chosen : (ℕ → Bool) → ℕ → List ℕ
chosen p n = chosen_from p 0 n

-- a list, and how many numbers have gone to its front, those that found no place counted too
pub record Putting : Type 0 where
  pub list : List ℕ
  pub count : ℕ

-- A list together with how many numbers have gone to its front.
abbrev pub putting : List ℕ → ℕ → Putting
putting l k = record { list = l; count = k }

-- i goes in, if it passes; past its end a list does not change
unfoldable pub put_at : Bool → ℕ → Putting → Putting
put_at b i s = cond b (putting (set s.list s.count i) (s.count + 1)) s

-- all that pass go in, as far as there are places
unfoldable pub put_all : (ℕ → Bool) → ℕ → List ℕ → Putting
put_all p n l = putting (sets l 0 (chosen p n)) (length (chosen p n))

-- What one turn of the loop reads is there: the weight and the mark of variable i.
pub record Puttable (n words i count : ℕ) : Type 0 where
  pub in_weights : i < n
  pub in_words : i < words
  pub small : i < 4096
  pub behind : count ≤ i
