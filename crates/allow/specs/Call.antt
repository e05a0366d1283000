-- What the call `allow` answers and leaves, as one function of what it is given, for every input. Assumes nothing.
use Rattle.std.specs.Prelude.{ℕ, ◌+◌, ◌*◌, ◌≤◌, Bool, ◌&&◌, List, [], ◌∷◌, ◌++◌, leb, length, get_or, take, Ok, Err}
use Rattle.scratch.specs.Cleared.{cleared}
use Rattle.scratch.specs.Over.{over}
use Rattle.field.specs.declared.Refusal.TheVariants.{Variables, Argument, Scratch, Room}
use Rattle.field.specs.Answers.{Answer}
use Rattle.field.specs.Table.{Test, test}
use Rattle.field.specs.Tests.{words_fit}
use Rattle.calls.specs.Call as any
use Rattle.calls.specs.Call.{called, stage, usual}
use Rattle.constraints.specs.Record.{room}
use Rattle.literals.specs.Ends.{rules}
use Rattle.literals.specs.Listed.{Listed}
use Rattle.propagation.specs.Tests.{constraints_fit}
use Rattle.allow.specs.declared.Allowed.{Allowed}
use Rattle.allow.specs.Answer.{allowed_of, assignment_of, counts_of}

-- What is lent to `allow`: the assignment, the counts, the u64 words and the u32 words.
pub record Lent : Type 0 where
  pub assignment : List ℕ
  pub counts : List ℕ
  pub longs : List ℕ
  pub words : List ℕ

-- The lent lists of `allow` in one record: the assignment, the counts, the u64 words and the u32 words.
abbrev pub lent : List ℕ → List ℕ → List ℕ → List ℕ → Lent
lent a c w u = record { assignment = a; counts = c; longs = w; words = u }

-- The answer of `allow`, and its four lent lists afterwards.
abbrev pub Left : Type 0
Left = any.Left (Answer Allowed) Lent

-- What the call `allow` leaves, made of its answer and its four lent lists.
abbrev pub left : Answer Allowed → List ℕ → List ℕ → List ℕ → List ℕ → Left
left r a c w u = any.left r (lent a c w u)

-- 1 above 1,024 variables, 7 as in propagation, 8 with 128 words of 64 bits for each variable and the u32 scratch of propagation (rules 3.5 and 3.6)
unfoldable pub allow_tests : ℕ → List ℕ → ℕ → ℕ → List Test
allow_tests n list longs words =
    test Variables (leb n 1024)
    ∷ test Argument (constraints_fit n list)
    ∷ test Scratch (leb (128 * n) longs)
    ∷ test Scratch (words_fit n (room list) words)
    ∷ []

-- What passing 1, 7 and 8 leaves: few variables, a list of fitting records, and both scratches long enough.
pub record Ready (n : ℕ) (list : List ℕ) (longs words : ℕ) : Type 0 where
  pub few : n ≤ 1024
  pub listed : Listed n list
  pub longs_room : 128 * n ≤ longs
  pub words_room : 16 * n + 8 * room list + 16 ≤ words

-- 9 where a list is too short: n places for values, and 2n for counts (rule 3.7)
unfoldable pub fits : ℕ → ℕ → ℕ → Bool
fits n places numbers = leb n places && leb (2 * n) numbers

-- The whole table of `allow`: 1, 7, 8 and 9.
unfoldable pub allow_table : ℕ → List ℕ → ℕ → ℕ → ℕ → ℕ → List Test
allow_table n list places numbers longs words = allow_tests n list longs words ++ test Room (fits n places numbers) ∷ []

-- tests 1, 7 and 8, then room, then the answer: on 9 every answer list is all zeros, past test 8 scratch ends as zeros, and what stands
-- behind the last item is as it was (rules 3.9 to 3.11)
unfoldable pub allow_call : ℕ → List ℕ → List ℕ → List ℕ → List ℕ → List ℕ → Left
allow_call n list a c w u =
    called
    (usual Err (lent a c w u) (allow_tests n list (length w) (length u))
    (stage Room (fits n (length a) (length c)) (lent (cleared 0 a) (cleared 0 c) (cleared 0 w) (cleared 0 u)) ∷ [])
    (left (Ok (allowed_of (rules list) n)) (over (assignment_of (rules list) n) a) (over (counts_of (rules list) n) c) (cleared 0 w) (cleared 0 u)))

-- The assignment of n variables that the call leaves at the front of its list.
abbrev pub assigned : ℕ → List ℕ → List ℕ → List ℕ → List ℕ → List ℕ → List ℕ
assigned n list a c w u = take n (allow_call n list a c w u).lent.assignment

-- How many literals the literal (i, v) reaches, as the call leaves it in the list of counts.
abbrev pub count_at : ℕ → List ℕ → List ℕ → List ℕ → List ℕ → List ℕ → ℕ → ℕ → ℕ
count_at n list a c w u i v = get_or (allow_call n list a c w u).lent.counts (2 * i + v) 0
