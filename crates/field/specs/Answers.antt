-- The number of each answer (rule 3.1), and the position that a refusal names (rule 3.2). Assumes nothing.
use Rattle.std.specs.Prelude.{ℕ, Result, Ok, Err}
use Rattle.field.specs.declared.Refusal.{Refusal}
use Rattle.field.specs.declared.Refusal.TheVariants.{Variables, Lists, Row, Column, Repeat, Order, Diagonal, Weights, Start, Argument, Scratch, Room, Clash, Inexact, Unforced, Sum}
use Rattle.field.specs.declared.Grade.{Grade}
use Rattle.field.specs.declared.Counted.{Counted}

-- The table's number of a refusal: 1, 2, 4 to 10 and 12 to 18, each for one refusal alone.
abbrev pub number_of : Refusal → ℕ
number_of Variables = 1
number_of Lists = 2
number_of (Row k) = 14
number_of (Column k) = 15
number_of (Repeat k) = 16
number_of (Order k) = 17
number_of Diagonal = 4
number_of Weights = 5
number_of Start = 6
number_of Argument = 7
number_of Scratch = 8
number_of Room = 9
number_of Clash = 10
number_of Inexact = 12
number_of Unforced = 13
number_of Sum = 18

-- the position of the first entry at fault, from 0; 0 for a refusal that names none
abbrev pub position_of : Refusal → ℕ
position_of Variables = 0
position_of Lists = 0
position_of (Row k) = k
position_of (Column k) = k
position_of (Repeat k) = k
position_of (Order k) = k
position_of Diagonal = 0
position_of Weights = 0
position_of Start = 0
position_of Argument = 0
position_of Scratch = 0
position_of Room = 0
position_of Clash = 0
position_of Inexact = 0
position_of Unforced = 0
position_of Sum = 0

-- What a call answers: what it finds, or a refusal.
abbrev pub Answer : Type 0 → Type 0
Answer A = Result A Refusal

-- What a group of tests answers where all of them pass.
abbrev pub passed : Answer Unit
passed = Ok tt

-- What a call that counts finds, made of the grade and the count.
abbrev pub counted : Grade → ℕ → Counted
counted g k = record { grade = g; count = k }

-- What a call that counts answers where it is done: the grade and the count.
abbrev pub counted_answer : Grade → ℕ → Answer Counted
counted_answer g k = Ok (counted g k)

-- The number that a call answers: 0 where it is done, else that of the refusal.
abbrev pub answer_number : {A : Type 0} → Answer A → ℕ
answer_number (Ok x) = 0
answer_number (Err r) = number_of r
