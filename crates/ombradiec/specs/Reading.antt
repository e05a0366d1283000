-- What a caller reads from the number of an exported call, and which counts have room in it. Assumes nothing.
use Rattle.std.specs.Prelude.{ℕ, ◌<◌}
use Rattle.field.specs.declared.Counted.{Counted}
use Rattle.field.specs.Answers.{answer_number, Answer}
use Rattle.pairs.specs.declared.Paired.{Paired}
use Rattle.packing.specs.Layout.{Reads, Fits, answer_grade, answer_count, counted_grade, count_of, reasoned_grade, reasoned_count, reasoned_unit, reasoned_parts, parts_of_paired, parts_of_reduced, parts_of_mended}
use Rattle.reason.specs.declared.Reasoned.{Reasoned}
use Rattle.sub_problem.specs.declared.Reduced.{Reduced}
use Rattle.mend.specs.declared.Mended.{Mended}
use Rattle.field.specs.declared.Grade.{Grade}

-- the refusal and the grade of the answer, and no count but the position that a refusal names
abbrev pub AnswerRead : Answer Grade → ℕ → Type 0
AnswerRead a r = Reads r (answer_number a) (answer_grade a) (answer_count a) 0

-- What a caller reads from r is the refusal, the grade and the one count of the answer a.
abbrev pub CountRead : Answer Counted → ℕ → Type 0
CountRead a r = Reads r (answer_number a) (counted_grade a) (count_of a) 0

-- both counts of an answer of pairs have room
abbrev pub Few : Answer Paired → Type 0
Few a = Fits parts_of_paired a

-- of a reason: no grade but exact, the items listed, and 4 times the unit with the ground
abbrev pub ReasonRead : Answer Reasoned → ℕ → Type 0
ReasonRead a r = Reads r (answer_number a) (reasoned_grade a) (reasoned_count a) (reasoned_parts a)

-- the count and the unit of a reason have room
pub record FewListed (a : Answer Reasoned) : Type 0 where
  pub count : reasoned_count a < 0x1000_0000
  pub unit : reasoned_unit a < 256

-- both sizes of a smaller problem have room
abbrev pub FewLeft : Answer Reduced → Type 0
FewLeft a = Fits parts_of_reduced a

-- both counts of a mended list have room
abbrev pub FewMended : Answer Mended → Type 0
FewMended a = Fits parts_of_mended a
