-- The one number that an exported call answers, and how each part of the answer is read from it. Assumes nothing.
use Rattle.std.specs.Prelude.{ℕ, ◌+◌, ◌*◌, ◌/◌, ◌%◌, ◌≡◌, ◌<◌, Float, Err, Ok}
use Rattle.field.specs.declared.Grade.{Grade}
use Rattle.field.specs.declared.Grade.TheVariants.{Exact, Inexact}
use Rattle.field.specs.declared.Counted.{Counted}
use Rattle.pairs.specs.declared.Paired.{Paired}
use Rattle.weights.specs.Worth.{zero64}
use Rattle.reason.specs.declared.Ground.{Ground}
use Rattle.reason.specs.declared.Ground.TheVariants.{Given, Lower, Upper}
use Rattle.reason.specs.declared.Reasoned.{Reasoned}
use Rattle.sub_problem.specs.declared.Reduced.{Reduced}
use Rattle.mend.specs.declared.Mended.{Mended}
use Rattle.allow.specs.declared.Allowed.{Allowed}
use Rattle.allow.specs.declared.Allowed.TheVariants.{Yes, No}
use Rattle.field.specs.Answers.{position_of, answer_number, Answer}
use Rattle.packing.specs.declared.findings.Parts.{Parts}

-- ---- the layout

-- the refusal in bits 0 to 7, the grade in 8 to 15, where `allow` has yes, the count in 16 to 43, the pairs examined in 44 to 63, where a reason has 4 times its unit and its ground,
-- the smaller problem its new n, and a mended list the number of changes
abbrev pub packed : ℕ → ℕ → ℕ → ℕ → ℕ
packed refusal grade count pairs = refusal + 0x100 * grade + 0x1_0000 * count + 0x1000_0000_0000 * pairs

-- a number from which each part is read back
pub record Reads (r refusal grade count pairs : ℕ) : Type 0 where
  pub refusal_read : r % 0x100 ≡ refusal
  pub grade_read : r / 0x100 % 0x100 ≡ grade
  pub count_read : r / 0x1_0000 % 0x1000_0000 ≡ count
  pub pairs_read : r / 0x1000_0000_0000 ≡ pairs

-- ---- any answer: a refusal has no grade, and its count is the position that it names

module _ {A : Type 0} (parts : A → Parts) where
  -- The grade of an answer as a number; 0 for a refusal, which has none.
  abbrev pub grade_in : Answer A → ℕ
  grade_in (Ok x) = (parts x).grade
  grade_in (Err r) = 0

  -- The count of an answer, or the position that its refusal names.
  abbrev pub count_in : Answer A → ℕ
  count_in (Ok x) = (parts x).count
  count_in (Err r) = position_of r

  -- What stands in an answer where `pairs` has the pairs examined; 0 for a refusal.
  abbrev pub more_in : Answer A → ℕ
  more_in (Ok x) = (parts x).more
  more_in (Err r) = 0

  -- The number of an answer: its refusal, the grade, the count, and what stands where `pairs` has the pairs examined.
  abbrev pub packed_by : Answer A → ℕ
  packed_by a = packed (answer_number a) (grade_in a) (count_in a) (more_in a)

  -- Both counts of an answer have room in its number.
  pub record Fits (a : Answer A) : Type 0 where
    pub count : count_in a < 0x1000_0000
    pub more : more_in a < 0x10_0000

-- ---- the parts of what each call finds

-- The number of a grade: 0 for inexact, 1 for exact.
abbrev pub grade_number : Grade → ℕ
grade_number Inexact = 0
grade_number Exact = 1

-- The number of a ground: 0 for given, 1 for a lower bound, 2 for an upper bound.
abbrev pub ground_number : Ground → ℕ
ground_number Given = 0
ground_number (Lower b) = 1
ground_number (Upper b) = 2

-- The parts of what has a grade, a count and a second one.
abbrev pub graded : Grade → ℕ → ℕ → Parts
graded g count more = record { grade = grade_number g; count = count; more = more }

-- A call that finds nothing has no grade and no count.
abbrev pub parts_of_nothing : Unit {0} → Parts
parts_of_nothing x = record { grade = 0; count = 0; more = 0 }

-- A grade alone has no count.
abbrev pub parts_of_grade : Grade → Parts
parts_of_grade g = graded g 0 0

-- Of what counts, the grade and the count.
abbrev pub parts_of_counted : Counted → Parts
parts_of_counted x = graded x.grade x.count 0

-- Of what `pairs` finds, the grade, the records found and the pairs examined.
abbrev pub parts_of_paired : Paired → Parts
parts_of_paired x = graded x.grade x.items x.pairs

-- Of what `reason` finds, the grade of an exact field, the neighbours listed, and 4 times the unit with the ground.
abbrev pub parts_of_reasoned : Reasoned → Parts
parts_of_reasoned x = record { grade = 1; count = x.count; more = 4 * x.unit + ground_number x.because }

-- Of what `sub_problem` finds, the grade, the new m and the new n.
abbrev pub parts_of_reduced : Reduced → Parts
parts_of_reduced x = graded x.grade x.entries x.variables

-- Of what `mend` finds, the mended field's grade, the new m and the changes.
abbrev pub parts_of_mended : Mended → Parts
parts_of_mended x = graded x.grade x.entries x.changes

-- Of what `allow` finds, 1 for yes, or 0 for no and the variable that it names.
abbrev pub parts_of_allowed : Allowed → Parts
parts_of_allowed Yes = record { grade = 1; count = 0; more = 0 }
parts_of_allowed (No i) = record { grade = 0; count = i; more = 0 }

-- ---- the parts of each answer

-- The count of an answer without a grade: 0, or the position that its refusal names.
abbrev pub checked_count : Answer Unit → ℕ
checked_count a = count_in parts_of_nothing a

-- The grade of an answer as a number; 0 for a refusal, which has none.
abbrev pub answer_grade : Answer Grade → ℕ
answer_grade a = grade_in parts_of_grade a

-- The count of an answer with a grade: 0, or the position that its refusal names.
abbrev pub answer_count : Answer Grade → ℕ
answer_count a = count_in parts_of_grade a

-- The grade of an answer with a count, as a number; 0 for a refusal.
abbrev pub counted_grade : Answer Counted → ℕ
counted_grade a = grade_in parts_of_counted a

-- The count of an answer that counts, or the position that its refusal names.
abbrev pub count_of : Answer Counted → ℕ
count_of a = count_in parts_of_counted a

-- The grade of an answer of `pairs`, as a number; 0 for a refusal.
abbrev pub paired_grade : Answer Paired → ℕ
paired_grade a = grade_in parts_of_paired a

-- How many records `pairs` found, or the position that its refusal names.
abbrev pub paired_count : Answer Paired → ℕ
paired_count a = count_in parts_of_paired a

-- How many pairs `pairs` examined, whether they gave a record or not; 0 for a refusal.
abbrev pub pairs_examined : Answer Paired → ℕ
pairs_examined a = more_in parts_of_paired a

-- The grade of an answer of `reason`: 1, since a reason is of an exact field; 0 for a refusal.
abbrev pub reasoned_grade : Answer Reasoned → ℕ
reasoned_grade a = grade_in parts_of_reasoned a

-- How many neighbours `reason` listed, or the position that its refusal names.
abbrev pub reasoned_count : Answer Reasoned → ℕ
reasoned_count a = count_in parts_of_reasoned a

-- The unit k of a reason, which is 2^(k - 20); 0 for a refusal.
abbrev pub reasoned_unit : Answer Reasoned → ℕ
reasoned_unit (Ok x) = x.unit
reasoned_unit (Err r) = 0

-- Unit and ground of a reason in one number, 4 times the unit and the ground; 0 for a refusal.
abbrev pub reasoned_parts : Answer Reasoned → ℕ
reasoned_parts a = more_in parts_of_reasoned a

-- The bound of a ground, which is given beside the answer's number: 0.0 for a given variable.
abbrev pub bound_of : Ground → Float
bound_of Given = zero64
bound_of (Lower b) = b
bound_of (Upper b) = b

-- What stands for the bound after the call: that of the reason, or, on a refusal, what was there.
abbrev pub bound_after : Answer Reasoned → Float → Float
bound_after (Ok x) before = bound_of x.because
bound_after (Err r) before = before

-- The grade of an answer of `sub_problem`, as a number; 0 for a refusal.
abbrev pub reduced_grade : Answer Reduced → ℕ
reduced_grade a = grade_in parts_of_reduced a

-- The new m that `sub_problem` answers, or the position that its refusal names.
abbrev pub new_entries : Answer Reduced → ℕ
new_entries a = count_in parts_of_reduced a

-- The new n that `sub_problem` answers, how many variables are free; 0 for a refusal.
abbrev pub new_variables : Answer Reduced → ℕ
new_variables a = more_in parts_of_reduced a

-- the constant of an answer, which is given beside its number; a refusal leaves what was there
abbrev pub constant_after : Answer Reduced → Float → Float
constant_after (Ok x) before = x.constant
constant_after (Err r) before = before

-- The grade of an answer of `mend`, which is that of the mended field, as a number; 0 for a refusal.
abbrev pub mended_grade : Answer Mended → ℕ
mended_grade a = grade_in parts_of_mended a

-- The new m that `mend` answers, or the position that its refusal names.
abbrev pub mended_entries : Answer Mended → ℕ
mended_entries a = count_in parts_of_mended a

-- How many changes `mend` reports, of three numbers each; 0 for a refusal.
abbrev pub mended_changes : Answer Mended → ℕ
mended_changes a = more_in parts_of_mended a

-- What stands in place of the grade for `allow`: 1 for yes, 0 for no and for a refusal.
abbrev pub allowed_grade : Answer Allowed → ℕ
allowed_grade a = grade_in parts_of_allowed a

-- The variable that a no names, or the position that a refusal names; 0 for yes.
abbrev pub allowed_count : Answer Allowed → ℕ
allowed_count a = count_in parts_of_allowed a

-- ---- the number of each answer

-- The number of an answer without a grade: its refusal, and the position that this names.
abbrev pub packed_checked : Answer Unit → ℕ
packed_checked a = packed_by parts_of_nothing a

-- The number of an answer with a grade alone: its refusal, the grade, and the position named.
abbrev pub packed_answer : Answer Grade → ℕ
packed_answer a = packed_by parts_of_grade a

-- The number of an answer that counts: its refusal, the grade and the count.
abbrev pub packed_counted : Answer Counted → ℕ
packed_counted a = packed_by parts_of_counted a

-- The number of an answer of `pairs`: its refusal, the grade, the records and the pairs examined.
abbrev pub packed_paired : Answer Paired → ℕ
packed_paired a = packed_by parts_of_paired a

-- The number of an answer of `reason`: its refusal, the grade, the neighbours, the unit and the ground.
abbrev pub packed_reasoned : Answer Reasoned → ℕ
packed_reasoned a = packed_by parts_of_reasoned a

-- The number of an answer of `sub_problem`: its refusal, the grade, the new m and the new n.
abbrev pub packed_reduced : Answer Reduced → ℕ
packed_reduced a = packed_by parts_of_reduced a

-- The number of an answer of `mend`: its refusal, the grade, the new m and the changes.
abbrev pub packed_mended : Answer Mended → ℕ
packed_mended a = packed_by parts_of_mended a

-- The number of an answer of `allow`: its refusal, yes or no, and the variable that a no names.
abbrev pub packed_allowed : Answer Allowed → ℕ
packed_allowed a = packed_by parts_of_allowed a
