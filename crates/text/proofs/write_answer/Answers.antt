-- `write_answer` writes the grade, the lines and their count. Assumes nothing.
use native.Mathlib.Omega.{arith}
use lib.ListN.{length}
use Rattle.text.proofs.Writes.{forced_few, answer_written}
use Rattle.text.proofs.write_answer.Goals as goal

pub put_end-requires : goal.put_end-requires
put_end-requires c =
    let a = c.args in
    record {
      count_bound = omega (
        arith,
        forced_few a.start.now a.values.now (length a.start.now),
        c.put_variables-shown.ensures.counted,
        c.requires,
      );
      at_in_bounds = omega (
        arith,
        c.put_variables-shown.ensures.short,
        c.put_variables-shown.auto.out,
        c.put_grade-first.ensures.upper_bound,
        c.put_grade-first.auto.out,
        c.requires,
      );
    }

pub returns : goal.returns
returns c =
    let a = c.args in
    answer_written _ a.start.now a.values.now c.put_grade-first.ensures.wrote c.put_variables-shown.ensures
    c.put_end.ensures.wrote (omega (
      arith,
      c.put_end.ensures.upper_bound,
      c.put_variables-shown.ensures.short,
      c.put_grade-first.ensures.upper_bound,
      c.requires,
    ))
