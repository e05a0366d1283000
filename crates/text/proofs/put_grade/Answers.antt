-- `put_grade` writes one of two lines. Assumes nothing.
use native.Mathlib.Omega.{arith}
use Rattle.text.specs.Text.{grade_line}
use Rattle.text.proofs.Writes.{wrote_grade}
use Rattle.text.proofs.put_grade.Goals as goal

pub returns-in-Exact : goal.returns-in-Exact
unfolding grade_line
returns-in-Exact c = record {
  wrote = wrote_grade c.in-Exact.is c.put_bytes.ensures;
  upper_bound = omega (
    arith,
    c.put_bytes.ensures.next,
  );
}

pub returns-in-Inexact : goal.returns-in-Inexact
unfolding grade_line
returns-in-Inexact c = record {
  wrote = wrote_grade c.in-Inexact.is c.put_bytes-in-Inexact.ensures;
  upper_bound = omega (
    arith,
    c.put_bytes-in-Inexact.ensures.next,
  );
}
