-- `answer` answers the front that it is told to. Assumes nothing.
use Rattle.std.proofs.Common.{min, take, ap, sym, ◌∙◌, ◌≡◌, ℕ}
use Rattle.std.proofs.lemmas.List.{take_min}
use Rattle.text.proofs.Writes.{as_written}
use Rattle.answering.specs.Answer.{answer_bytes}
use Rattle.answering.proofs.answer.Goals as goal

pub returns-clause-written : goal.returns-clause-written
returns-clause-written c =
    let all : take c.min.result c.args.input.now ≡ take c.args.n c.args.input.now =
    ap (λ (k : ℕ). take k c.args.input.now) (c.min.ensures ∙ ap (min c.args.n) (sym c.told-input)) ∙ take_min c.args.n c.args.input.now in
    as_written (ap answer_bytes all) c.answer_bytes.ensures
