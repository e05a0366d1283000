-- `write` writes the report, clears the lists and writes the entries. Assumes nothing.
use Rattle.mend.proofs.Laws.{reportable, returnable, written}
use Rattle.mend.proofs.write.Goals as goal

pub put-requires : goal.put-requires
put-requires c = reportable c.requires

pub put_back-requires : goal.put_back-requires
put_back-requires c =
    returnable c.requires (c.fill.ensures.after (λ y e. e)) (c.fill-2.ensures.after (λ y e. e)) (c.fill-3.ensures.after (λ y e. e))

pub returns : goal.returns
returns c =
    written c.requires (c.fill.ensures.after (λ y e. e)) (c.fill-2.ensures.after (λ y e. e)) (c.fill-3.ensures.after (λ y e. e)) c.put_back.ensures c.put.ensures
