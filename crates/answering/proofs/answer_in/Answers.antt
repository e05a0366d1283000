-- `answer_in` parses, and answers the field at the front of the lists. Assumes nothing.
use Rattle.text.proofs.Writes.{as_written}
use Rattle.answering.proofs.Answers.{found_fronted, field_text_lem, longer_text, malformed_text}
use Rattle.answering.proofs.answer_in.Goals as goal

pub returns-then-found-bytes : goal.returns-then-found-bytes
returns-then-found-bytes c = as_written (longer_text c.parse.ensures.parses c.in-Some.is c.if-found-bytes.true) c.write_refused.ensures

pub answer_found-requires-clause-fronted : goal.answer_found-requires-clause-fronted
answer_found-requires-clause-fronted c = found_fronted c.parse.ensures.parses c.in-Some.is

pub returns-else-found-bytes : goal.returns-else-found-bytes
returns-else-found-bytes c = as_written (field_text_lem c.parse.ensures.parses c.in-Some.is c.if-found-bytes.false) c.answer_found.ensures

pub returns-in-None : goal.returns-in-None
returns-in-None c = as_written (malformed_text c.parse.ensures.parses c.in-None.is) c.write_refused-in-None.ensures
