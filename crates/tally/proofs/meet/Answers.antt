-- `meet` parses, and counts the field at the front of the lists. Assumes nothing.
use mathlib.Core.Path.{◌∙◌}
use Rattle.answering.proofs.Answers.{found_fronted}
use Rattle.tally.proofs.Counts.{parse_keeps, met_field, met_malformed}
use Rattle.tally.proofs.meet.Goals as goal

pub returns-in_err-found-clause-met : goal.returns-in_err-found-clause-met
returns-in_err-found-clause-met c = c.from_residual.ensures ∙ met_malformed c.parse.ensures.parses c.in_err-found.was

pub returns-in_err-found-clause-kept : goal.returns-in_err-found-clause-kept
returns-in_err-found-clause-kept c = parse_keeps c.requires.room c.parse.ensures.same_lent c.parse.ensures.parses

pub count_found-totals-requires-clause-fronted : goal.count_found-totals-requires-clause-fronted
count_found-totals-requires-clause-fronted c = found_fronted c.parse.ensures.parses c.in_ok-found.was

pub returns-clause-met : goal.returns-clause-met
returns-clause-met c = met_field c.parse.ensures.parses c.in_ok-found.was c.count_found-totals.ensures

pub returns-clause-kept : goal.returns-clause-kept
returns-clause-kept c = parse_keeps c.requires.room c.parse.ensures.same_lent c.parse.ensures.parses
