-- `append` writes where there is something to write, and room. Assumes nothing.
use Rattle.pairs.proofs.ListLaws.{appended_none, appended_full, appended_put}
use Rattle.pairs.proofs.listing.append.Goals as goal

pub returns-then-key-eq0 : goal.returns-then-key-eq0
returns-then-key-eq0 c = appended_none c.if-key-eq0.true

pub returns-then-at-list : goal.returns-then-at-list
returns-then-at-list c = appended_full c.if-key-eq0.false c.if-at-list.true

pub returns : goal.returns
returns c =
    appended_put c.if-key-eq0.false c.if-at-list.false c.put_key.ensures
