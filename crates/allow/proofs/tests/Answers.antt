-- `tests` makes tests 1, 7 and 8. Assumes nothing.
use mathlib.Core.Path.{sym, ◌∙◌}
use native.Mathlib.Omega.{arith}
use borrow.Author.Tests.{le-leb, lt-leb}
use Rattle.field.proofs.Table.{test_no, test_ok, none_left}
use Rattle.propagation.proofs.Means.{listed_is}
use Rattle.allow.specs.Call.{allow_tests}
use Rattle.allow.proofs.tests.Goals as goal

pub returns-then-n-gt1024 : goal.returns-then-n-gt1024
unfolding allow_tests
returns-then-n-gt1024 c = test_no _ _ (lt-leb _ _ c.if-n-gt1024.true)

pub returns-then-not-constraints_fit : goal.returns-then-not-constraints_fit
unfolding allow_tests
returns-then-not-constraints_fit c = test_ok _ _ (le-leb _ _ c.if-n-gt1024.false) (test_no _ _ (sym c.constraints_fit.ensures ∙ c.if-not-constraints_fit.true))

pub returns-then-n-longs : goal.returns-then-n-longs
unfolding allow_tests
returns-then-n-longs c = test_ok _ _ (le-leb _ _ c.if-n-gt1024.false) (test_ok _ _ (sym c.constraints_fit.ensures ∙ c.if-not-constraints_fit.false) (test_no _ _ (lt-leb _ _ c.if-n-longs.true)))

pub words_fit-requires : goal.words_fit-requires
words_fit-requires c =
    let listed = (listed_is _ _).0 (sym c.constraints_fit.ensures ∙ c.if-not-constraints_fit.false) in
    (omega (arith, c.if-n-gt1024.false), omega (arith, listed.few, listed.whole))

pub returns-then-not-words_fit : goal.returns-then-not-words_fit
unfolding allow_tests
returns-then-not-words_fit c =
    test_ok _ _ (le-leb _ _ c.if-n-gt1024.false) (test_ok _ _ (sym c.constraints_fit.ensures ∙ c.if-not-constraints_fit.false)
    (test_ok _ _ (le-leb _ _ c.if-n-longs.false) (test_no _ _ (sym c.words_fit.ensures ∙ c.if-not-words_fit.true))))

pub returns : goal.returns
unfolding allow_tests
returns c =
    test_ok _ _ (le-leb _ _ c.if-n-gt1024.false) (test_ok _ _ (sym c.constraints_fit.ensures ∙ c.if-not-constraints_fit.false)
    (test_ok _ _ (le-leb _ _ c.if-n-longs.false) (test_ok _ _ (sym c.words_fit.ensures ∙ c.if-not-words_fit.false) none_left)))
