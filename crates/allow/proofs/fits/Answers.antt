-- `fits` asks for room in both answer lists. Assumes nothing.
use mathlib.Core.Path.{refl}
use borrow.Author.Tests.{le-leb, lt-leb}
use Rattle.allow.specs.Call.{fits}
use Rattle.allow.proofs.fits.Goals as goal

pub returns-then-n-places : goal.returns-then-n-places
unfolding fits
returns-then-n-places c = rw (le-leb c.args.n c.args.places c.if-n-places.true) refl

pub returns-else-n-places : goal.returns-else-n-places
unfolding fits
returns-else-n-places c = rw (lt-leb c.args.n c.args.places c.if-n-places.false) refl
