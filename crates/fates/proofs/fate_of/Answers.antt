-- An end past the place: joined; the place itself: kept.
use borrow.Author.Tests.{lt-ltb, le-ltb}
use Rattle.fates.proofs.fate_of.Goals as goal

pub returns-then-place-end : goal.returns-then-place-end
returns-then-place-end c = simp (lt-ltb _ _ c.if-place-end.true)

pub returns : goal.returns
returns c = simp (le-ltb _ _ c.if-place-end.false)
