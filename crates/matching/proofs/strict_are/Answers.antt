use Rattle.matching.proofs.StrictLoop.{walk-begin, other-end, walk-on, walk-done}
use Rattle.matching.proofs.strict_are.Goals as goal

pub loop-end-init : goal.loop-end-init
loop-end-init c = rw c.into_iter-end-iterator.ensures.into_iter_gives (walk-begin c.args.word.now c.args.ends c.of-factors.ensures)

pub returns-then-ne : goal.returns-then-ne
returns-then-ne c =
    other-end c.loop-end.invariant c.in-Some.ensures.steps c.from.ensures _ _ c.next-in-loop-end.ensures.steps c.if-ne.ensures

pub loop-end-preserved : goal.loop-end-preserved
loop-end-preserved c =
    walk-on c.loop-end.invariant c.in-Some.ensures.steps c.from.ensures _ _ c.next-in-loop-end.ensures.steps c.if-ne.ensures

pub returns : goal.returns
returns c = walk-done c.loop-end.invariant c.in-None.ensures.steps _ _ c.next-2.ensures.steps c.is_none.ensures
