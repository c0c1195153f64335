use Rattle.totals.proofs.ListLoop.{list-other, list-on, list-done}
use Rattle.totals.proofs.list_is.Goals as goal

pub returns-then-ne : goal.returns-then-ne
returns-then-ne c = list-other c.loop-number.invariant c.loop-number-test.true c.next.result c.next.ensures.steps c.if-ne.ensures

pub loop-number-preserved : goal.loop-number-preserved
loop-number-preserved c = list-on c.loop-number.invariant c.loop-number-test.true c.next.result c.next.ensures.steps c.if-ne.ensures

pub returns : goal.returns
returns c = list-done c.loop-number.invariant c.loop-number-test.false c.next-2.result c.is_none.result c.next-2.ensures.steps c.is_none.ensures
