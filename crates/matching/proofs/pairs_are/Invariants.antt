use Rattle.matching.proofs.PairsLoop.{Walk}
use Rattle.matching.proofs.pairs_are.Given as goal

abbrev pub invariant-loop-next : goal.invariant-loop-next
invariant-loop-next l = Walk l.word l.fn.pairs l.next-iterator l.first l.pair
