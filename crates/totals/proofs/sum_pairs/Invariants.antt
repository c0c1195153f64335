-- The tally has the pairs that came, and the others are left.
use Rattle.totals.proofs.SumLoop.{Summing}
use Rattle.totals.proofs.sum_pairs.Given as goal

abbrev pub invariant-loop-pair : goal.invariant-loop-pair
invariant-loop-pair l = Summing l.fn.pairs l.pair-iterator l.tally
