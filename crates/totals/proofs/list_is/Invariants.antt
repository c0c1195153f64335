use Rattle.totals.proofs.ListLoop.{Compares}
use Rattle.totals.proofs.list_is.Given as goal

abbrev pub invariant-loop-number : goal.invariant-loop-number
invariant-loop-number l = Compares l.fn.items l.items l.numbers l.number-index
