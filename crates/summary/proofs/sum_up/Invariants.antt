-- What is summed up so far, together with the parts that follow, is the definition's summary.
use Rattle.words.specs.Pairs.{ends_of}
use Rattle.summary.specs.Tallies.{SummedUpTo}
use Rattle.summary.proofs.sum_up.Given as goal

abbrev pub invariant-loop-i : goal.invariant-loop-i
invariant-loop-i l = SummedUpTo (ends_of l.pairs) l.longest l.from l.bands l.last l.i
