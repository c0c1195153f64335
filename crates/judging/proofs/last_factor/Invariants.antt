use Rattle.judging.proofs.LastFactors.{Descends}
use Rattle.judging.proofs.last_factor.Given as goal

abbrev pub invariant-loop-s : goal.invariant-loop-s
invariant-loop-s l = Descends l.word l.s

abbrev pub decreases-loop-s : goal.decreases-loop-s
decreases-loop-s l = l.s.length
