use Rattle.strict.specs.Left.{factors_left}
use Rattle.matching.proofs.StrictLoop.{Walk}
use Rattle.matching.proofs.strict_are.Given as goal

abbrev pub invariant-loop-end : goal.invariant-loop-end
invariant-loop-end l = Walk l.word l.fn.ends l.end-iterator (factors_left l.factors)
