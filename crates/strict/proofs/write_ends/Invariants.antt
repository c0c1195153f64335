-- Each turn stores one end; the ends so far and those still to come are all ends.
use Rattle.words.specs.Separated.{separated_cfl_in_ends}
use Rattle.strict.specs.Left.{factors_left}
use Rattle.strict.proofs.Storing.{Storing}
use Rattle.strict.proofs.write_ends.Given as goal

abbrev pub invariant-loop-end : goal.invariant-loop-end
invariant-loop-end l = Storing (separated_cfl_in_ends l.word) (factors_left l.end-iterator) l.initial.ends l.ends l.count
