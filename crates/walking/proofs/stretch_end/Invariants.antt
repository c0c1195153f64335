-- There is no separator before the place that is looked at.
use Rattle.walking.specs.Walking.{UnmarkedTo}
use Rattle.walking.proofs.stretch_end.Given as goal

abbrev pub invariant-loop-end : goal.invariant-loop-end
invariant-loop-end l = UnmarkedTo l.word l.from l.end
