-- From entry top on stand the ends of what follows the cuts that are left; each turn takes one cut off, and keeps its place or not.
use Rattle.breaks.proofs.GatherLaws.{Gathering}
use Rattle.breaks.proofs.gather_ends.Given as goal

abbrev pub invariant-loop-k : goal.invariant-loop-k
invariant-loop-k l = Gathering l.word l.initial.work l.work l.count l.k l.top l.next
