-- What is found at the places before i is in the list; a turn adds what is found at i.
use Rattle.walking.proofs.VisitLaws.{Visiting}
use Rattle.walking.proofs.visit.Given as goal

abbrev pub invariant-loop-i : goal.invariant-loop-i
invariant-loop-i g l = Visiting l.stretch.word.now l.stretch.from l.initial.runs l.count g.S.Sink.stores l.runs l.total l.i
