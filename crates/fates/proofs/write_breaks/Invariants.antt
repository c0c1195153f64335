-- Each turn tells one cut by its note and by the first end that is left, and writes it if it is a break.
use Rattle.fates.proofs.Writing.{Writing}
use Rattle.fates.proofs.write_breaks.Given as goal

abbrev pub invariant-loop-k : goal.invariant-loop-k
invariant-loop-k l = Writing l.word l.work l.initial.buffer l.buffer l.all l.next l.end l.begun l.at l.k
