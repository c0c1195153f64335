-- From the place i on the entries are those of the longest words; a turn reads them and writes the one before.
use Rattle.longest.proofs.LongestLaws.{LongestFrom}
use Rattle.longest.proofs.fill_longest.Given as goal

abbrev pub invariant-loop-i : goal.invariant-loop-i
invariant-loop-i l = LongestFrom l.word l.initial.longest l.longest l.i
