-- The l letters before i are equal to those a period later; the loop stops at one that is not, one past the period, or at the first letter.
use Rattle.found.proofs.FoundLaws.{Leftwards}
use Rattle.found.proofs.left_of.Given as goal

abbrev pub invariant-loop-l : goal.invariant-loop-l
invariant-loop-l l = Leftwards l.word l.i l.period l.l
