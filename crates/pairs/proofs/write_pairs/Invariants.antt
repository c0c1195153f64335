-- Each turn counts one piece; the pairs so far and those still to come are all pairs.
use Rattle.pairs.proofs.PairingLaws.{Pairing}
use Rattle.pairs.proofs.write_pairs.Given as goal

abbrev pub invariant-loop-i : goal.invariant-loop-i
invariant-loop-i l = Pairing l.word l.ends l.initial.pairs l.pairs l.from l.i
