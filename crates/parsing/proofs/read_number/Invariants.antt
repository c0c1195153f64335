-- The first digit, then one more in each turn; what is left of the text says what the number is (Digits).
use Rattle.parsing.proofs.NumberLoop.{Digits}
use Rattle.parsing.proofs.read_number.Given as goal

abbrev pub invariant-loop-end : goal.invariant-loop-end
invariant-loop-end l = Digits l.text l.at l.value l.end
