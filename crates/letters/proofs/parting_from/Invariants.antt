-- The letters read so far are equal; it returns where the two differ or one word ends.
use Rattle.theory.specs.Orders.CommonLength.{Matched}
use Rattle.letters.proofs.parting_from.Given as goal

abbrev pub invariant-loop-k : goal.invariant-loop-k
invariant-loop-k l = Matched l.x l.y l.k
