-- The first number, then the byte of the turn and a number, the two bytes exchanged; what is left of the text says the rest of the list (Listing).
use Rattle.parsing.proofs.ListLoop.{Listing}
use lib.ListN.{length}
use Prim.Native.Nat.{◌-◌}
use Rattle.parsing.proofs.read_list.Given as goal

abbrev pub invariant-loop-end : goal.invariant-loop-end
invariant-loop-end l = Listing l.fn.separators.first l.fn.separators.second l.text l.at l.count l.end l.between.first l.between.second

abbrev pub decreases-loop-end : goal.decreases-loop-end
decreases-loop-end l = length l.text - l.end
