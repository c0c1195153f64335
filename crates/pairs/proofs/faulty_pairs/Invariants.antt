-- Each turn takes one pair whose count is not 0 and reaches no further from the last end than its own end; the list passes where the last end is the length.
use Prim.Native.Nat.{◌*◌, ◌<◌}
use lib.ListN.{drop}
use Rattle.pairs.proofs.PairsLaws.{PairsLeft}
use Rattle.pairs.proofs.faulty_pairs.Given as goal

abbrev pub invariant-loop-k : goal.invariant-loop-k
invariant-loop-k l = PairsLeft l.letters l.pairs l.last (drop (2 * l.k) l.pairs) × (l.last < 65536)
