-- The word from i to j is a Lyndon word of the order; the longest one at j joins it if it comes after it, and else nothing longer begins at i.
use Prim.Native.Nat.{◌-◌}
use lib.ListN.{length}
use Rattle.theory.specs.Table.Merging.{Merged}
use Rattle.common.specs.Orders.{in_order}
use Rattle.longest.proofs.merged_length.Given as goal

abbrev pub invariant-loop-j : goal.invariant-loop-j
invariant-loop-j g l = Merged (in_order g.O.LetterOrder.natural l.word) l.i l.j

abbrev pub decreases-loop-j : goal.decreases-loop-j
decreases-loop-j g l = length l.word - l.j
