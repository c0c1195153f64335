-- The word from i to j is anti-Lyndon; the longest word at j joins it if it comes after it, and else nothing longer begins at i.
use Prim.Native.Nat.{◌-◌}
use lib.ListN.{length}
use Rattle.theory.specs.Table.Merging.{Merged}
use Rattle.merging.proofs.longest_from.Given as goal

abbrev pub invariant-loop-j : goal.invariant-loop-j
invariant-loop-j l = Merged l.word l.i l.j

abbrev pub decreases-loop-j : goal.decreases-loop-j
decreases-loop-j l = length l.word - l.j
