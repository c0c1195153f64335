-- The letters read so far are equal, and their number is a multiple of eight; so eight more are there while the loop goes on.
use mathlib.Core.Path.{◌≡◌}
use Prim.Native.Nat.{◌-◌, ◌%◌}
use Rattle.theory.specs.Orders.CommonLength.{Matched}
use Rattle.common.proofs.parting.Given as goal

abbrev pub invariant-loop-l : goal.invariant-loop-l
invariant-loop-l l = Matched l.x l.y l.l × (l.l % 8 ≡ 0)

abbrev pub decreases-loop-l : goal.decreases-loop-l
decreases-loop-l l = l.whole - l.l
